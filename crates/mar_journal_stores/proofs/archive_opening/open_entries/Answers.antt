use Rattle.mar_journal.specs.ArchiveRecords.{IsArchived, archive_bytes}
use Rattle.mar_journal_stores.proofs.ArchiveSteps.{journal_valid}
use Rattle.mar_journal_stores.proofs.archive_opening.open_entries.Goals as goal

pub replay-requires : goal.replay-requires
replay-requires g c = journal_valid (archive_bytes g.T.Item.name g.T.JournalItem.spelled) (IsArchived g.T.Item.fits g.T.JournalItem.spelled) c.in_ok-opened.opened.records.items c.in_ok-opened.opened.end _ (c.in_ok-opened.ensures.done.0).journal
