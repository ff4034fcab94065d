use Rattle.mar_journal.specs.ArchiveRecords.{kept_from}
use Rattle.std.proofs.Common.{[], refl}
use Rattle.mar_journal_stores.proofs.ArchiveSteps.{opened_backed, opened_kept}
use Rattle.mar_journal_stores.proofs.journal_archive.JournalArchive.open.Goals as goal

pub invariant_of-result : goal.invariant_of-result
invariant_of-result g c =
    let done = c.in-Ok.ensures.done in
    rw (c.new.ensures.gone, c.new.ensures.may, c.new-in-Ok.ensures.disk, c.new-in-Ok.ensures.end, c.new-in-Ok.ensures.waiting, c.new-in-Ok.ensures.marks) (record {
      may_is = refl;
      backed = opened_backed g.T.Item.name g.T.JournalItem.spelled g.T.Item.fits g.D.Disk.seen g.D.Disk.may_leave c.open_entries.new.disk done.0 c.in-Ok.entries.pile.items.items c.in-Ok.entries.pile.synced c.in-Ok.end c.in-Ok.entries.pile.accepted done.3 done.1 c.in-Ok.entries.pile.fits;
    })

pub returns-in-Ok-clause-found : goal.returns-in-Ok-clause-found
returns-in-Ok-clause-found g c = let done = c.in-Ok.ensures.done in rw c.new.ensures.gone (done.0, done.2, opened_kept c.in-Ok.entries.pile.items.items c.in-Ok.entries.pile.synced (kept_from g.T.Item.name [] done.0) done.3 done.4, c.new-in-Ok-2.ensures.faults, c.new-in-Ok-2.ensures.due)
