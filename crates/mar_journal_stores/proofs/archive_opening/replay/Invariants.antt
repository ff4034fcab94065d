use Rattle.std.proofs.Common.{[], map, ◌≡◌}
use Rattle.std.specs.List.{AllByRecursion}
use Rattle.mar_store.specs.Entries.{seen}
use Rattle.mar_journal.specs.ArchiveRecords.{IsArchived, kept_from}
use Rattle.mar_journal_stores.proofs.archive_opening.replay.Given as goal

abbrev pub invariant-loop-change : goal.invariant-loop-change
invariant-loop-change g l = record {
  kept : map seen l.entries.pile.items.items ≡ kept_from g.T.Item.name [] l.yielded;
  good : AllByRecursion (IsArchived g.T.Item.fits g.T.JournalItem.spelled) l.change-iterator.rest.items;
}
