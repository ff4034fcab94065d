use Rattle.std.proofs.Common.{filter, map, nat_le, not, take, ◌≡◌}
use Rattle.std.specs.List.{AllByRecursion}
use Rattle.mar_store.specs.Entries.{seen}
use Rattle.mar_journal_stores.proofs.archive_drafts.copies_below.Given as goal

abbrev pub invariant-loop-entry : goal.invariant-loop-entry
invariant-loop-entry g l = record {
  copies : map seen l.below.items ≡ map seen (filter (λ e. not (nat_le l.min e.index)) (take l.entry-index l.items));
  numbered : AllByRecursion (λ e. e.number ≡ l.mark) l.below.items;
}
