use Rattle.std.proofs.Common.{◌≡◌, ◌≤◌, ◌-◌, drop, take, length, true}
use Rattle.std.specs.List.{AllByRecursion}
use Rattle.mar_store.specs.Entries.{is_covered}
use Rattle.mar_store.proofs.pile.Pile.covered_end.Given as goal

abbrev pub invariant-loop-place : goal.invariant-loop-place
invariant-loop-place g l = record {
  from : l.self.synced ≤ l.place;
  within : l.place ≤ length l.self.items.items;
  before : AllByRecursion (λ e. is_covered l.number e ≡ true) (drop l.self.synced (take l.place l.self.items.items));
}

abbrev pub decreases-loop-place : goal.decreases-loop-place
decreases-loop-place g l = length l.self.items.items - l.place
