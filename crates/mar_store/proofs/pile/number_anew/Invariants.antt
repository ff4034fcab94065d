use Rattle.std.proofs.Common.{◌≡◌, ◌≤◌, ◌-◌, length, map, take}
use Rattle.std.specs.List.{AllByRecursion}
use Rattle.mar_store.specs.Entries.{seen}
use Rattle.mar_store.proofs.pile.number_anew.Given as goal

abbrev pub invariant-loop-place : goal.invariant-loop-place
invariant-loop-place g l = record {
  within : l.place ≤ length l.items.items;
  seen : map seen l.items.items ≡ map seen l.initial.items.items;
  first : AllByRecursion (λ e. e.number ≡ 0) (take l.place l.items.items);
}

abbrev pub decreases-loop-place : goal.decreases-loop-place
decreases-loop-place g l = length l.items.items - l.place
