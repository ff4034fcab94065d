use Rattle.std.proofs.Common.{◌≤◌, ◌-◌, length}
use Rattle.mar_store.specs.Choices.{stays}
use Rattle.mar_store.proofs.Chosen.{TakesOut}
use Rattle.mar_store.proofs.pile.take_out.Given as goal

abbrev pub invariant-loop-place : goal.invariant-loop-place
invariant-loop-place g l = record {
  within : l.place ≤ length l.items.items;
  below : l.kept ≤ l.place;
  out : TakesOut (stays l.choice) l.initial.items.items l.items.items l.kept l.place;
}

abbrev pub decreases-loop-place : goal.decreases-loop-place
decreases-loop-place g l = length l.items.items - l.place
