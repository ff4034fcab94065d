use Rattle.std.proofs.Common.{◌≡◌, ◌≤◌, ◌-◌, take, length}
use Rattle.mar_store.specs.Choices.{chosen, stays}
use Rattle.mar_store.proofs.survey.count_of.Given as goal

abbrev pub decreases-loop-place : goal.decreases-loop-place
decreases-loop-place g l = length l.items - l.place

abbrev pub invariant-loop-place : goal.invariant-loop-place
invariant-loop-place g l = record {
  within : l.place ≤ length l.items;
  below : l.count ≤ l.place;
  count : l.count ≡ length (chosen (stays l.choice) 0 (take l.place l.items));
}
