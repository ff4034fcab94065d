use Rattle.std.proofs.Common.{◌≡◌, ◌≤◌, ◌-◌, map, take, length}
use Rattle.mar_store.specs.Choices.{chosen, stays}
use Rattle.mar_store.specs.Changes.{heights}
use Rattle.mar_store.specs.Ranges.{ranges}
use Rattle.mar_store.specs.Entries.{seen}
use Rattle.mar_store.proofs.survey.ranges_from.Given as goal

abbrev pub decreases-loop-place : goal.decreases-loop-place
decreases-loop-place g l = length l.items - l.place

abbrev pub invariant-loop-place : goal.invariant-loop-place
invariant-loop-place g l = record {
  within : l.place ≤ length l.items;
  ranges : l.ranges ≡ ranges (heights (map seen (chosen (stays l.choice) 0 (take l.place l.items))));
}
