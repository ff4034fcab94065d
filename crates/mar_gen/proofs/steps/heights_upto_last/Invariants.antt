use Rattle.std.proofs.Common.{length, ◌≡◌}
use Rattle.mar_gen.specs.Plan.{heights_upto}
use Rattle.mar_gen.proofs.steps.heights_upto_last.Given as goal

abbrev pub invariant-loop-below : goal.invariant-loop-below
invariant-loop-below l = record { heights : l.heights.items ≡ heights_upto l.below; all : length l.heights.items ≡ l.below }
