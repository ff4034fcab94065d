use Rattle.std.proofs.Common.{◌*◌, ◌+◌, ◌-◌, ◌/◌, ◌≡◌}
use Rattle.mar_gen.specs.Draws.{state_after}
use Rattle.mar_gen.specs.Plan.{steps_upto}
use Rattle.mar_gen.proofs.steps.plan.Given as goal

abbrev pub invariant-loop-below : goal.invariant-loop-below
invariant-loop-below l = record {
  steps : l.steps.items ≡ steps_upto l.seed l.last l.below;
  draws : l.draws ≡ state_after l.seed (2 * l.last - 1 + l.below / 16);
}
