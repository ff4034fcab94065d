use Rattle.std.proofs.Common.{◌≡◌}
use Rattle.mar_gen.specs.Draws.{state_after}
use Rattle.mar_gen.proofs.draws.Draws.after.Given as goal

abbrev pub invariant-loop-number : goal.invariant-loop-number
invariant-loop-number l = l.draws ≡ state_after l.seed l._number
