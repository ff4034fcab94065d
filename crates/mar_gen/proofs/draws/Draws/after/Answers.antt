use Rattle.std.proofs.Common.{ap, sym, ◌∙◌}
use Rattle.mar_gen.specs.Draws.{next_state}
use Rattle.mar_gen.proofs.FirstSteps.{state_first, state_next}
use Rattle.mar_gen.proofs.draws.Draws.after.Goals as goal

pub loop-number-init : goal.loop-number-init
loop-number-init c = c.new-draws.ensures ∙ sym (state_first _)

pub loop-number-preserved : goal.loop-number-preserved
loop-number-preserved c = c.draw-drawn.ensures.next ∙ ap next_state c.loop-number.invariant ∙ sym (state_next _ _)
