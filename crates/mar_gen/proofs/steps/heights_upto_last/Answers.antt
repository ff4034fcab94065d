use Rattle.std.proofs.Common.{rules, sym, ap, ◌++◌, ◌+◌, ◌∙◌, ◌∷◌, ◌≡◌, [], length}
use Rattle.mar_gen.proofs.FirstSteps.{heights_first, heights_next}
use Rattle.mar_gen.proofs.steps.heights_upto_last.Goals as goal

pub loop-below-init : goal.loop-below-init
loop-below-init c = record { heights = c.new-heights.ensures.items ∙ sym heights_first; all = ap length c.new-heights.ensures.items }

pub loop-below-preserved : goal.loop-below-preserved
loop-below-preserved c =
    let pushed : c.push.new.self.items ≡ c.loop-below.heights.items ++ (c.loop-below.below + 1) ∷ [] = search rules in
    record {
      heights = pushed ∙ ap (λ hs. hs ++ (c.loop-below.below + 1) ∷ []) c.loop-below.invariant.heights ∙ sym (heights_next _);
      all = search rules;
    }
