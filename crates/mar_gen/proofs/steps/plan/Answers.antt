use Rattle.std.proofs.Common.{[], ap, arith, get_or, if◌then◌else◌, rules, sym, ℕ, ◌%◌, ◌*◌, ◌++◌, ◌+◌, ◌-◌, ◌/◌, ◌==◌, ◌^◌, ◌∙◌, ◌∷◌, ◌≡◌}
use Rattle.mar_gen.specs.Draws.{next_state, state_after}
use Rattle.mar_gen.specs.Plan.{height_at, restart, steps_upto}
use Rattle.mar_gen.specs.declared.steps.Planned.TheVariants.{Buffer, Crash, Final, Open}
use Rattle.mar_gen.proofs.FirstSteps.{draws_next, height_more, restart_next, steps_first, steps_next}
use Rattle.mar_gen.proofs.steps.plan.Goals as goal

pub loop-below-init : goal.loop-below-init
loop-below-init c =
    let pushed : c.push.new.self.items ≡ Open ∷ [] = search rules in
    record { steps = pushed ∙ sym (steps_first _ _); draws = c.after-draws.ensures ∙ ap (state_after c.args.seed) (omega arith) }

pub loop-below-preserved : goal.loop-below-preserved
loop-below-preserved c =
    let seed : ℕ = c.args.seed in
    let last : ℕ = c.args.last in
    let below : ℕ = c.loop-below.below in
    let h : ℕ = get_or c.as_slice-heights.result.now below 0 in
    let height : h ≡ height_at seed last below = ap (λ hs. get_or hs below 0) (c.as_slice-heights.ensures.value ∙ c.in_ok-heights.ensures.order) in
    let pushed : c.push-in-loop-below-2.new.self.items ≡ (c.loop-below.steps.items ++ Buffer h ∷ []) ++ Final h ∷ [] = search rules in
    let more : c.push_restart.new.steps.items ≡ c.push-in-loop-below-2.new.self.items ++ (if (below + 1) % 16 == 0 then Crash (next_state c.loop-below.draws / 2 ^ 33) ∷ Open ∷ [] else []) = search rules in
    let moved : c.push_restart.new.draws ≡ (if (below + 1) % 16 == 0 then next_state c.loop-below.draws else c.loop-below.draws) = search rules in
    record {
      steps = more ∙ ap (λ xs. xs ++ (if (below + 1) % 16 == 0 then Crash (next_state c.loop-below.draws / 2 ^ 33) ∷ Open ∷ [] else [])) pushed
          ∙ ap (λ xs. ((c.loop-below.steps.items ++ Buffer h ∷ []) ++ Final h ∷ []) ++ xs) (restart_next seed last below _ c.loop-below.invariant.draws)
          ∙ height_more c.loop-below.steps.items (Buffer h) (Final h) (restart seed last (below + 1))
          ∙ ap (λ xs. xs ++ Buffer h ∷ Final h ∷ restart seed last (below + 1)) c.loop-below.invariant.steps
          ∙ ap (λ k. steps_upto seed last below ++ Buffer k ∷ Final k ∷ restart seed last (below + 1)) height
          ∙ sym (steps_next seed last below);
      draws = moved ∙ draws_next seed (2 * last - 1) below _ c.loop-below.invariant.draws;
    }
