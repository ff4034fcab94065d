use Rattle.std.proofs.Common.{ap, arith, rules, sym, ℕ, ◌%◌, ◌+◌, ◌-◌, ◌/◌, ◌^◌, ◌∙◌, ◌≡◌}
use Rattle.std.specs.List.{swap}
use Rattle.mar_gen.specs.Draws.{next_state, state_after}
use Rattle.mar_gen.specs.Plan.{exchanged}
use Rattle.mar_gen.proofs.FirstSteps.{exchanged_first, exchanged_next, state_next}
use Rattle.mar_gen.proofs.steps.drawn_order.Goals as goal

pub loop-done-init : goal.loop-done-init
loop-done-init c = record {
  heights = c.in_ok-heights.ensures.heights ∙ sym (exchanged_first _ _);
  all = c.in_ok-heights.ensures.all;
  draws = c.after-draws.ensures ∙ ap (state_after c.args.seed) (omega arith);
}

pub loop-done-preserved : goal.loop-done-preserved
loop-done-preserved c =
    let seed : ℕ = c.args.seed in
    let last : ℕ = c.args.last in
    let done : ℕ = c.loop-done.done in
    let now : last + done + 1 ≡ last + (done + 1) = omega arith in
    let behind : last + (done + 1) ≡ last + 1 + done = omega arith in
    let drawn_is : c.draw.new.self ≡ state_after seed (last + (done + 1)) = c.draw.ensures.next ∙ ap next_state c.loop-done.invariant.draws ∙ sym (state_next seed (last + done)) ∙ ap (state_after seed) now in
    let value : c.draw.result ≡ state_after seed (last + 1 + done) / 2 ^ 33 = c.draw.ensures.value ∙ ap (λ x. x / 2 ^ 33) (drawn_is ∙ ap (state_after seed) behind) in
    record {
      heights = c.swap.ensures.items ∙ ap (λ hs. swap hs (last - 1 - done) (c.draw.result % (last - done))) c.loop-done.invariant.heights ∙ ap (λ x. swap (exchanged seed last done) (last - 1 - done) (x % (last - done))) value ∙ sym (exchanged_next seed last done);
      all = search rules;
      draws = drawn_is;
    }
