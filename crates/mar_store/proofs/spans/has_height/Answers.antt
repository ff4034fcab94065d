use Rattle.std.proofs.Common.{◌≡◌, ◌≤◌, ◌∙◌, ℕ, ap, arith, false, length, nat_lt, sym, subst}
use Rattle.std.proofs.lemmas.Bool.Decides.{nat_tests}
use Rattle.std.proofs.lemmas.List.{get_or_default}
use Rattle.mar_store.specs.Ranges.{in_ranges}
use Rattle.mar_store.specs.Spans.{EndsFrom, ranges_of}
use Rattle.mar_store.proofs.SpanMembers.{in_first}
use Rattle.mar_store.proofs.Tails.{dropped, ends, held}
use Rattle.mar_store.proofs.spans.has_height.Goals as goal

past : (a b : ℕ) → b ≤ a → nat_lt a b ≡ false
past a b above = grind (arith, nat_tests)

pub returns-then-place-spans : goal.returns-then-place-spans
returns-then-place-spans c =
    let is = get_or_default c.args.spans.now c.place_from-place.result (record { from = 0; to = 0 }) _ c.if-place-spans.true in
    sym (in_first 0 c.args.height c.args.spans.now c.place_from-place.result _ c.if-place-spans.true is c.requires (subst (EndsFrom c.args.height) (sym c.place_from-place.ensures.rest) (ends c.args.height (ranges_of c.args.spans.now))))
    ∙ (ap (λ rs. in_ranges rs c.args.height) c.place_from-place.ensures.rest ∙ held c.args.height (ranges_of c.args.spans.now))

pub returns-else-place-spans : goal.returns-else-place-spans
returns-else-place-spans c =
    let over : length c.args.spans.now ≤ c.place_from-place.result = omega (arith, c.if-place-spans.false) in
    past c.place_from-place.result (length c.args.spans.now) over
    ∙ (sym (ap (λ rs. in_ranges rs c.args.height) (dropped c.args.spans.now c.place_from-place.result over))
    ∙ (ap (λ rs. in_ranges rs c.args.height) c.place_from-place.ensures.rest ∙ held c.args.height (ranges_of c.args.spans.now)))
