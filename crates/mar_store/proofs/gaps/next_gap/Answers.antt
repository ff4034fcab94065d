use Rattle.std.proofs.Common.{Some, ap, arith, ◌<◌, ◌∙◌}
use Rattle.std.specs.Prelude.{length}
use Rattle.std.proofs.lemmas.List.{get_or_default}
use Rattle.mar_store.specs.Gaps.{next_start, range_end}
use Rattle.mar_store.specs.Spans.{ranges_of}
use Rattle.mar_store.proofs.Tails.{above_ends, above_starts, dropped, none_ends, none_starts, within_ends, within_starts}
use Rattle.mar_store.proofs.gaps.next_gap.Goals as goal

pub returns-then-place-spans-clause-end : goal.returns-then-place-spans-clause-end
returns-then-place-spans-clause-end c =
    none_ends c.get.result c.place_from-place.result _ c.place_from-place.ensures.rest (dropped c.args.spans.now _ c.if-place-spans.true) ∙ ap (range_end (ranges_of c.args.spans.now)) c.get.ensures.value

pub returns-then-place-spans-clause-start : goal.returns-then-place-spans-clause-start
returns-then-place-spans-clause-start c =
    none_starts c.get.result c.place_from-place.result _ c.requires c.place_from-place.ensures.rest (dropped c.args.spans.now _ c.if-place-spans.true) ∙ ap (next_start (ranges_of c.args.spans.now)) c.get.ensures.value

pub returns-then-get-span-clause-end : goal.returns-then-get-span-clause-end
returns-then-get-span-clause-end c =
    let there : c.place_from-place.result < length c.args.spans.now = omega (arith, c.if-place-spans.false) in
    let is = get_or_default c.args.spans.now c.place_from-place.result (record { from = 0; to = 0 }) _ there in
    above_ends c.get.result c.place_from-place.result c.args.spans.now _ there is c.requires c.place_from-place.ensures.rest (omega (arith, c.if-get-span.true, c.get.ensures.value, c.get-2.ensures.value))
    ∙ ap (range_end (ranges_of c.args.spans.now)) c.get.ensures.value

pub returns-then-get-span-clause-start : goal.returns-then-get-span-clause-start
returns-then-get-span-clause-start c =
    let there : c.place_from-place.result < length c.args.spans.now = omega (arith, c.if-place-spans.false) in
    let is = get_or_default c.args.spans.now c.place_from-place.result (record { from = 0; to = 0 }) _ there in
    ap Some c.new.ensures
    ∙ (above_starts c.get.result c.place_from-place.result c.args.spans.now _ there is c.requires c.place_from-place.ensures.rest (omega (arith, c.if-get-span.true, c.get.ensures.value, c.get-2.ensures.value))
    ∙ ap (next_start (ranges_of c.args.spans.now)) c.get.ensures.value)

pub returns-clause-end : goal.returns-clause-end
returns-clause-end c =
    let there : c.place_from-place.result < length c.args.spans.now = omega (arith, c.if-place-spans.false) in
    let is = get_or_default c.args.spans.now c.place_from-place.result (record { from = 0; to = 0 }) _ there in
    ap Some c.new-2.ensures
    ∙ (within_ends c.get.result c.place_from-place.result c.args.spans.now _ there is c.place_from-place.ensures.rest (omega (arith, c.if-get-span.false, c.get.ensures.value, c.get-2.ensures.value))
    ∙ ap (range_end (ranges_of c.args.spans.now)) c.get.ensures.value)

pub returns-clause-start : goal.returns-clause-start
returns-clause-start c =
    let there : c.place_from-place.result < length c.args.spans.now = omega (arith, c.if-place-spans.false) in
    let is = get_or_default c.args.spans.now c.place_from-place.result (record { from = 0; to = 0 }) _ there in
    c.start_at.ensures
    ∙ (within_starts c.get.result c.place_from-place.result c.args.spans.now _ there is c.requires c.place_from-place.ensures.rest (omega (arith, c.if-get-span.false, c.get.ensures.value, c.get-2.ensures.value))
    ∙ ap (next_start (ranges_of c.args.spans.now)) c.get.ensures.value)
