use Rattle.std.proofs.Common.{ap, drop, length, string_bytes, sym, take, ◌++◌, ◌-◌, ◌∙◌, ◌≡◌}
use Rattle.std.proofs.lemmas.List.{take_rest}
use Rattle.std.specs.List.{replace_range}
use Rattle.mar_store.specs.Spans.{ranges_of}
use Rattle.mar_script.specs.SpanTexts.{sizes_of, spans_text}
use Rattle.mar_script.proofs.SpanTexts.{Cuts, cuts, ranges_exchanged, sizes_exchanged, splits, text_exchanged}
use Rattle.mar_script.proofs.range_text.RangeText.exchange.Goals as goal

pub overflow_sub-end : goal.overflow_sub-end
overflow_sub-end c =
    (cuts c.self.inside.spans.items c.args.from c.args.to c.self.inside.sizes.items (string_bytes c.self.inside.text) _ _ c.total-start.result c.total.result (length c.as_str.result.now) c.requires.ordered c.self.invariant.0 c.self.invariant.1 (ap length c.as_str.ensures.value) c.as_str.type_inv.0
    (ap (λ xs. take c.args.from xs) c.as_slice.ensures.value) c.total-start.ensures (take_rest c.as_slice-2.result.now c.args.to ∙ ap (λ xs. drop c.args.to xs) c.as_slice-2.ensures.value) c.total.ensures).within

pub replace_range-requires-clause-start_le_end : goal.replace_range-requires-clause-start_le_end
replace_range-requires-clause-start_le_end c =
    (cuts c.self.inside.spans.items c.args.from c.args.to c.self.inside.sizes.items (string_bytes c.self.inside.text) _ _ c.total-start.result c.total.result (length c.as_str.result.now) c.requires.ordered c.self.invariant.0 c.self.invariant.1 (ap length c.as_str.ensures.value) c.as_str.type_inv.0
    (ap (λ xs. take c.args.from xs) c.as_slice.ensures.value) c.total-start.ensures (take_rest c.as_slice-2.result.now c.args.to ∙ ap (λ xs. drop c.args.to xs) c.as_slice-2.ensures.value) c.total.ensures).ordered

pub replace_range-requires-clause-start_boundary : goal.replace_range-requires-clause-start_boundary
replace_range-requires-clause-start_boundary c =
    let at : Cuts c.self.inside.spans.items c.args.from c.args.to c.total-start.result c.total.result (length c.as_str.result.now) =
    cuts c.self.inside.spans.items c.args.from c.args.to c.self.inside.sizes.items (string_bytes c.self.inside.text) _ _ c.total-start.result c.total.result (length c.as_str.result.now) c.requires.ordered c.self.invariant.0 c.self.invariant.1 (ap length c.as_str.ensures.value) c.as_str.type_inv.0
    (ap (λ xs. take c.args.from xs) c.as_slice.ensures.value) c.total-start.ensures (take_rest c.as_slice-2.result.now c.args.to ∙ ap (λ xs. drop c.args.to xs) c.as_slice-2.ensures.value) c.total.ensures in
    splits c.self.inside.spans.items c.args.from c.total-start.result (string_bytes c.self.inside.text) c.self.invariant.1 at.start_is

pub replace_range-requires-clause-end_boundary : goal.replace_range-requires-clause-end_boundary
replace_range-requires-clause-end_boundary c =
    let at : Cuts c.self.inside.spans.items c.args.from c.args.to c.total-start.result c.total.result (length c.as_str.result.now) =
    cuts c.self.inside.spans.items c.args.from c.args.to c.self.inside.sizes.items (string_bytes c.self.inside.text) _ _ c.total-start.result c.total.result (length c.as_str.result.now) c.requires.ordered c.self.invariant.0 c.self.invariant.1 (ap length c.as_str.ensures.value) c.as_str.type_inv.0
    (ap (λ xs. take c.args.from xs) c.as_slice.ensures.value) c.total-start.ensures (take_rest c.as_slice-2.result.now c.args.to ∙ ap (λ xs. drop c.args.to xs) c.as_slice-2.ensures.value) c.total.ensures in
    splits c.self.inside.spans.items c.args.to _ (string_bytes c.self.inside.text) c.self.invariant.1 at.end_is

pub invariant_of-self-in-Ok : goal.invariant_of-self-in-Ok
invariant_of-self-in-Ok c =
    let at : Cuts c.self.inside.spans.items c.args.from c.args.to c.total-start.result c.total.result (length c.as_str.result.now) =
    cuts c.self.inside.spans.items c.args.from c.args.to c.self.inside.sizes.items (string_bytes c.self.inside.text) _ _ c.total-start.result c.total.result (length c.as_str.result.now) c.requires.ordered c.self.invariant.0 c.self.invariant.1 (ap length c.as_str.ensures.value) c.as_str.type_inv.0
    (ap (λ xs. take c.args.from xs) c.as_slice.ensures.value) c.total-start.ensures (take_rest c.as_slice-2.result.now c.args.to ∙ ap (λ xs. drop c.args.to xs) c.as_slice-2.ensures.value) c.total.ensures in
    let sizes : c.deref.result.now ≡ sizes_of c.args.fresh.now = c.deref.ensures.value ∙ c.in_ok-push_each.ensures.sizes ∙ ap (λ xs. xs ++ sizes_of c.args.fresh.now) c.new-sizes.ensures.items in
    let text : c.as_str-2.result.now ≡ spans_text c.args.fresh.now = c.as_str-2.ensures.value ∙ c.in_ok-push_each.ensures.text ∙ ap (λ xs. xs ++ spans_text c.args.fresh.now) c.new-text.ensures.bytes in (
      c.in-Ok.ensures.sizes ∙ ap (λ xs. replace_range c.self.inside.sizes.items c.args.from c.args.to xs) sizes ∙ sizes_exchanged c.self.inside.spans.items c.args.fresh.now c.args.from c.args.to c.self.inside.sizes.items c.self.invariant.0 ∙ ap sizes_of (sym c.in-Ok.ensures.spans),
      c.in_ok-replace_range.ensures.bytes ∙ ap (λ xs. replace_range (string_bytes c.self.inside.text) c.total-start.result (length c.as_str.result.now - c.total.result) xs) text
          ∙ text_exchanged c.self.inside.spans.items c.args.fresh.now c.args.from c.args.to c.total-start.result _ (string_bytes c.self.inside.text) c.self.invariant.1 at.start_is at.end_is ∙ ap spans_text (sym c.in-Ok.ensures.spans),
    )

pub returns-in-Ok : goal.returns-in-Ok
returns-in-Ok c =
    ap ranges_of c.in-Ok.ensures.spans ∙ ranges_exchanged c.self.inside.spans.items c.args.fresh.now c.args.from c.args.to ∙ ap (λ xs. replace_range xs c.args.from c.args.to (ranges_of c.args.fresh.now)) c.self.view_is
