use Rattle.std.proofs.Common.{arith, ap, drop, length, sym, ◌<◌, ◌∙◌}
use Rattle.mar_script.specs.Shown.{ranges_shown}
use Rattle.std.proofs.lemmas.Str.{IsCharBoundary-after_ascii}
use Rattle.mar_script.proofs.Sentences.{not_empty}
use Rattle.mar_script.proofs.SpanTexts.{begins_with_comma, shown_behind_comma}
use Rattle.mar_script.proofs.range_text.RangeText.shown.Goals as goal

pub split_at-requires : goal.split_at-requires
split_at-requires c =
    let some : 0 < length c.self.inside.spans.items = not_empty _ _ (rw c.as_slice.ensures.value at c.is_empty.ensures) c.if-is_empty.false in
    let first = begins_with_comma c.self.inside.spans.items c.as_str.result.now some (c.as_str.ensures.value ∙ c.self.invariant.1) in
    IsCharBoundary-after_ascii c.as_str.result.now 0 c.as_str.utf8 first.0 (omega (arith, first.1))

pub returns : goal.returns
returns c =
    let some : 0 < length c.self.inside.spans.items = not_empty _ _ (rw c.as_slice.ensures.value at c.is_empty.ensures) c.if-is_empty.false in
    c.split_at.ensures.back ∙ ap (drop 1) (c.as_str.ensures.value ∙ c.self.invariant.1) ∙ sym (shown_behind_comma c.self.inside.spans.items some) ∙ ap ranges_shown c.self.view_is
