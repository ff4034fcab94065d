use Rattle.std.proofs.Common.{string_bytes, take, ◌++◌, ◌≡◌}
use Rattle.mar_script.specs.SpanTexts.{sizes_of, spans_text}
use Rattle.mar_script.proofs.range_text.push_each.Given as goal

abbrev pub invariant-loop-span : goal.invariant-loop-span
invariant-loop-span l = record {
  text : string_bytes l.text ≡ string_bytes l.initial.text ++ spans_text (take l.span-index l.spans);
  sizes : l.sizes.items ≡ l.initial.sizes.items ++ sizes_of (take l.span-index l.spans);
}
