-- The text of spans as it is kept.
use Rattle.std.specs.List.{flat_map}
use Rattle.std.specs.Prelude.{List, length, map, ℕ, ◌∷◌}
use Rattle.mar_store.specs.Spans.{range_of}
use Rattle.mar_store.specs.declared.HeightSpan.{HeightSpan}
use Rattle.mar_script.specs.Text.{range_text}

-- a comma and the span
abbrev pub span_text : HeightSpan → List ℕ
span_text span = 44 ∷ range_text (range_of span)

abbrev pub spans_text : List HeightSpan → List ℕ
spans_text spans = flat_map span_text spans

-- how many bytes each takes
abbrev pub sizes_of : List HeightSpan → List ℕ
sizes_of spans = map (λ s. length (span_text s)) spans
