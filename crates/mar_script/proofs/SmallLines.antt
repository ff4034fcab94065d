-- A line brings nothing that is too large for a store.
use Rattle.std.proofs.Common.{List, [], arith, length, length-append, ℕ, ◌*◌, ◌∷◌, ◌≡◌, ◌≤◌}
use Rattle.std.specs.List.{AllByRecursion}
use Rattle.hex.specs.Hex.{encode_lower, encode_with}
use Rattle.mar_cert.specs.Finalization.{finalization_bytes}
use Rattle.mar_script.specs.Lines.{fields_text}
use Rattle.mar_script.specs.Plays.{IsSmallField, IsSmallLine}
use Rattle.mar_script.specs.Script.{Field, IsLine, Line, as_block, as_finalization, field_text, hex, line_bytes, line_fields}

length-encode_lower : (bytes : List ℕ) → length (encode_lower bytes) ≡ 2 * length bytes
unfolding encode_with
length-encode_lower [] = omega arith
length-encode_lower (b ∷ bytes) = omega (arith, length-encode_lower bytes)

no_longer : (bytes : List ℕ) → length bytes ≤ length (hex bytes)
no_longer [] = omega arith
no_longer (b ∷ bytes) = omega (arith, length-encode_lower (b ∷ bytes))

small_field : (field : Field) → length (field_text field) ≤ 65_536 → IsSmallField field
small_field (as_block b) short = omega (arith, short, no_longer b.encoded)
small_field (as_finalization f) short = omega (arith, short, no_longer (finalization_bytes f))
small_field field short = tt

-- no word of a line is longer than the line
small_fields : (fields : List Field) → length (fields_text fields) ≤ 65_536 → AllByRecursion IsSmallField fields
small_fields [] short = tt
small_fields (f ∷ []) short = (small_field f short, tt)
small_fields (f ∷ g ∷ fields) short =
    let both = length-append (field_text f) (32 ∷ fields_text (g ∷ fields)) in
    (small_field f (omega (arith, short, both)), small_fields (g ∷ fields) (omega (arith, short, both)))

pub small_line : (n : ℕ) (line : Line) → IsLine n line → IsSmallLine line
unfolding line_bytes
small_line n line is = small_fields (line_fields line) (omega (arith, is.short, length-append (fields_text (line_fields line)) (10 ∷ [])))
