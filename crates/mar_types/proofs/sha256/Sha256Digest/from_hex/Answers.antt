use Rattle.std.proofs.Common.{Err, List, Ok, Result, ap, false, sym, true, ℕ, ◌∙◌, ◌≡◌}
use Rattle.std.specs.Prelude.{MatchResult, OnOk, bytes_eq, not}
use Rattle.std.specs.Result.{is_ok}
use Rattle.std.proofs.lemmas.Slice.Eq.{bytes_eq-Decides}
use Rattle.hex.specs.Hex.{decode_sized, encode_lower}
use Rattle.hex.specs.declared.error.FromHexError.{FromHexError}
use Rattle.hex.proofs.HexLemmas.{decode_sized-encode_lower}
use Rattle.mar_types.specs.Digest.{IsDigest}
use Rattle.mar_types.specs.DigestLemmas.{below_from_all}
use Rattle.mar_types.proofs.sha256.Sha256Digest.from_hex.Goals as goal

-- a digest's text is decoded to it
decoded : (text bytes out : List ℕ) (result : Result (Unit {0}) FromHexError) → IsDigest bytes → text ≡ encode_lower bytes → MatchResult (decode_sized text 32) (λ found. (result ≡ Ok tt) × (out ≡ found)) (λ e. result ≡ Err e) → (result ≡ Ok tt) × (out ≡ bytes)
decoded text bytes out result is spelled given =
    rw (ap (λ xs. decode_sized xs 32) spelled ∙ decode_sized-encode_lower bytes 32 is.0 (below_from_all bytes is.1)) at given

refused : (result : Result (Unit {0}) FromHexError) → result ≡ Ok tt → false ≡ is_ok result → ⊥
refused result ok none = let wrong : false ≡ true = none ∙ ap is_ok ok in cc

written : {T E : Type 0} (result : Result T E) (out text : List ℕ) → true ≡ is_ok result → OnOk result (out ≡ text) → out ≡ text
written (Ok value) out text ok given = given
written (Err e) out text ok given = let wrong : true ≡ false = ok in cc

differs : (again text : List ℕ) → again ≡ text → true ≡ not (bytes_eq again text) → ⊥
differs again text same other = let wrong : true ≡ false = other ∙ ap not ((bytes_eq-Decides again text).1 same) in cc

pub returns-in_err-ok-clause-only : goal.returns-in_err-ok-clause-only
returns-in_err-ok-clause-only c =
    rw c.from_residual.ensures
    (λ bytes is spelled. refused _ (decoded _ bytes _ _ is spelled c.decode_to_slice.ensures.value).0 c.in_err-ok.ensures.variant)

pub returns-then-ne-clause-only : goal.returns-then-ne-clause-only
returns-then-ne-clause-only c = λ bytes is spelled.
    differs _ _
    (written _ _ _ c.in_ok-ok-2.ensures.variant c.encode_to_slice.ensures.written
    ∙ ap encode_lower (decoded _ bytes _ _ is spelled c.decode_to_slice.ensures.value).1
    ∙ sym spelled)
    c.if-ne.ensures
