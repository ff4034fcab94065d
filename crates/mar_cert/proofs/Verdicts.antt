-- The parts of a verdict, in the order that the code takes them.
use Rattle.std.proofs.Common.{Bool, List, [], add-one, ap, arith, drop, drop-cons, false, get_or, length, map, suc, sym, true, ℕ, ◌&&◌, ◌+◌, ◌<◌, ◌^◌, ◌∙◌, ◌∷◌, ◌≡◌, ◌≤◌, ◌↔◌}
use Rattle.std.specs.List.{list_all}
use Rattle.std.specs.Prelude.{IsTrue, bytes_eq, nat_le, nat_lt}
use Rattle.std.proofs.lemmas.Bool.{and_left, and_right, le-leb, le-ltb, lt-leb}
use Rattle.std.proofs.lemmas.List.{length-map}
use Rattle.std.proofs.lemmas.List.Folds.{list_all-map}
use Rattle.mar_cert.specs.Finalization.{Finalization, Subject}
use Rattle.mar_cert.specs.MockScheme.{Verifies, is_ascending_from, mock_verifies, quorum, tag_of}
use Rattle.mar_cert.specs.MockViews.{plain_signer}
use Rattle.mar_cert.specs.ReadBack.{AreSpelled}
use Rattle.mar_cert.specs.Signers.{certificate_bytes}
use Rattle.mar_cert.specs.VerdictLemmas.{passes, proves, signed}
use Rattle.mar_cert.specs.declared.signer.Signer.{Signer}

-- members that the code holds fit four bytes
held_are_spelled : (signers : List Signer) → AreSpelled (map plain_signer signers)
held_are_spelled [] = tt
held_are_spelled (s ∷ signers) = ((omega (arith, s.in_range), s.tag.is_digest), held_are_spelled signers)

test_of : (n : ℕ) (subject : Subject) (f : Finalization) (signers : List Signer) → length signers < 2 ^ 64 → f.certificate ≡ certificate_bytes (map plain_signer signers)
    → mock_verifies n subject f ≡ (is_ascending_from n 0 (map plain_signer signers) && (nat_le (quorum n) (length (map plain_signer signers)) && list_all (λ s. bytes_eq s.tag (tag_of subject f s.member)) (map plain_signer signers)))
test_of n subject f signers count is = signed n subject f (map plain_signer signers) (held_are_spelled signers) (omega (arith, length-map signers plain_signer)) is

pub too_few : (n : ℕ) (subject : Subject) (f : Finalization) (signers : List Signer) → length signers < 2 ^ 64 → f.certificate ≡ certificate_bytes (map plain_signer signers)
    → length signers < quorum n → false ≡ mock_verifies n subject f
too_few n subject f signers count is few =
    sym (test_of n subject f signers count is ∙ and_right _ _ (and_left _ _ (lt-leb (quorum n) (length (map plain_signer signers)) (omega (arith, few, length-map signers plain_signer)))))

pub not_in_order : (n : ℕ) (subject : Subject) (f : Finalization) (signers : List Signer) → length signers < 2 ^ 64 → f.certificate ≡ certificate_bytes (map plain_signer signers)
    → is_ascending_from n 0 (map plain_signer signers) ≡ false → false ≡ mock_verifies n subject f
not_in_order n subject f signers count is no_order = sym (test_of n subject f signers count is ∙ and_left _ _ no_order)

pub by_tags : (n : ℕ) (subject : Subject) (f : Finalization) (signers : List Signer) (r : Bool) → length signers < 2 ^ 64 → f.certificate ≡ certificate_bytes (map plain_signer signers)
    → quorum n ≤ length signers → is_ascending_from n 0 (map plain_signer signers) ≡ true → r ≡ list_all (λ s. bytes_eq s.tag.bytes (tag_of subject f s.member)) signers → r ≡ mock_verifies n subject f
by_tags n subject f signers r count is enough order tags =
    let many : quorum n ≤ length (map plain_signer signers) = omega (arith, enough, length-map signers plain_signer) in
    sym (test_of n subject f signers count is ∙ rw (order, le-leb (quorum n) (length (map plain_signer signers)) many) (list_all-map (λ s. bytes_eq s.tag (tag_of subject f s.member)) plain_signer signers) ∙ sym tags)

pub exactly : (n : ℕ) (subject : Subject) (f : Finalization) (signers : List Signer) (r : Bool) → n < 2 ^ 64 → length signers < 2 ^ 64 → f.certificate ≡ certificate_bytes (map plain_signer signers)
    → r ≡ mock_verifies n subject f → IsTrue r ↔ Verifies n subject f
exactly n subject f signers r wide count is same = (
  λ passed. proves n subject f (map plain_signer signers) (held_are_spelled signers) (omega (arith, count, length-map signers plain_signer)) is (sym same ∙ passed),
  λ v. same ∙ passes n subject f wide v,
)

-- the signer at i is next
pub next_in_order : (n low i : ℕ) (signers : List Signer) (s : Signer) → i < length signers → s ≡ get_or signers i s
    → is_ascending_from n low (map plain_signer (drop i signers)) ≡ (nat_le low s.member && (nat_lt s.member n && is_ascending_from n (s.member + 1) (map plain_signer (drop (i + 1) signers))))
next_in_order n low i signers s below is =
    let test : List Signer → Bool = λ xs. is_ascending_from n low (map plain_signer xs) in
    ap test (drop-cons signers i s below) ∙ ap (λ x. test (x ∷ drop (suc i) signers)) (sym is) ∙ ap (λ k. test (s ∷ drop k signers)) (sym (add-one i))

pub below_low : (n low : ℕ) (member : ℕ) (others : Bool) → member < low → (nat_le low member && (nat_lt member n && others)) ≡ false
below_low n low member others below = and_left _ _ (lt-leb low member below)

pub no_member : (n low : ℕ) (member : ℕ) (others : Bool) → n ≤ member → (nat_le low member && (nat_lt member n && others)) ≡ false
no_member n low member others above = and_right _ _ (and_left _ _ (le-ltb member n above))
