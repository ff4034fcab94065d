-- The mock scheme's test says exactly whether a certificate verifies.
use Rattle.std.proofs.Common.{List, Some, [], ap, arith, length, refl, subst, sym, true, ℕ, ◌+◌, ◌<◌, ◌^◌, ◌∙◌, ◌∷◌, ◌≡◌, ◌≤◌, ◌↔◌}
use Rattle.std.specs.List.{AllByRecursion, list_all}
use Rattle.std.specs.Prelude.{IsTrue, bytes_eq}
use Rattle.std.proofs.lemmas.Bool.{and_from, and_parts, le-leb, leb-true, lt-ltb, ltb-true}
use Rattle.mar_types.specs.Varint.{IsNumber}
use Rattle.mar_cert.specs.Finalization.{Finalization, Subject}
use Rattle.mar_cert.specs.MockScheme.{IsCertificate, IsFinalization, Signer, Verifies, is_ascending_from, is_signed_by, mock_verifies, quorum, signers_of, tag_of}
use Rattle.mar_cert.specs.ReadBack.{AreSpelled, signers_of-back}
use Rattle.mar_cert.specs.Signers.{AreSigners, certificate_bytes}
use Rattle.mar_cert.specs.SignersLemmas.{certificate_of_signers, length-signers, signers_of_certificate}
use Rattle.std.proofs.lemmas.Slice.Eq.{bytes_eq-Decides}

-- signers in order are members
are_spelled : (n low : ℕ) (signers : List Signer) → n ≤ 2 ^ 64 → AreSigners n low signers → AreSpelled signers
are_spelled n low [] wide are = tt
are_spelled n low (s ∷ signers) wide are = ((omega (arith, are.1), are.2), are_spelled n (s.member + 1) signers wide are.3)

ascend : (n low : ℕ) (signers : List Signer) → AreSigners n low signers → is_ascending_from n low signers ≡ true
ascend n low [] are = refl
ascend n low (s ∷ signers) are =
    and_from _ _ (le-leb low s.member are.0) (and_from _ _ (lt-ltb s.member n are.1) (ascend n (s.member + 1) signers are.3))

are_in_order : (n low : ℕ) (signers : List Signer) → AreSpelled signers → is_ascending_from n low signers ≡ true → AreSigners n low signers
are_in_order n low [] spelled up = tt
are_in_order n low (s ∷ signers) spelled up =
    let first = and_parts _ _ up in
    let second = and_parts _ _ first.1 in
    (leb-true low s.member first.0, ltb-true s.member n second.0, spelled.0.1, are_in_order n (s.member + 1) signers spelled.1 second.1)

tags_right : (subject : Subject) (f : Finalization) (signers : List Signer) → list_all (λ s. bytes_eq s.tag (tag_of subject f s.member)) signers ≡ true
    → AllByRecursion (λ s. s.tag ≡ tag_of subject f s.member) signers
tags_right subject f [] all = tt
tags_right subject f (s ∷ signers) all =
    let parts = and_parts _ _ all in
    ((bytes_eq-Decides s.tag (tag_of subject f s.member)).0 parts.0, tags_right subject f signers parts.1)

right_tags : (subject : Subject) (f : Finalization) (signers : List Signer) → AllByRecursion (λ s. s.tag ≡ tag_of subject f s.member) signers
    → list_all (λ s. bytes_eq s.tag (tag_of subject f s.member)) signers ≡ true
right_tags subject f [] all = refl
right_tags subject f (s ∷ signers) all = and_from _ _ ((bytes_eq-Decides s.tag (tag_of subject f s.member)).1 all.0) (right_tags subject f signers all.1)

-- the test is of the signers that the bytes spell
pub signed : (n : ℕ) (subject : Subject) (f : Finalization) (signers : List Signer) → AreSpelled signers → IsNumber (length signers) → f.certificate ≡ certificate_bytes signers
    → mock_verifies n subject f ≡ is_signed_by n subject f (Some signers)
signed n subject f signers are count spelled =
    ap (λ bytes. is_signed_by n subject f (signers_of bytes)) spelled ∙ ap (λ o. is_signed_by n subject f o) (signers_of-back signers are count)

-- what verifies passes the test
pub passes : (n : ℕ) (subject : Subject) (f : Finalization) → n < 2 ^ 64 → Verifies n subject f → IsTrue (mock_verifies n subject f)
passes n subject f wide v =
    let are = signers_of_certificate n v.signers f.certificate v.certificate_is in
    let spelled = are_spelled n 0 v.signers (omega arith) are in
    let count : IsNumber (length v.signers) = omega (arith, length-signers n 0 v.signers are) in
    let test = and_from _ _ (ascend n 0 v.signers are) (and_from _ _ (le-leb (quorum n) (length v.signers) v.enough) (right_tags subject f v.signers v.right)) in
    signed n subject f v.signers spelled count v.certificate_is.spelled ∙ test

-- what passes the test verifies, where its bytes spell signers ..
pub proves : (n : ℕ) (subject : Subject) (f : Finalization) (signers : List Signer) → AreSpelled signers → IsNumber (length signers) → f.certificate ≡ certificate_bytes signers
    → IsTrue (mock_verifies n subject f) → Verifies n subject f
proves n subject f signers spelled count is passed =
    let parts = and_parts _ _ (sym (signed n subject f signers spelled count is) ∙ passed) in
    let others = and_parts _ _ parts.1 in
    let are = are_in_order n 0 signers spelled parts.0 in
    record {
      signers = signers;
      certificate_is = subst (λ bytes. IsCertificate n signers bytes) (sym is) (certificate_of_signers n signers are);
      enough = leb-true (quorum n) (length signers) others.0;
      right = tags_right subject f signers others.1;
    }

-- .. as those of a finalization or notarization that was read do
pub verifies_exactly : (n m : ℕ) (subject : Subject) (f : Finalization) → n < 2 ^ 64 → m < 2 ^ 64 → IsFinalization m f → IsTrue (mock_verifies n subject f) ↔ Verifies n subject f
verifies_exactly n m subject f wide most is =
    let are = signers_of_certificate m is.signers f.certificate is.certificate_is in
    let spelled = are_spelled m 0 is.signers (omega arith) are in
    let count : IsNumber (length is.signers) = omega (arith, length-signers m 0 is.signers are) in
    (proves n subject f is.signers spelled count is.certificate_is.spelled, passes n subject f wide)
