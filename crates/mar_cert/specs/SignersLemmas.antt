-- Mock certificates: no spelling begins another, and what is refused begins with none.
use Rattle.std.proofs.Common.{length-append, ◌^◌, List, [], ap, append_assoc, arith, get_or, inl, inr, length, refl, subst, suc, sym, zero, ℕ, ◌++◌, ◌+◌, ◌-◌, ◌<◌, ◌∙◌, ◌∷◌, ◌≡◌, ◌≤◌}
use Rattle.std.specs.Prelude.{map}
use Rattle.std.specs.List.{AllByRecursion, flat_map}
use Rattle.std.specs.List.Sorted.{IsStrictlyIncreasing}
use Rattle.mar_cert.specs.MockScheme.{IsCertificate, Signer, signer_bytes}
use Rattle.mar_cert.specs.Signers.{AreSigners, IsMockCertificate, RefusesCertificate, RefusesSigner, certificate_bytes, next_member}
use Rattle.mar_types.specs.Codec.{HasNoFront, IsUnambiguous}
use Rattle.mar_types.specs.Digest.{IsDigest}
use Rattle.mar_types.specs.Refusals.{RefusesVarint}
use Rattle.mar_types.specs.Varint.{IsNumber, varint}
use Rattle.mar_types.specs.VarintLemmas.{no_bad_varint, no_cut_varint, varint_front}
use Rattle.mar_types.specs.declared.Error.{Error}

cons_tail : (x y : ℕ) (xs ys : List ℕ) → x ∷ xs ≡ y ∷ ys → xs ≡ ys
cons_tail x y xs ys e = cc

-- what follows fronts of one length
pub same_rest : (front other rest left : List ℕ) → length front ≡ length other → front ++ rest ≡ other ++ left → (front ≡ other) × (rest ≡ left)
same_rest [] [] rest left long e = (refl, e)
same_rest [] (y ∷ other) rest left long e = absurd (omega arith)
same_rest (x ∷ front) [] rest left long e = absurd (omega arith)
same_rest (x ∷ front) (y ∷ other) rest left long e =
    let heads : x ≡ y = cc in
    let same = same_rest front other rest left (omega arith) (cons_tail x y (front ++ rest) (other ++ left) e) in
    let tails : front ≡ other = same.0 in
    (cc, same.1)

-- bytes that begin with the spellings of two numbers: what follows is one
pub varint_rest : (m n : ℕ) (rest left : List ℕ) → varint m ++ rest ≡ varint n ++ left → (m ≡ n) × (rest ≡ left)
varint_rest m n rest left e =
    let same = varint_front m n rest left e in
    (same, (same_rest (varint m) (varint n) rest left (ap (λ k. length (varint k)) same) e).1)

-- a signer is its member and its tag
pub same_signer : (s t : Signer) → s.member ≡ t.member → s.tag ≡ t.tag → s ≡ t
same_signer s t members tags =
    let signer : ℕ → List ℕ → Signer = λ member tag. record { member = member; tag = tag } in
    ap (λ member. signer member s.tag) members ∙ ap (λ tag. signer t.member tag) tags

-- bytes that begin with the spellings of two signers
pub signer_rest : (s t : Signer) (rest left : List ℕ) → length s.tag ≡ length t.tag → signer_bytes s ++ rest ≡ signer_bytes t ++ left → (s ≡ t) × (rest ≡ left)
signer_rest s t rest left long e =
    let members = varint_rest s.member t.member (s.tag ++ rest) (t.tag ++ left) (sym (append_assoc (varint s.member) s.tag rest) ∙ e ∙ append_assoc (varint t.member) t.tag left) in
    let tags = same_rest s.tag t.tag rest left long members.1 in
    (same_signer s t members.0 tags.0, tags.1)

increasing_tail : (x : ℕ) (xs : List ℕ) → IsStrictlyIncreasing (x ∷ xs) → IsStrictlyIncreasing xs
increasing_tail x xs h k below =
    let e : suc k + 1 ≡ suc (k + 1) = omega arith in
    subst (λ n. get_or xs k 0 < get_or (x ∷ xs) n 0) e (h (suc k) (omega arith))

-- the signers of a certificate ascend
ascending_from : (n low : ℕ) (signers : List Signer) → ((s : Signer) (later : List Signer) → signers ≡ s ∷ later → low ≤ s.member)
    → IsStrictlyIncreasing (map (λ s. s.member) signers) → AllByRecursion (λ s. s.member < n) signers → AllByRecursion (λ s. IsDigest s.tag) signers → AreSigners n low signers
ascending_from n low [] first up below tags = tt
ascending_from n low (s ∷ []) first up below tags = (first s [] refl, below.0, tags.0, tt)
ascending_from n low (s ∷ t ∷ signers) first up below tags = (
  first s (t ∷ signers) refl,
  below.0,
  tags.0,
  ascending_from n (s.member + 1) (t ∷ signers) (λ u later e. let is : t ≡ u = cc in let above : s.member < t.member = up 0 (omega arith) in subst (λ v. s.member + 1 ≤ v.member) is (omega arith))
      (increasing_tail s.member (map (λ s. s.member) (t ∷ signers)) up) below.1 tags.1,
)

pub signers_of_certificate : (n : ℕ) (signers : List Signer) (bytes : List ℕ) → IsCertificate n signers bytes → AreSigners n 0 signers
signers_of_certificate n signers bytes is = ascending_from n 0 signers (λ s later e. omega arith) is.ascending is.below is.tags

increasing : (n low : ℕ) (signers : List Signer) → AreSigners n low signers → IsStrictlyIncreasing (map (λ s. s.member) signers)
increasing n low [] are k below = absurd (omega arith)
increasing n low (s ∷ []) are k below = absurd (omega arith)
increasing n low (s ∷ t ∷ signers) are zero below = omega (arith, are.3.0)
increasing n low (s ∷ t ∷ signers) are (suc k) below =
    let e : suc (k + 1) ≡ suc k + 1 = omega arith in
    let members = map (λ s. s.member) (t ∷ signers) in
    subst (λ n. get_or members k 0 < get_or (s.member ∷ members) n 0) e (increasing n (s.member + 1) (t ∷ signers) are.3 k (omega arith))

all_below : (n low : ℕ) (signers : List Signer) → AreSigners n low signers → AllByRecursion (λ s. s.member < n) signers
all_below n low [] are = tt
all_below n low (s ∷ signers) are = (are.1, all_below n (s.member + 1) signers are.3)

all_tags : (n low : ℕ) (signers : List Signer) → AreSigners n low signers → AllByRecursion (λ s. IsDigest s.tag) signers
all_tags n low [] are = tt
all_tags n low (s ∷ signers) are = (are.2, all_tags n (s.member + 1) signers are.3)

-- signers in order are those of a certificate
pub certificate_of_signers : (n : ℕ) (signers : List Signer) → AreSigners n 0 signers → IsCertificate n signers (certificate_bytes signers)
certificate_of_signers n signers are =
    record { spelled = refl; ascending = increasing n 0 signers are; below = all_below n 0 signers are; tags = all_tags n 0 signers are }

-- there are no more signers than members
pub length-signers : (n low : ℕ) (signers : List Signer) → AreSigners n low signers → length signers ≤ n - low
length-signers n low [] are = omega arith
length-signers n low (s ∷ signers) are = omega (arith, are.0, are.1, length-signers n (s.member + 1) signers are.3)

-- bytes that begin with the spellings of so many signers begin with no others
pub signers_front : (n low m high : ℕ) (signers others : List Signer) (rest left : List ℕ) → AreSigners n low signers → AreSigners m high others → length signers ≡ length others
    → flat_map signer_bytes signers ++ rest ≡ flat_map signer_bytes others ++ left → signers ≡ others
signers_front n low m high [] [] rest left are also long e = refl
signers_front n low m high [] (t ∷ others) rest left are also long e = absurd (omega arith)
signers_front n low m high (s ∷ signers) [] rest left are also long e = absurd (omega arith)
signers_front n low m high (s ∷ signers) (t ∷ others) rest left are also long e =
    let first = signer_rest s t (flat_map signer_bytes signers ++ rest) (flat_map signer_bytes others ++ left) (omega (arith, are.2.0, also.2.0))
    (sym (append_assoc (signer_bytes s) (flat_map signer_bytes signers) rest) ∙ e ∙ append_assoc (signer_bytes t) (flat_map signer_bytes others) left) in
    let first_is : s ≡ t = first.0 in
    let others_are : signers ≡ others = signers_front n (s.member + 1) m (t.member + 1) signers others rest left are.3 also.3 (omega arith) first.1 in
    cc

pub certificate_unambiguous : (n : ℕ) → IsUnambiguous (IsMockCertificate n)
certificate_unambiguous n front other rest left f o e =
    let spelled = f.certificate_is.spelled in
    let spelled' = o.certificate_is.spelled in
    let joined = sym (append_assoc (varint (length f.signers)) (flat_map signer_bytes f.signers) rest) ∙ sym (ap (λ b. b ++ rest) spelled) ∙ e ∙ ap (λ b. b ++ left) spelled' ∙ append_assoc (varint (length o.signers)) (flat_map signer_bytes o.signers) left in
    let counts = varint_rest (length f.signers) (length o.signers) (flat_map signer_bytes f.signers ++ rest) (flat_map signer_bytes o.signers ++ left) joined in
    let same = signers_front n 0 n 0 f.signers o.signers rest left (signers_of_certificate n f.signers front f.certificate_is) (signers_of_certificate n o.signers other o.certificate_is) counts.0 counts.1 in
    spelled ∙ ap certificate_bytes same ∙ sym spelled'

no_varint : (bytes : List ℕ) (e : Error) → RefusesVarint bytes e → (n : ℕ) (rest : List ℕ) → IsNumber n → bytes ≡ varint n ++ rest → ⊥
no_varint bytes e (inl cut) n rest fits is = no_cut_varint bytes cut.1 (varint n) rest (record { number = n; fits = fits; spelled = refl }) is
no_varint bytes e (inr bad) n rest fits is = no_bad_varint bytes bad.1 (varint n) rest (record { number = n; fits = fits; spelled = refl }) is

short_tag : (tag after rest : List ℕ) → length tag ≡ 32 → length after < 32 → after ≡ tag ++ rest → ⊥
short_tag tag after rest long short e = omega (arith, ap length e, length-append tag rest)

-- a signer that is refused doesn't stand at the front
pub no_signer : (n low : ℕ) (bytes : List ℕ) (e : Error) → RefusesSigner n low bytes e → n ≤ 2 ^ 64 → (s : Signer) (rest : List ℕ) → low ≤ s.member → s.member < n → IsDigest s.tag → bytes ≡ signer_bytes s ++ rest → ⊥
no_signer n low bytes e (inl none) wide s rest above below tag is = no_varint bytes e none s.member (s.tag ++ rest) (omega arith) (is ∙ append_assoc (varint s.member) s.tag rest)
no_signer n low bytes e (inr bad) wide s rest above below tag is =
    let same = varint_rest bad.member s.member bad.after (s.tag ++ rest) (sym bad.spelled ∙ is ∙ append_assoc (varint s.member) s.tag rest) in
    elim bad.refused [
      | inl outside ↦ elim outside.1 [ inl under ↦ omega (arith, same.0) | inr over ↦ omega (arith, same.0) ]
      | inr short ↦ short_tag s.tag bad.after rest tag.0 short.2.1 same.1
    ]

no_signers : (n low : ℕ) (done signers : List Signer) (after rest : List ℕ) (e : Error) → n ≤ 2 ^ 64 → AreSigners n low done → AreSigners n low signers → length done < length signers
    → RefusesSigner n (next_member low done) after e → flat_map signer_bytes done ++ after ≡ flat_map signer_bytes signers ++ rest → ⊥
no_signers n low [] [] after rest e wide are also fewer refused is = omega arith
no_signers n low (s ∷ done) [] after rest e wide are also fewer refused is = omega arith
no_signers n low [] (t ∷ signers) after rest e wide are also fewer refused is =
    no_signer n low after e refused wide t (flat_map signer_bytes signers ++ rest) also.0 also.1 also.2 (is ∙ append_assoc (signer_bytes t) (flat_map signer_bytes signers) rest)
no_signers n low (s ∷ done) (t ∷ signers) after rest e wide are also fewer refused is =
    let first = signer_rest s t (flat_map signer_bytes done ++ after) (flat_map signer_bytes signers ++ rest) (omega (arith, are.2.0, also.2.0))
    (sym (append_assoc (signer_bytes s) (flat_map signer_bytes done) after) ∙ is ∙ append_assoc (signer_bytes t) (flat_map signer_bytes signers) rest) in
    let rest_are = subst (λ u. AreSigners n (u.member + 1) signers) (sym first.0) also.3 in
    no_signers n (s.member + 1) done signers after rest e wide are.3 rest_are (omega arith) refused first.1

-- what is refused begins with no certificate
pub no_certificate : (n : ℕ) (bytes : List ℕ) (e : Error) → n < 2 ^ 64 → RefusesCertificate n bytes e → HasNoFront (IsMockCertificate n) bytes
no_certificate n bytes e wide refused front rest is spelled =
    let are = signers_of_certificate n is.signers front is.certificate_is in
    let few = length-signers n 0 is.signers are in
    let joined = spelled ∙ ap (λ b. b ++ rest) is.certificate_is.spelled ∙ append_assoc (varint (length is.signers)) (flat_map signer_bytes is.signers) rest in
    elim refused [
      | inl none ↦ no_varint bytes e none (length is.signers) (flat_map signer_bytes is.signers ++ rest) (omega arith) joined
      | inr counted ↦
          let same = varint_rest counted.count (length is.signers) counted.after (flat_map signer_bytes is.signers ++ rest) (sym counted.spelled ∙ joined) in
          elim counted.refused [
            | inl many ↦ omega (arith, many.1, same.0)
            | inr few_stand ↦
                let bad = few_stand.1 in
                no_signers n 0 bad.done is.signers bad.after rest e (omega arith) bad.are_signers are (omega (arith, bad.fewer, same.0)) bad.refused (sym bad.spelled ∙ same.1)
          ]
    ]
