-- The bytes of a mock certificate are read back as its signers.
use Rattle.std.proofs.Common.{List, Some, [], ap, append_assoc, arith, drop, false, inl, inr, length, length-append, refl, suc, sym, take, zero, ℕ, ◌%◌, ◌&&◌, ◌*◌, ◌++◌, ◌+◌, ◌-◌, ◌/◌, ◌<◌, ◌==◌, ◌^◌, ◌∙◌, ◌∷◌, ◌≡◌, ◌≤◌}
use Rattle.std.specs.List.{AllByRecursion, flat_map}
use Rattle.std.specs.Prelude.{nat_lt}
use Rattle.std.proofs.Math.Nat.{pow-succ'}
use Rattle.std.proofs.Math.Seq.{drop-append_seam, take-append_seam}
use Rattle.std.proofs.lemmas.Bool.{and_left, and_right, cases_eq, cases_lt, le-leb, le-ltb, lt-leb, ne_eqb}
use Rattle.mar_types.specs.Digest.{IsDigest}
use Rattle.mar_types.specs.Varint.{IsNumber, read_varint, read_varint_within, varint, varint_within}
use Rattle.mar_types.specs.VarintLemmas.{varint_within-large, varint_within-small}
use Rattle.mar_cert.specs.MockScheme.{Signer, read_signers, signer_bytes, signers_of}
use Rattle.mar_cert.specs.Signers.{certificate_bytes}

-- A NUMBER

padded : (n weight : ℕ) → (n ≡ 0 → weight ≤ 1) → (n == 0 && nat_lt 1 weight) ≡ false
padded n weight least = elim (cases_eq n 0) [
  | inl none ↦ and_right (n == 0) (nat_lt 1 weight) (le-ltb 1 weight (least none))
  | inr some ↦ and_left (n == 0) (nat_lt 1 weight) (ne_eqb n 0 some)
]

-- the byte that ends it
read-last : (k weight sum n : ℕ) (rest : List ℕ) → n < 128 → sum + n * weight < 2 ^ 64 → (n ≡ 0 → weight ≤ 1) → read_varint_within (suc k) weight sum (n ∷ rest) ≡ Some (sum + n * weight, rest)
unfolding read_varint_within
read-last k weight sum n rest small fits least = rw (lt-leb 128 n small, padded n weight least, lt-leb (2 ^ 64) (sum + n * weight) fits) refl

-- a byte before it
read-next : (k weight sum b : ℕ) (rest : List ℕ) → 128 ≤ b → read_varint_within (suc k) weight sum (b ∷ rest) ≡ read_varint_within k (weight * 128) (sum + (b - 128) * weight) rest
unfolding read_varint_within
read-next k weight sum b rest large = rw (le-leb 128 b large) refl

joined : (q r n weight sum : ℕ) → n ≡ 128 * q + r → sum + (r + 128 - 128) * weight + q * (weight * 128) ≡ sum + n * weight
joined q r n weight sum e =
    let low : r + 128 - 128 ≡ r = omega arith in
    rw (e, low) (omega arith)

rest_of : (n : ℕ) → n ≡ 128 * (n / 128) + n % 128
rest_of n = omega arith

below_part : (n p : ℕ) → n < 128 * p → n / 128 < p
below_part n p h = omega arith

read-whole : (k weight sum n : ℕ) (rest : List ℕ) → n < 128 ^ suc k → sum + n * weight < 2 ^ 64 → (n ≡ 0 → weight ≤ 1) → read_varint_within (suc k) weight sum (varint_within k n ++ rest) ≡ Some (sum + n * weight, rest)
read-whole zero weight sum n rest short fits least =
    let small : n < 128 = rw pow-succ' at short in
    rw (varint_within-small 0 n small) (read-last 0 weight sum n rest small fits least)
read-whole (suc k) weight sum n rest short fits least = elim (cases_lt n 128) [
  | inl small ↦ rw (varint_within-small (suc k) n small) (read-last (suc k) weight sum n rest small fits least)
  | inr large ↦
      let same = joined (n / 128) (n % 128) n weight sum (rest_of n) in
      rw (varint_within-large k n large) (
      read-next (suc k) weight sum (n % 128 + 128) (varint_within k (n / 128) ++ rest) (omega arith)
      ∙ read-whole k (weight * 128) (sum + (n % 128 + 128 - 128) * weight) (n / 128) rest (below_part n _ (rw pow-succ' at short)) (rw same fits) (λ none. absurd (omega arith))
      ∙ ap (λ value. Some (value, rest)) same
      )
]

times_one : (n : ℕ) → 0 + n * 1 ≡ n
times_one n = omega arith

-- what follows a number's spelling is left
pub read_varint-back : (n : ℕ) (rest : List ℕ) → IsNumber n → read_varint (varint n ++ rest) ≡ Some (n, rest)
read_varint-back n rest fits =
    read-whole 9 1 0 n rest (omega arith) (omega arith) (λ none. omega arith) ∙ ap (λ value. Some (value, rest)) (times_one n)

-- SIGNERS

-- members are numbers, each with a tag
abbrev pub AreSpelled : List Signer → Type 0
AreSpelled signers = AllByRecursion (λ s. IsNumber s.member × IsDigest s.tag) signers

tag_taken : (tag rest : List ℕ) → length tag ≡ 32 → take 32 (tag ++ rest) ≡ tag
tag_taken tag rest long = ap (λ n. take n (tag ++ rest)) (sym long) ∙ take-append_seam tag rest

tag_dropped : (tag rest : List ℕ) → length tag ≡ 32 → drop 32 (tag ++ rest) ≡ rest
tag_dropped tag rest long = ap (λ n. drop n (tag ++ rest)) (sym long) ∙ drop-append_seam tag rest

read_signer : (k member : ℕ) (tag rest : List ℕ) (signers : List Signer) → IsNumber member → length tag ≡ 32 → read_signers k rest ≡ Some signers
    → read_signers (suc k) (varint member ++ (tag ++ rest)) ≡ Some (record { member = member; tag = tag } ∷ signers)
unfolding read_signers
read_signer k member tag rest signers fits long others =
    let enough : 32 ≤ length (tag ++ rest) = omega (arith, length-append tag rest) in
    rw (read_varint-back member (tag ++ rest) fits, le-ltb (length (tag ++ rest)) 32 enough, tag_taken tag rest long, tag_dropped tag rest long, others) refl

no_signers : read_signers 0 [] ≡ Some []
unfolding read_signers
no_signers = refl

read_signers-back : (signers : List Signer) → AreSpelled signers → read_signers (length signers) (flat_map signer_bytes signers) ≡ Some signers
read_signers-back [] are = no_signers
read_signers-back (s ∷ signers) are =
    rw (append_assoc (varint s.member) s.tag (flat_map signer_bytes signers))
    (read_signer (length signers) s.member s.tag (flat_map signer_bytes signers) signers are.0.0 are.0.1.0 (read_signers-back signers are.1))

-- a certificate's bytes are read back as its signers
pub signers_of-back : (signers : List Signer) → AreSpelled signers → IsNumber (length signers) → signers_of (certificate_bytes signers) ≡ Some signers
signers_of-back signers are count = rw (read_varint-back (length signers) (flat_map signer_bytes signers) count) (read_signers-back signers are)
