-- What the hexadecimal words of a script spell are bytes.
use Rattle.std.proofs.Common.{List, ap, arith, inl, inr, length, length-append, refl, subst, sym, suc, zero, ℕ, ◌%◌, ◌*◌, ◌++◌, ◌+◌, ◌/◌, ◌<◌, ◌^◌, ◌≡◌, ◌∷◌, [], ◌⊎◌}
use Rattle.std.proofs.Math.Nat.{pow-succ'}
use Rattle.std.proofs.lemmas.Bool.{cases_lt}
use Rattle.std.proofs.lemmas.List.Elements.{All-append, All-cons, All-from_recursion, All-nil, All-same, recursion_from_All}
use Rattle.std.specs.List.{All, flat_map}
use Rattle.hex.specs.Hex.{IsBytes}
use Rattle.mar_types.specs.declared.Error.{Error}
use Rattle.mar_types.specs.declared.Error.TheVariants.{Memory}
use Rattle.mar_types.specs.Digest.{IsByte, IsDigest}
use Rattle.mar_types.specs.DigestLemmas.{below_from_all}
use Rattle.mar_types.specs.Varint.{IsNumber, varint, varint_within}
use Rattle.mar_types.specs.VarintLemmas.{varint_within-large, varint_within-small}
use Rattle.mar_cert.specs.Finalization.{Finalization, finalization_bytes, proposal_bytes}
use Rattle.mar_cert.specs.MockScheme.{IsFinalization, Signer, signer_bytes}
use Rattle.mar_cert.specs.Signers.{AreSigners}
use Rattle.mar_cert.specs.SignersLemmas.{length-signers, signers_of_certificate}
use Rattle.mar_types.specs.Round.{round_bytes}
use Rattle.mar_cert.specs.Block.{Block, IsBlock}

abbrev AreBytes : List ℕ → Type 0
AreBytes xs = All IsByte xs

part : (n p : ℕ) → n < 256 * (128 * p) → n / 128 < 256 * p
part n p h = omega arith

last : (n : ℕ) → varint_within 0 n ≡ n ∷ []
unfolding varint_within
last n = refl

varint_within_bytes : (k n : ℕ) → n < 256 * 128 ^ k → AreBytes (varint_within k n)
varint_within_bytes zero n h = rw (last n) (All-cons IsByte n [] (omega arith) (All-nil IsByte))
varint_within_bytes (suc k) n h = elim (cases_lt n 128) [
  | inl small ↦ rw (varint_within-small (suc k) n small) (All-cons IsByte n [] (omega arith) (All-nil IsByte))
  | inr large ↦ rw (varint_within-large k n large) (All-cons IsByte (n % 128 + 128) _ (omega arith) (varint_within_bytes k (n / 128) (part n _ (rw pow-succ' at h))))
]

number_bytes : (n : ℕ) → IsNumber n → AreBytes (varint n)
number_bytes n h = varint_within_bytes 9 n (omega arith)

digest_bytes : (d : List ℕ) → IsDigest d → AreBytes d
digest_bytes d is = All-from_recursion IsByte d is.1

all_bytes : (xs : List ℕ) → AreBytes xs → IsBytes xs
all_bytes xs are = below_from_all xs (recursion_from_All IsByte xs are)

pub digest_is_bytes : (d : List ℕ) → IsDigest d → IsBytes d
digest_is_bytes d is = all_bytes d (digest_bytes d is)

-- A BLOCK

pub block_is_bytes : (b : Block) → IsBlock b → IsBytes b.encoded
block_is_bytes b is =
    all_bytes b.encoded (All-same IsByte b.encoded _ is.bytes
    (All-append IsByte (b.parent ++ varint b.height) (varint is.timestamp)
    (All-append IsByte b.parent (varint b.height) (digest_bytes b.parent is.parent_fits) (number_bytes b.height is.height_fits))
    (number_bytes is.timestamp is.timestamp_fits)))

pub block_some_bytes : (b : Block) → IsBlock b → 0 < length b.encoded
block_some_bytes b is = omega (arith, ap length is.bytes, is.parent_fits.0, length-append (b.parent ++ varint b.height) (varint is.timestamp), length-append b.parent (varint b.height))

-- A FINALIZATION

signers_bytes : (n low : ℕ) (signers : List Signer) → n < 2 ^ 64 → AreSigners n low signers → AreBytes (flat_map signer_bytes signers)
signers_bytes n low [] wide are = All-nil IsByte
signers_bytes n low (s ∷ signers) wide are =
    All-append IsByte (signer_bytes s) (flat_map signer_bytes signers)
    (All-append IsByte (varint s.member) s.tag (number_bytes s.member (omega (arith, are.1))) (digest_bytes s.tag are.2))
    (signers_bytes n (s.member + 1) signers wide are.3)

certificate_are_bytes : (n : ℕ) (f : Finalization) → n < 2 ^ 64 → IsFinalization n f → AreBytes f.certificate
certificate_are_bytes n f wide is =
    let are = signers_of_certificate n is.signers f.certificate is.certificate_is in
    All-same IsByte f.certificate _ is.certificate_is.spelled
    (All-append IsByte (varint (length is.signers)) (flat_map signer_bytes is.signers) (number_bytes (length is.signers) (omega (arith, length-signers n 0 is.signers are))) (signers_bytes n 0 is.signers wide are))

pub finalization_is_bytes : (n : ℕ) (f : Finalization) → n < 2 ^ 64 → IsFinalization n f → IsBytes (finalization_bytes f)
finalization_is_bytes n f wide is =
    all_bytes (finalization_bytes f)
    (All-append IsByte (proposal_bytes f) f.certificate
    (All-append IsByte (round_bytes f.round ++ varint f.parent) f.payload
    (All-append IsByte (round_bytes f.round) (varint f.parent)
    (All-append IsByte (varint f.round.epoch) (varint f.round.view) (number_bytes f.round.epoch is.round_fits.0) (number_bytes f.round.view is.round_fits.1))
    (number_bytes f.parent is.parent_fits))
    (digest_bytes f.payload is.payload_fits))
    (certificate_are_bytes n f wide is))

pub finalization_some_bytes : (n : ℕ) (f : Finalization) → IsFinalization n f → 0 < length (finalization_bytes f)
finalization_some_bytes n f is = omega (arith, is.payload_fits.0, length-append (proposal_bytes f) f.certificate, length-append (round_bytes f.round ++ varint f.parent) f.payload)

-- what a reader refuses for another cause than memory is no spelling
pub refused : (P : List ℕ → Type 0) (bytes spelled : List ℕ) (e : Error) → (e ≡ Memory → ⊥) → (e ≡ Memory) ⊎ (P bytes → ⊥) → bytes ≡ spelled → P spelled → ⊥
refused P bytes spelled e other (inl memory) same is = other memory
refused P bytes spelled e other (inr none) same is = none (subst P (sym same) is)
