-- The mock scheme: tags by SHA-256, a quorum of members.
use Rattle.std.specs.Int.{to_be_bytes, w32}
use Rattle.std.specs.List.{AllByRecursion, flat_map, list_all}
use Rattle.std.specs.List.Sorted.{IsStrictlyIncreasing}
use Rattle.std.specs.Prelude.{Bool, List, None, Option, Some, [], bytes_eq, codes, drop, false, if◌then◌else◌, length, map, min, nat_le, nat_lt, option_and_then, option_map, suc, take, true, zero, ℕ, ◌&&◌, ◌*◌, ◌++◌, ◌+◌, ◌-◌, ◌/◌, ◌<◌, ◌∷◌, ◌≡◌, ◌≤◌}
use Rattle.sha2.specs.Sha256.{sha256}
use Rattle.mar_types.specs.Round.{IsRound}
use Rattle.mar_cert.specs.Finalization.{Finalization, Subject, finalize, notarize, proposal_bytes}
use Rattle.mar_types.specs.Varint.{IsNumber, read_varint, varint}
use Rattle.mar_types.specs.Digest.{IsDigest}

-- a member's part of a mock certificate
pub record Signer : Type 0 where
  pub member : ℕ
  pub tag : List ℕ

abbrev pub signer_bytes : Signer → List ℕ
signer_bytes s = varint s.member ++ s.tag

-- Members strictly ascend and are below n.
pub record IsCertificate (n : ℕ) (signers : List Signer) (bytes : List ℕ) : Type 0 where
  pub spelled : bytes ≡ varint (length signers) ++ flat_map signer_bytes signers
  pub ascending : IsStrictlyIncreasing (map (λ s. s.member) signers)
  pub below : AllByRecursion (λ s. s.member < n) signers
  pub tags : AllByRecursion (λ s. IsDigest s.tag) signers

-- a finalization or notarization that is read with n members
pub record IsFinalization (n : ℕ) (f : Finalization) : Type 0 where
  pub round_fits : IsRound f.round
  pub parent_fits : IsNumber f.parent
  pub payload_fits : IsDigest f.payload
  pub signers : List Signer
  pub certificate_is : IsCertificate n signers f.certificate

abbrev pub quorum : ℕ → ℕ
quorum n = n - (n - 1) / 3

-- the most bytes of a certificate of so many members; a committee has at most 64
abbrev pub mock_max_size : ℕ → ℕ
mock_max_size n = 1 + 33 * min n 64

abbrev pub subject_byte : Subject → ℕ
subject_byte notarize = 1
subject_byte finalize = 2

-- a member's tag over a proposal's bytes
abbrev pub tag_over : Subject → List ℕ → ℕ → List ℕ
tag_over subject proposal member = sha256 (codes "marshal-mock" ++ subject_byte subject ∷ (proposal ++ to_be_bytes w32 member))

abbrev pub tag_of : Subject → Finalization → ℕ → List ℕ
tag_of subject f member = tag_over subject (proposal_bytes f) member

-- A mock certificate verifies.
pub record Verifies (n : ℕ) (subject : Subject) (f : Finalization) : Type 0 where
  pub signers : List Signer
  pub certificate_is : IsCertificate n signers f.certificate
  pub enough : quorum n ≤ length signers
  pub right : AllByRecursion (λ s. s.tag ≡ tag_of subject f s.member) signers

-- The same as a test: the signers that the bytes spell, if they spell some, and what is asked of them.

-- exactly so many signers
unfoldable pub read_signers : ℕ → List ℕ → Option (List Signer)
read_signers zero [] = Some []
read_signers zero (b ∷ bytes) = None
read_signers (suc k) bytes =
    option_and_then (λ m. if nat_lt (length m.1) 32 then None
    else option_map (λ signers. record { member = m.0; tag = take 32 m.1 } ∷ signers) (read_signers k (drop 32 m.1))) (read_varint bytes)

abbrev pub signers_of : List ℕ → Option (List Signer)
signers_of bytes = option_and_then (λ c. read_signers c.0 c.1) (read_varint bytes)

-- members strictly ascend, from this one on, and are below n
abbrev pub is_ascending_from : ℕ → ℕ → List Signer → Bool
is_ascending_from n low [] = true
is_ascending_from n low (s ∷ signers) = nat_le low s.member && (nat_lt s.member n && is_ascending_from n (s.member + 1) signers)

abbrev pub is_signed_by : ℕ → Subject → Finalization → Option (List Signer) → Bool
is_signed_by n subject f None = false
is_signed_by n subject f (Some signers) =
    is_ascending_from n 0 signers && (nat_le (quorum n) (length signers) && list_all (λ s. bytes_eq s.tag (tag_of subject f s.member)) signers)

abbrev pub mock_verifies : ℕ → Subject → Finalization → Bool
mock_verifies n subject f = is_signed_by n subject f (signers_of f.certificate)
