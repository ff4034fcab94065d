-- What can be asked of peers, for whom, and what stays open.
use Rattle.std.specs.Prelude.{Bool, List, Option, bytes_eq, false, nat_le, true, ℕ, ◌==◌, ◌∷◌}
use Rattle.mar_types.specs.Round.{IsRound, Round, round_bytes, round_eq}
use Rattle.mar_key.specs.Cutoff.{Cutoff, covers}
use Rattle.mar_types.specs.Varint.{IsNumber, varint}
use Rattle.mar_types.specs.Digest.{IsDigest}

-- what can be asked of peers: a block by commitment, a finalization by height, a notarization by round
pub data Key : Type 0 where
  block_key : List ℕ → Key
  finalized_key : ℕ → Key
  notarized_key : Round → Key

abbrev pub key_eq : Key → Key → Bool
key_eq (block_key c) (block_key d) = bytes_eq c d
key_eq (finalized_key h) (finalized_key k) = h == k
key_eq (notarized_key r) (notarized_key s) = round_eq r s
key_eq _ _ = false

-- for whom it is asked
pub data Annotation : Type 0 where
  for_notarization : Round → Annotation
  untrusted_at : ℕ → Annotation
  certified_at : ℕ → Annotation
  finalized_by_height : ℕ → Annotation
  finalized_by_round : Round → Annotation

abbrev pub annotation_eq : Annotation → Annotation → Bool
annotation_eq (for_notarization r) (for_notarization s) = round_eq r s
annotation_eq (untrusted_at h) (untrusted_at k) = h == k
annotation_eq (certified_at h) (certified_at k) = h == k
annotation_eq (finalized_by_height h) (finalized_by_height k) = h == k
annotation_eq (finalized_by_round r) (finalized_by_round s) = round_eq r s
annotation_eq _ _ = false

abbrev pub is_finalized : Annotation → Bool
is_finalized (finalized_by_height h) = true
is_finalized (finalized_by_round r) = true
is_finalized _ = false

-- what stays open: heights above this one, or rounds that the cutoff does not cover
pub data Retain : Type 0 where
  above_height : ℕ → Retain
  above_round : Cutoff → Retain

-- the retain closes this ask
abbrev pub is_denied : Retain → Annotation → Bool
is_denied (above_height h) (untrusted_at k) = nat_le k h
is_denied (above_height h) (certified_at k) = nat_le k h
is_denied (above_height h) (finalized_by_height k) = nat_le k h
is_denied (above_round c) (for_notarization r) = covers c r
is_denied (above_round c) (finalized_by_round r) = covers c r
is_denied _ _ = false

-- a resolver line: a request, where targeted with its peers, or a retain
pub data Call : Type 0 where
  fetch : Key → Annotation → Option (List ℕ) → Call
  retain : Retain → Call

-- a first byte for the kind, then the content
abbrev pub key_bytes : Key → List ℕ
key_bytes (block_key c) = 0 ∷ c
key_bytes (finalized_key h) = 1 ∷ varint h
key_bytes (notarized_key r) = 2 ∷ round_bytes r

-- a key whose numbers fit, and whose commitment is spelled so
abbrev pub IsKeyOf : (List ℕ → Type 0) → Key → Type 0
IsKeyOf Spells (block_key c) = Spells c
IsKeyOf Spells (finalized_key h) = IsNumber h
IsKeyOf Spells (notarized_key r) = IsRound r

-- a key whose commitment is a digest of 32 bytes
abbrev pub IsKey : Key → Type 0
IsKey = IsKeyOf IsDigest
