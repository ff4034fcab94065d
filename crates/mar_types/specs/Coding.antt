-- How a coded block is split, as bytes.
use Rattle.std.specs.Int.{from_be_bytes, to_be_bytes, w16}
use Rattle.std.specs.List.{list_all, slice_range}
use Rattle.std.specs.Prelude.{Bool, List, drop, false, length, max, replicate, take, true, ℕ, ◌%◌, ◌++◌, ◌-◌, ◌/◌, ◌<◌, ◌==◌, ◌^◌, ◌≡◌, ◌≤◌, ◌⊎◌}
use Rattle.mar_types.specs.Codec.{Joined}
use Rattle.mar_types.specs.Digest.{IsBytes}
use Rattle.mar_types.specs.Refusals.{RefusesJoined, RefusesShort}
use Rattle.mar_types.specs.declared.error.Error.{Error}
use Rattle.mar_types.specs.declared.error.Error.TheVariants.{Invalid}
use Rattle.mar_types.specs.declared.error.Reason.{Reason}
use Rattle.mar_types.specs.declared.error.Kind.TheVariants.{Commitment}
use Rattle.mar_types.specs.declared.error.Reason.TheVariants.{BlockDigest, CodingConfig, CodingRoot, ContextDigest, DigestPadding}

-- a number of shards: two bytes, which aren't both zero
abbrev pub SpellsShards : List ℕ → Type 0
SpellsShards bytes = IsBytes 2 bytes × (0 < from_be_bytes w16 bytes)

-- there are too few bytes, or two that are zero
abbrev pub RefusesShards : List ℕ → Error → Type 0
RefusesShards bytes e = RefusesShort 2 bytes e ⊎ ((e ≡ Invalid Commitment CodingConfig) × (2 ≤ length bytes) × (from_be_bytes w16 (take 2 bytes) ≡ 0))

-- the least number of shards, and then the number of extra ones
abbrev pub SpellsConfig : List ℕ → Type 0
SpellsConfig = Joined SpellsShards SpellsShards

abbrev pub RefusesConfig : List ℕ → Error → Type 0
RefusesConfig = RefusesJoined SpellsShards RefusesShards RefusesShards

-- each byte is zero
abbrev pub is_zero : List ℕ → Bool
is_zero bytes = list_all (λ b. b == 0) bytes

-- a digest of so many bytes in a field of 32, whose rest is zero
pub record SpellsField (Spells : List ℕ → Type 0) (size : ℕ) (field : List ℕ) : Type 0 where
  pub digest : Spells (take size field)
  pub padding : is_zero (drop size field) ≡ true

-- no digest is spelled, or one is and the rest isn't zero
abbrev pub RefusesField : (List ℕ → Type 0) → ℕ → Reason → List ℕ → Error → Type 0
RefusesField Spells size reason field e = ((e ≡ Invalid Commitment reason) × (Spells (take size field) → ⊥)) ⊎ ((e ≡ Invalid Commitment DigestPadding) × Spells (take size field) × (is_zero (drop size field) ≡ false))

-- a commitment: three fields of 32 bytes, and the config
pub record SpellsCommitment (Block Root Context : List ℕ → Type 0) (block_size root_size context_size : ℕ) (bytes : List ℕ) : Type 0 where
  pub sized : IsBytes 100 bytes
  pub block : SpellsField Block block_size (slice_range bytes 0 32)
  pub root : SpellsField Root root_size (slice_range bytes 32 64)
  pub context : SpellsField Context context_size (slice_range bytes 64 96)
  pub config : SpellsConfig (slice_range bytes 96 100)

-- The first part that isn't as it is to be gives the reason; `whole` is the commitment's bytes.
abbrev pub RefusesParts : (Block Root Context : List ℕ → Type 0) → (block_size root_size context_size : ℕ) → List ℕ → Error → Type 0
RefusesParts Block Root Context block_size root_size context_size whole e =
    RefusesField Block block_size BlockDigest (slice_range whole 0 32) e
    ⊎ (SpellsField Block block_size (slice_range whole 0 32) × RefusesField Root root_size CodingRoot (slice_range whole 32 64) e)
    ⊎ (SpellsField Block block_size (slice_range whole 0 32) × SpellsField Root root_size (slice_range whole 32 64) × RefusesField Context context_size ContextDigest (slice_range whole 64 96) e)
    ⊎ (SpellsField Block block_size (slice_range whole 0 32) × SpellsField Root root_size (slice_range whole 32 64) × SpellsField Context context_size (slice_range whole 64 96) × (e ≡ Invalid Commitment CodingConfig) × (SpellsConfig (slice_range whole 96 100) → ⊥))

-- there are too few bytes, or the first 100 aren't a commitment
abbrev pub RefusesCommitment : (Block Root Context : List ℕ → Type 0) → (block_size root_size context_size : ℕ) → List ℕ → Error → Type 0
RefusesCommitment Block Root Context block_size root_size context_size bytes e = RefusesShort 100 bytes e ⊎ ((100 ≤ length bytes) × RefusesParts Block Root Context block_size root_size context_size (take 100 bytes) e)

-- a digest's bytes in a field of 32
abbrev pub padded : List ℕ → List ℕ
padded digest = digest ++ replicate (32 - length digest) 0

-- two numbers of shards, as two bytes each
abbrev pub config_bytes : ℕ → ℕ → List ℕ
config_bytes minimum extra = to_be_bytes w16 minimum ++ to_be_bytes w16 extra

-- a commitment of these parts
abbrev pub commitment_bytes : (block root context config : List ℕ) → List ℕ
commitment_bytes block root context config = (padded block ++ padded root) ++ (padded context ++ config)

-- a commitment made of these parts: it is valid where they are spelled, and each of them is found in it
pub record JoinsParts (Block Root Context : List ℕ → Type 0) (block_size root_size context_size : ℕ) (block root context config bytes : List ℕ) : Type 0 where
  pub joined : bytes ≡ commitment_bytes block root context config
  pub valid : Block block → Root root → Context context → SpellsCommitment Block Root Context block_size root_size context_size bytes
  pub block_found : take block_size (slice_range bytes 0 32) ≡ block
  pub root_found : take root_size (slice_range bytes 32 64) ≡ root
  pub context_found : take context_size (slice_range bytes 64 96) ≡ context
  pub config_found : slice_range bytes 96 100 ≡ config

-- a random commitment: a word gives the shards, its low half the least number and its high half that of extra ones, with one in place of none; then come block, root and context
pub record DrawsCommitment {State : Type 0} (gives_word : State → ℕ → State → Type 0) (draws_block draws_root draws_context : State → List ℕ → State → Type 0) (old : State) (bytes : List ℕ) (new : State) : Type 0 where
  pub word : ℕ
  pub block : List ℕ
  pub root : List ℕ
  pub context : List ℕ
  pub after_word : State
  pub after_block : State
  pub after_root : State
  pub word_given : gives_word old word after_word
  pub block_drawn : draws_block after_word block after_block
  pub root_drawn : draws_root after_block root after_root
  pub context_drawn : draws_context after_root context new
  pub joined : bytes ≡ commitment_bytes block root context (config_bytes (max (word % 2 ^ 16) 1) (max (word / 2 ^ 16) 1))
