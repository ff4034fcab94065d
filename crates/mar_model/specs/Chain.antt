-- The chain that consensus finalized, given from outside; the node is compared with it.
use Rattle.std.specs.Prelude.{Contains, IsTrue, List, Option, Some, length, option_map, slice_get, ℕ, ◌+◌, ◌-◌, ◌<◌, ◌^◌, ◌≡◌, ◌≤◌}
use Rattle.mar_types.specs.Round.{Round, round_lt}
use Rattle.mar_cert.specs.Block.{Block}
use Rattle.mar_types.specs.Epochs.{Epochs, containing}

-- a round that finalized the block at this height
pub record Final : Type 0 where
  pub round : Round
  pub height : ℕ

-- The finalized blocks, block i at place i, and the rounds that finalized them.
pub record Chain : Type 0 where
  pub blocks : List Block
  pub finals : List Final

-- the round finalized the block at this height
abbrev pub IsFinal : Chain → Round → ℕ → Type 0
IsFinal chain round height = Contains chain.finals (record { round = round; height = height })

-- this is the block at this height
abbrev pub IsBlockAt : Chain → ℕ → Block → Type 0
IsBlockAt chain height block = slice_get chain.blocks height ≡ Some block

-- the commitment of the block at this height
abbrev pub commitment_at : Chain → ℕ → Option (List ℕ)
commitment_at chain height = option_map (λ b. b.commitment) (slice_get chain.blocks height)

-- the digest of the block at this height
abbrev pub digest_at : Chain → ℕ → Option (List ℕ)
digest_at chain height = option_map (λ b. b.digest) (slice_get chain.blocks height)

-- the round finalized the block at this height, and the payload commits to that block
pub record Finalizes (chain : Chain) (height : ℕ) (round : Round) (payload : List ℕ) : Type 0 where
  pub named : IsFinal chain round height
  pub payload_is : commitment_at chain height ≡ Some payload

-- What finality promises of a chain: children name their parents, a round finalizes one height, later rounds no lower one, each in its own epoch.
pub record IsLawful (epochs : Epochs) (chain : Chain) : Type 0 where
  pub heights : (i : ℕ) (b : Block) → IsBlockAt chain i b → b.height ≡ i
  pub parents : (i : ℕ) (a b : Block) → IsBlockAt chain i a → IsBlockAt chain (i + 1) b → b.parent ≡ a.digest
  pub parent_commitments : (i : ℕ) (a b : Block) → IsBlockAt chain i a → IsBlockAt chain (i + 1) b → b.parent_commitment ≡ a.commitment
  pub bounded : length chain.blocks < 2 ^ 64 - 1
  pub one_height : (r : Round) (h k : ℕ) → IsFinal chain r h → IsFinal chain r k → h ≡ k
  pub no_lower : (r s : Round) (h k : ℕ) → IsFinal chain r h → IsFinal chain s k → IsTrue (round_lt r s) → h ≤ k
  pub above_zero : (r : Round) (h : ℕ) → IsFinal chain r h → 1 ≤ h
  pub in_list : (r : Round) (h : ℕ) → IsFinal chain r h → h < length chain.blocks
  pub views : (r : Round) (h : ℕ) → IsFinal chain r h → 1 ≤ r.view
  pub own_epoch : (r : Round) (h : ℕ) → IsFinal chain r h → containing epochs h ≡ Some r.epoch
