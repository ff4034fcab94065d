-- What the parts of an opening make of stores that were reopened.
use Rattle.std.specs.Prelude.{Bool, IfErr, List, None, Option, Result, Some, [], false, nat_lt, option_map, true, ℕ, ◌∷◌, ◌≡◌, ◌⊎◌, ◌||◌}
use Rattle.mar_types.specs.Epochs.{Epochs}
use Rattle.mar_cert.specs.Block.{Block}
use Rattle.mar_key.specs.Cutoff.{Cutoff}
use Rattle.mar_store.specs.Kept.{At, Kept, has_height, value_at}
use Rattle.mar_model.specs.Stored.{at_own_height, is_held}
use Rattle.mar_model.specs.Metadata.{Pair, pair_of}
use Rattle.mar_model.specs.Faults.{Fault, anchor_fault, from_genesis, genesis_fault, limit_fault, next_after, successor_fault}
use Rattle.mar_model.specs.Held.{Grew, Held, Loses, Written, ended_on}
use Rattle.mar_model.specs.Lives.{opened_cutoff, opened_witnessed, processed_at}
use Rattle.mar_model.specs.Moves.{StoresValue}

-- the processed height and the cutoff in memory
abbrev pub pair_in : Held → Pair
pair_in s = pair_of s.processed s.cutoff

-- block 0 is held, or delivery is past it
abbrev pub is_begun : Option ℕ → List (At Block) → Bool
is_begun processed blocks = has_height blocks 0 || nat_lt 1 (next_after processed)

-- block 0 is put and made durable where it is missing
abbrev pub Enters : Bool → Block → Kept (At Block) → Kept (At Block) → Type 0
Enters true g old new = new ≡ old
Enters false g old new = StoresValue (is_held old.held g) old (at_own_height g) new

-- No height is the last one, the genesis is block 0, and the processed height is backed.
pub record BeginsWith (g : Block) (old new : Held) : Type 0 where
  pub within_limits : limit_fault old.blocks.held old.certs.held (pair_in old) ≡ None
  pub genesis : genesis_fault old.blocks.held (from_genesis g) ≡ None
  pub enters : Enters (is_begun (pair_in old).processed old.blocks.held) g old.blocks new.blocks
  pub anchored : anchor_fault new.blocks.held (pair_in old).processed ≡ None
  pub same : new ≡ record old { blocks = new.blocks; processed = option_map (processed_at new.blocks.held) (pair_in old).processed; watches = new.watches }

-- the processed height isn't backed
pub record IsUnbacked (g : Block) (old : Held) (fault : Fault) : Type 0 where
  pub within_limits : limit_fault old.blocks.held old.certs.held (pair_in old) ≡ None
  pub genesis : genesis_fault old.blocks.held (from_genesis g) ≡ None
  pub blocks : Kept (At Block)
  pub enters : Enters (is_begun (pair_in old).processed old.blocks.held) g old.blocks blocks
  pub is : anchor_fault blocks.held (pair_in old).processed ≡ Some fault

-- a height is the last one, or the genesis isn't block 0, or the processed height isn't backed
abbrev pub IsBeginFault : Block → Held → Fault → Type 0
IsBeginFault g old fault =
    (limit_fault old.blocks.held old.certs.held (pair_in old) ≡ Some fault)
    ⊎ (limit_fault old.blocks.held old.certs.held (pair_in old) ≡ None) × (genesis_fault old.blocks.held (from_genesis g) ≡ Some fault)
    ⊎ IsUnbacked g old fault

-- the fault of the block and the certificate just above the processed height
abbrev pub next_fault : Held → Option Fault
next_fault s = let next = next_after (pair_in s).processed in successor_fault (value_at s.blocks.held next) (value_at s.certs.held next)

-- the cutoff that the archives show
abbrev pub derived_cutoff : Epochs → Held → Cutoff
derived_cutoff epochs s = opened_cutoff epochs s.blocks.held s.certs.held (pair_in s)

-- the pair that is made durable with it
abbrev pub derived_pair : Epochs → Held → Pair
derived_pair epochs s = pair_of s.processed (derived_cutoff epochs s)

-- The successor is the one that its certificate names, the cutoff is the derived one and durable, and the later of the
-- rounds that it is derived from is witnessed.
pub record Derives (epochs : Epochs) (old new : Held) : Type 0 where
  pub successor : next_fault old ≡ None
  pub same : new ≡ record old {
    cutoff = derived_cutoff epochs old;
    witnessed = opened_witnessed old.blocks.held old.certs.held (pair_in old);
    pairs = derived_pair epochs old ∷ [];
    watches = new.watches;
  }

-- What is left, since some start, where the cutoff couldn't be derived or made durable.
abbrev pub LosesDeriving : {T C : Type 0} → (C → Fault) → Epochs → Held → Held → Result T C → Type 0
LosesDeriving fault epochs old new result =
    (start : Held) (all : Written) → Grew start all old → IfErr result (λ c. Loses start all (ended_on (fault c) new) ⊎ (next_fault old ≡ None) × Loses start (record all { pairs = derived_pair epochs old ∷ all.pairs }) (ended_on (fault c) new))
