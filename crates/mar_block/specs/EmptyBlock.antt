-- Blocks of a parent, a height and a timestamp: their bytes, and what names them.
use Rattle.std.specs.Int.{to_be_bytes, w64}
use Rattle.std.specs.Prelude.{List, ℕ, ◌++◌}
use Rattle.mar_types.specs.Codec.{Joined}
use Rattle.mar_types.specs.Refusals.{RefusesJoined, RefusesVarint}
use Rattle.mar_types.specs.Varint.{IsVarint, varint}
use Rattle.mar_types.specs.declared.Error.{Error}
use Rattle.mar_cert.specs.Block.{Block}

-- the bytes that spell a block
abbrev pub block_bytes : List ℕ → ℕ → ℕ → List ℕ
block_bytes parent height timestamp = parent ++ varint height ++ varint timestamp

-- the message whose digest names it
abbrev pub block_message : List ℕ → ℕ → ℕ → List ℕ
block_message parent height timestamp = parent ++ to_be_bytes w64 height ++ to_be_bytes w64 timestamp

-- a parent in this grammar, a height and a timestamp
abbrev pub SpellsBlock : (List ℕ → Type 0) → List ℕ → Type 0
SpellsBlock Parent = Joined Parent (Joined IsVarint IsVarint)

abbrev pub RefusesBlock : (List ℕ → Type 0) → (List ℕ → Error → Type 0) → List ℕ → Error → Type 0
RefusesBlock Parent refuses_parent = RefusesJoined Parent refuses_parent (RefusesJoined IsVarint RefusesVarint RefusesVarint)

-- a block whose commitment is its digest, by what its type tells of it
abbrev pub standard_block : {B : Type 0} → (B → List ℕ) → (B → ℕ) → (B → List ℕ) → (B → List ℕ) → B → Block
standard_block digest height parent encoded b =
    record { digest = digest b; commitment = digest b; height = height b; parent = parent b; parent_commitment = parent b; encoded = encoded b }
