-- Blocks of a context, a parent, a height, a timestamp and a digest of their own: their bytes, and what names them.
use Rattle.std.specs.Int.{to_be_bytes, w64}
use Rattle.std.specs.Prelude.{List, ℕ, ◌++◌}
use Rattle.mar_types.specs.Codec.{Joined}
use Rattle.mar_types.specs.Refusals.{RefusesJoined, RefusesVarint}
use Rattle.mar_types.specs.Varint.{IsVarint, varint}
use Rattle.mar_types.specs.declared.Error.{Error}

-- the bytes that spell a block, by the spellings of its parts
abbrev pub mock_bytes : List ℕ → List ℕ → ℕ → ℕ → List ℕ → List ℕ
mock_bytes context parent height timestamp digest = context ++ (parent ++ (varint height ++ (varint timestamp ++ digest)))

-- the message whose digest names one that is made
abbrev pub mock_message : List ℕ → List ℕ → ℕ → ℕ → List ℕ
mock_message context parent height timestamp = parent ++ to_be_bytes w64 height ++ context ++ to_be_bytes w64 timestamp

-- a context in this grammar, a parent, a height, a timestamp and a digest
abbrev pub SpellsMock : (List ℕ → Type 0) → (List ℕ → Type 0) → List ℕ → Type 0
SpellsMock Context Digest = Joined Context (Joined Digest (Joined IsVarint (Joined IsVarint Digest)))

abbrev pub RefusesMock : (List ℕ → Type 0) → (List ℕ → Error → Type 0) → (List ℕ → Type 0) → (List ℕ → Error → Type 0) → List ℕ → Error → Type 0
RefusesMock Context refuses_context Digest refuses_digest =
    RefusesJoined Context refuses_context (RefusesJoined Digest refuses_digest (RefusesJoined IsVarint RefusesVarint (RefusesJoined IsVarint RefusesVarint refuses_digest)))
