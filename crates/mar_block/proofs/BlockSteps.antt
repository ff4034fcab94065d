-- A block whose parts were read one after another.
use Rattle.std.proofs.Common.{List, append_assoc, subst, sym, ℕ, ◌++◌}
use Rattle.mar_types.specs.Codec.{Joined, Takes}
use Rattle.mar_types.specs.CodecLemmas.{joined_takes}
use Rattle.mar_types.specs.Varint.{IsVarint, varint}
use Rattle.mar_block.specs.EmptyBlock.{SpellsBlock, block_bytes}

pub block_taken : (Parent : List ℕ → Type 0) (parent : List ℕ) (height timestamp : ℕ) (old first second new : List ℕ)
    → Takes Parent parent old first → Takes IsVarint (varint height) first second → Takes IsVarint (varint timestamp) second new → Takes (SpellsBlock Parent) (block_bytes parent height timestamp) old new
block_taken Parent parent height timestamp old first second new one two three =
    subst (λ bytes. Takes (SpellsBlock Parent) bytes old new) (sym (append_assoc parent (varint height) (varint timestamp)))
    (joined_takes Parent (Joined IsVarint IsVarint) parent (varint height ++ varint timestamp) old first new one
    (joined_takes IsVarint IsVarint (varint height) (varint timestamp) first second new two three))
