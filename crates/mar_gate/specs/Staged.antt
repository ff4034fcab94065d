-- Finalized blocks that wait to be handed over.
use Rattle.std.specs.BTreeMap.{insert_entry}
use Rattle.std.specs.Map.{lookup, remove_entry}
use Rattle.std.specs.Ordering.{nat_cmp}
use Rattle.std.specs.Prelude.{Bool, List, Option, false, filter, if◌then◌else◌, is_some, length, max, nat_le, nat_lt, not, true, ℕ, ◌&&◌, ◌==◌}

-- What contracts see of what is staged: the blocks by height, the least height that is kept, and the most blocks.
pub record Staged (B : Type 0) : Type 0 where
  pub blocks : List (ℕ × B)
  pub min : ℕ
  pub max : ℕ

-- the block that is staged at a height
abbrev pub staged_at : {B : Type 0} → Staged B → ℕ → Option B
staged_at s h = lookup (λ k. k == h) s.blocks

-- a block of this height is taken in: the height is kept, there is room, and none is there
abbrev pub has_place : {B : Type 0} → Staged B → ℕ → Bool
has_place s h = nat_le s.min h && nat_lt (length s.blocks) s.max && not (is_some (staged_at s h))

-- with the block in its place by height, where there is one
abbrev pub with_block : {B : Type 0} → ℕ → B → Staged B → Staged B
with_block h b s = if has_place s h then record s { blocks = insert_entry nat_cmp s.blocks h b } else s

abbrev pub without_height : {B : Type 0} → ℕ → Staged B → Staged B
without_height h s = record s { blocks = remove_entry (λ k. k == h) s.blocks }

-- from now on only heights from this one on are kept, or from a higher one that was set before
abbrev pub kept_from : {B : Type 0} → ℕ → Staged B → Staged B
kept_from h s = record s { blocks = filter (λ e. nat_le h e.0) s.blocks; min = max s.min h }

-- with a block staged where it is to be
abbrev pub staged_where : {B : Type 0} → Bool → ℕ → B → Staged B → Staged B
staged_where true h b s = with_block h b s
staged_where false h b s = s
