-- The proposer's rule over the times of blocks, newest first, and what a walk has gathered of a stream.
use Rattle.std.specs.Prelude.{List, [], ℕ, ⊤, ◌+◌, ◌++◌, ◌<◌, ◌∷◌, ◌≡◌, ◌≤◌}
use Rattle.mar_cert.specs.Block.{Block}
use Rattle.sha2.specs.Sha256.{sha256}
use Rattle.mar_types.specs.declared.Sha256.{Sha256}
use Rattle.mar_types.specs.declared.Sha256Digest.{Sha256Digest}
use Rattle.mar_block.specs.EmptyBlock.{block_bytes, block_message, standard_block}
use Rattle.mar_block.specs.Links.{AreLinked, IsDirectParent}
use Rattle.mar_block.specs.declared.EmptyBlock.{EmptyBlock}

-- a block was made after its parent, if that follows, and at most this much later
abbrev pub IsTimely : ℕ → ℕ → List ℕ → Type 0
IsTimely most child [] = ⊤
IsTimely most child (parent ∷ rest) = (parent < child) × (child ≤ parent + most)

abbrev pub AreTimely : ℕ → List ℕ → Type 0
AreTimely most [] = ⊤
AreTimely most (child ∷ rest) = IsTimely most child rest × AreTimely most rest

-- blocks, newest first, each the direct parent of the one before it, as is any that may come next
pub record AreWalked (line : List Block) (MayCome : Block → Type 0) : Type 0 where
  pub linked : AreLinked line
  pub next : (b : Block) → MayCome b → AreLinked (line ++ b ∷ [])

-- a block of the proposer's chain as plain data
abbrev pub plain_block : EmptyBlock Sha256 Sha256Digest → Block
plain_block b = standard_block (λ e. sha256 (block_message e.parent.bytes e.height e.timestamp)) (λ e. e.height)
    (λ e. e.parent.bytes) (λ e. block_bytes e.parent.bytes e.height e.timestamp) b

-- the first of these, if there is one, has that block as its direct parent
abbrev pub IsBelow : Block → List Block → Type 0
IsBelow parent [] = ⊤
IsBelow parent (child ∷ rest) = IsDirectParent child parent

-- blocks from a height on, each the direct parent of the next
abbrev pub IsChainFrom : ℕ → List Block → Type 0
IsChainFrom height [] = ⊤
IsChainFrom height (b ∷ rest) = (b.height ≡ height) × IsBelow b rest × IsChainFrom (height + 1) rest
