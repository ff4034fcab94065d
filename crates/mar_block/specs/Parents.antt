-- The line of parents of a block.
use Rattle.std.specs.Prelude.{Bool, List, None, Option, Some, [], bytes_eq, find, suc, zero, ℕ, ◌&&◌, ◌==◌, ◌∷◌}
use Rattle.mar_cert.specs.Block.{Block}

abbrev pub is_parent : Block → ℕ → Block → Bool
is_parent child height b = b.height == height && bytes_eq b.digest child.parent

abbrev pub parents_below : ℕ → Block → List Block → List Block
parents_below zero b blocks = b ∷ []
parents_below (suc h) b blocks = b ∷ on_from (find (is_parent b h) blocks) (λ parent. parents_below h parent blocks)
  where
    on_from : Option Block → (Block → List Block) → List Block
    on_from None others = []
    on_from (Some parent) others = others parent

-- b, then the block whose digest is its parent and whose height is one less, and so on; it ends after
-- height zero or where there is none
abbrev pub parents : Block → List Block → List Block
parents b blocks = parents_below b.height b blocks
