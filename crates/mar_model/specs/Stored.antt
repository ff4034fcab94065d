-- What the stores of finalized blocks and of their certificates find and put.
use Rattle.std.specs.Prelude.{ℕ, ◌||◌, Bool, List, None, Option, Some, find, map, bytes_eq, is_some, option_map}
use Rattle.std.specs.List.{list_any, AllByRecursion}
use Rattle.std.specs.Prelude.{◌≡◌}
use Rattle.mar_cert.specs.Finalization.{Finalization}
use Rattle.mar_store.specs.Kept.{At, has_height, value_at}
use Rattle.mar_store.specs.Named.{last_index}
use Rattle.mar_cert.specs.Block.{Block}
use Rattle.mar_store.specs.Sizes.{IsSmall}

-- a block at its own height
abbrev pub at_own_height : Block → At Block
at_own_height b = record { height = b.height; value = b }

abbrev pub values_of : {T : Type 0} → List (At T) → List T
values_of xs = map (λ x. x.value) xs

-- the first block of this digest
abbrev pub block_of : List (At Block) → List ℕ → Option Block
block_of xs digest = find (λ b. bytes_eq b.digest digest) (values_of xs)

-- a block at that height or of that digest is held already
abbrev pub is_held : List (At Block) → Block → Bool
is_held xs b = has_height xs b.height || is_some (block_of xs b.digest)

-- the entry at that height
abbrev pub entry_at : {T : Type 0} → List (At T) → Option ℕ → Option (At T)
entry_at xs None = None
entry_at xs (Some h) = option_map (λ v. record { height = h; value = v }) (value_at xs h)

-- the entry of the greatest height
abbrev pub newest : {T : Type 0} → List (At T) → Option (At T)
newest xs = entry_at xs (last_index xs)

-- a certificate at that height or over a payload of that digest is held already
abbrev pub is_certified : (List ℕ → List ℕ) → List (At Finalization) → ℕ → List ℕ → Bool
is_certified inner xs height digest = has_height xs height || list_any (λ x. bytes_eq (inner x.value.payload) digest) xs

-- Each held block stands at its own height, its commitment names its digest, and it is small enough for a store.
pub record AreOwn (inner : List ℕ → List ℕ) (xs : List (At Block)) : Type 0 where
  pub heights : AllByRecursion (λ x. x.value.height ≡ x.height) xs
  pub digests : AllByRecursion (λ x. inner x.value.commitment ≡ x.value.digest) xs
  pub small : AllByRecursion (λ x. IsSmall x.value.encoded) xs

-- each block is small enough for a store
abbrev pub AreSmall : List Block → Type 0
AreSmall blocks = AllByRecursion (λ b. IsSmall b.encoded) blocks
