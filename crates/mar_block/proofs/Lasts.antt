-- The last block of a prefix.
use Rattle.std.proofs.Common.{List, [], arith, length, map, refl, suc, ◌-◌, ◌∷◌, ◌≡◌}
use Rattle.std.specs.Prelude.{option_map, slice_get}
use Rattle.mar_cert.specs.Block.{Block as PlainBlock}
use Rattle.mar_block.specs.Prefixes.{last}

pub last_linked : {B : Type 0} (plain : B → PlainBlock) (blocks : List B) → last (map plain blocks) ≡ option_map plain (slice_get blocks (length blocks - 1))
last_linked plain [] = refl
last_linked plain (x ∷ []) = refl
last_linked plain (x ∷ y ∷ ys) = let less : length (x ∷ y ∷ ys) - 1 ≡ suc (length (y ∷ ys) - 1) = omega arith in rw less (last_linked plain (y ∷ ys))
