-- The first block that isn't the parent of the one before it.
use Rattle.std.proofs.Common.{◌≡◌, ℕ, ◌+◌, ◌-◌, ◌<◌, List, Option, Some, slice_get, [], ◌∷◌, ap, drop, get_or, inl, inr, length, map, refl, suc, zero, ◌∙◌, arith}
use Rattle.mar_cert.specs.Block.{Block}
use Rattle.mar_follower.specs.Segments.{AreParents, FailsAt, IsParent, lowest_from}

-- the list from a place on begins with what stands there
drop_at : {T : Type 0} (xs : List T) (i : ℕ) (d : T) → i < length xs → drop i xs ≡ get_or xs i d ∷ drop (i + 1) xs
drop_at [] i d within = absurd (omega (arith, within))
drop_at (x ∷ xs) zero d within = refl
drop_at (x ∷ xs) (suc i) d within = drop_at xs i d (omega (arith, within)) ∙ ap (λ k. get_or xs i d ∷ drop k (x ∷ xs)) (let same : suc (i + 1) ≡ suc i + 1 = omega arith in same)

-- what is told of the blocks from a place on is told of all
pub record Tells (top before : Block) (place : ℕ) (all others : List Block) : Type 0 where
  pub tells : (i : ℕ) → FailsAt place before others i → FailsAt 0 top all i
  pub parents : AreParents before others → AreParents top all

pub tells_next : (top before b : Block) (place : ℕ) (all others : List Block) → Tells top before place all (b ∷ others) → IsParent before b → Tells top b (place + 1) all others
tells_next top before b place all others so_far is = record { tells = λ i fails. so_far.tells i (inr (is, fails)); parents = λ parents. so_far.parents (is, parents) }

pub tells_here : (top before b : Block) (place : ℕ) (all others : List Block) → Tells top before place all (b ∷ others) → (IsParent before b → ⊥) → FailsAt 0 top all (place + 1)
tells_here top before b place all others so_far other = so_far.tells (place + 1) (inl (refl, other))

pub all_parents : (top before : Block) (place : ℕ) (all : List Block) → Tells top before place all [] → AreParents top all
all_parents top before place all so_far = so_far.parents tt

-- over the blocks of the code
pub plain_at : {T : Type 0} (plain : T → Block) (xs : List T) (i : ℕ) (x : T) → i < length xs → get_or xs i x ≡ x → map plain (drop i xs) ≡ plain x ∷ map plain (drop (i + 1) xs)
plain_at plain xs i x within is = ap (map plain) (drop_at xs i x within ∙ ap (λ y. y ∷ drop (i + 1) xs) is)

-- the lowest height is that of the last block
pub last_lowest : {T : Type 0} (plain : T → Block) (top : Block) (xs : List T) (x : T) → Some x ≡ slice_get xs (length xs - 1) → (plain x).height ≡ lowest_from top (map plain xs)
last_lowest plain top [] x is = absurd cc
last_lowest plain top (y ∷ []) x is = ap (λ z. (plain z).height) (inside x y is)
  where
    inside : {T : Type 0} (a b : T) → ◌≡◌ {A = Option T} (Some a) (Some b) → a ≡ b
    inside a b p = cc
last_lowest plain top (y ∷ z ∷ xs) x is = last_lowest plain (plain y) (z ∷ xs) x
    (is ∙ ap (slice_get (y ∷ z ∷ xs)) (let same : length (y ∷ z ∷ xs) - 1 ≡ suc (length (z ∷ xs) - 1) = omega arith in same))
