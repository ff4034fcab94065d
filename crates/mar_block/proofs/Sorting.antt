-- A line of parents is the only order of its blocks in which the heights fall.
use Rattle.std.proofs.Common.{List, [], ap, arith, inl, inr, length, map, refl, subst, suc, sym, zero, ℕ, ◌++◌, ◌+◌, ◌<◌, ◌∙◌, ◌∷◌, ◌≡◌, ◌≤◌, ◌⊎◌}
use Rattle.std.specs.Prelude.{reverse, slice_index_or, ⊤}
use Rattle.std.specs.List.{Contains}
use Rattle.std.specs.List.Sorted.{IsNonDecreasingBy, IsPermutation}
use Rattle.std.proofs.lemmas.List.{map-append}
use Rattle.std.proofs.lemmas.List.Sorted.{Contains-permutation, IsPermutation-map, IsPermutation-reverse, IsPermutation-sym, IsPermutation-trans, length_permutation}
use mathlib.Core.List.{reverse-cons}
use Rattle.mar_cert.specs.Block.{Block}
use Rattle.mar_block.specs.Links.{AreLinked, IsDirectParent}

abbrev IsIn : Block → List Block → Type 0
IsIn x [] = ⊥
IsIn x (y ∷ ys) = (y ≡ x) ⊎ IsIn x ys

in_contains : (ys : List Block) (x : Block) → IsIn x ys → Contains ys x
in_contains [] x is = absurd is
in_contains (y ∷ ys) x (inl e) = (0, omega arith, e)
in_contains (y ∷ ys) x (inr is) = let h = in_contains ys x is in (suc h.0, omega (arith, h.1), h.2)

contains_in : (ys : List Block) (x : Block) (k : ℕ) → k < length ys → slice_index_or ys k x ≡ x → IsIn x ys
contains_in [] x k below at = absurd (omega (arith, below))
contains_in (y ∷ ys) x zero below at = inl at
contains_in (y ∷ ys) x (suc k) below at = inr (contains_in ys x k (omega (arith, below)) at)

-- the heights never rise
abbrev Falls : List Block → Type 0
Falls [] = ⊤
Falls (y ∷ ys) = ((z : Block) → IsIn z ys → z.height ≤ y.height) × Falls ys

-- they fall at each block
abbrev Drops : List Block → Type 0
Drops [] = ⊤
Drops (y ∷ ys) = ((z : Block) → IsIn z ys → z.height < y.height) × Drops ys

is_one_below : (child parent : Block) → IsDirectParent child parent → parent.height + 1 ≡ child.height
is_one_below child parent is = grind (arith, is)

linked_drops : (xs : List Block) → AreLinked xs → Drops xs
linked_drops [] linked = tt
linked_drops (x ∷ []) linked = ((λ z is. absurd is), tt)
linked_drops (x ∷ y ∷ rest) linked =
    let below = linked_drops (y ∷ rest) linked.1 in
    let one = is_one_below x y linked.0 in (
      λ z is. by_place z below.0 one is,
      below,
    )
  where
    by_place : (z : Block) → ((z : Block) → IsIn z rest → z.height < y.height) → y.height + 1 ≡ x.height → (y ≡ z) ⊎ IsIn z rest → z.height < x.height
    by_place z below one (inl e) = omega (arith, one, ap (λ b. b.height) e)
    by_place z below one (inr is) = omega (arith, one, below z is)

-- blocks that drop, all among as many or fewer that never rise, are those
same_order : (xs ys : List Block) → Drops xs → Falls ys → ((z : Block) → IsIn z xs → IsIn z ys) → length ys ≤ length xs → ys ≡ xs
same_order [] [] drops falls among short = refl
same_order [] (y ∷ ys) drops falls among short = absurd (omega (arith, short))
same_order (x ∷ xs) [] drops falls among short = absurd (among x (inl refl))
same_order (x ∷ xs) (y ∷ ys) drops falls among short =
    let rest = same_order xs ys drops.1 falls.1 rest_among (omega (arith, short)) in
    let head = heads (among x (inl refl)) rest in
    ap (λ h. h ∷ ys) head ∙ ap (λ t. x ∷ t) rest
  where
    high : (y ≡ x) ⊎ IsIn x ys → x.height ≤ y.height
    high (inl e) = omega (arith, ap (λ b. b.height) e)
    high (inr is) = falls.0 x is

    rest_of : (z : Block) → IsIn z xs → (y ≡ z) ⊎ IsIn z ys → IsIn z ys
    rest_of z is (inl e) = absurd (omega (arith, ap (λ b. b.height) e, drops.0 z is, high (among x (inl refl))))
    rest_of z is (inr is') = is'

    rest_among : (z : Block) → IsIn z xs → IsIn z ys
    rest_among z is = rest_of z is (among z (inr is))

    heads : (y ≡ x) ⊎ IsIn x ys → ys ≡ xs → y ≡ x
    heads (inl e) rest = e
    heads (inr is) rest = absurd (omega (arith, drops.0 x (subst (IsIn x) rest is)))

in_pushed : (zs : List Block) (y z : Block) → IsIn z (zs ++ y ∷ []) → IsIn z zs ⊎ (y ≡ z)
in_pushed [] y z (inl e) = inr e
in_pushed [] y z (inr is) = absurd is
in_pushed (x ∷ zs) y z (inl e) = inl (inl e)
in_pushed (x ∷ zs) y z (inr is) = again (in_pushed zs y z is)
  where
    again : IsIn z zs ⊎ (y ≡ z) → IsIn z (x ∷ zs) ⊎ (y ≡ z)
    again (inl is) = inl (inr is)
    again (inr e) = inr e

-- a list that never rises, with a block behind it that is no higher
falls_pushed : (zs : List Block) (y : Block) → Falls zs → ((z : Block) → IsIn z zs → y.height ≤ z.height) → Falls (zs ++ y ∷ [])
falls_pushed [] y falls low = ((λ z is. absurd is), tt)
falls_pushed (x ∷ zs) y falls low = (
  (λ z is. by_place z (in_pushed zs y z is)),
  falls_pushed zs y falls.1 (λ z is. low z (inr is)),
)
  where
    by_place : (z : Block) → IsIn z zs ⊎ (y ≡ z) → z.height ≤ x.height
    by_place z (inl is) = falls.0 z is
    by_place z (inr e) = omega (arith, ap (λ b. b.height) e, low x (inl refl))

carried : (xs ys : List Block) → IsPermutation xs ys → (z : Block) → IsIn z xs → IsIn z ys
carried xs ys shuffled z is = let h = Contains-permutation xs ys z shuffled (in_contains xs z is) in contains_in ys z h.0 h.1 h.2

module _ {B : Type 0} (plain : B → Block) where
  abbrev pub height_of : B → ℕ
  height_of b = (plain b).height

  backwards : (bs : List B) → IsPermutation (map plain bs) (map plain (reverse bs))
  backwards bs = IsPermutation-map plain bs (reverse bs) (IsPermutation-reverse bs)

  low_in : (rest : List B) (b : B) → ((k : ℕ) → k < length rest → height_of b ≤ height_of (slice_index_or rest k b)) → (z : Block) → IsIn z (map plain rest) → height_of b ≤ z.height
  low_in [] b low z is = absurd is
  low_in (r ∷ rest) b low z (inl e) = omega (arith, low 0 (omega arith), ap (λ b. b.height) e)
  low_in (r ∷ rest) b low z (inr is) = low_in rest b (λ k below. low (suc k) (omega (arith, below))) z is

  -- what rises falls read from its end
  falls_back : (bs : List B) → IsNonDecreasingBy height_of bs → Falls (map plain (reverse bs))
  falls_back [] rises = tt
  falls_back (b ∷ rest) rises =
      let falls = falls_back rest (λ i j d le below. rises (suc i) (suc j) d (omega (arith, le)) (omega (arith, below))) in
      let low = low_in rest b (λ k below. rises 0 (suc k) b (omega arith) (omega (arith, below))) in
      let pushed = falls_pushed (map plain (reverse rest)) (plain b) falls (λ z is. low z (carried _ _ (IsPermutation-sym _ _ (backwards rest)) z is)) in
      subst Falls (sym (ap (map plain) (reverse-cons b rest) ∙ map-append plain (reverse rest) (b ∷ []))) pushed

  -- what was sorted and turned round is the line of the same blocks, where there is one
  pub only_line : (bs sorted : List B) → IsPermutation bs sorted → IsNonDecreasingBy height_of sorted → (line : List Block)
      → IsPermutation (map plain bs) line → AreLinked line → map plain (reverse sorted) ≡ line
  only_line bs sorted shuffled rises line of_these linked =
      same_order line (map plain (reverse sorted)) (linked_drops line linked) (falls_back sorted rises) (carried _ _ to_sorted) (omega (arith, length_permutation _ _ to_sorted))
    where
      to_sorted : IsPermutation line (map plain (reverse sorted))
      to_sorted = IsPermutation-trans _ _ _ (IsPermutation-sym _ _ of_these) (IsPermutation-trans _ _ _ (IsPermutation-map plain bs sorted shuffled) (backwards sorted))

  pub line_permutation : (bs sorted : List B) → IsPermutation bs sorted → IsPermutation (map plain bs) (map plain (reverse sorted))
  line_permutation bs sorted shuffled = IsPermutation-trans _ _ _ (IsPermutation-map plain bs sorted shuffled) (backwards sorted)
