-- The entry of the greatest height at or below a bound: what it is, and what appending does to it.
use Rattle.std.proofs.Common.{◌≡◌, ◌≤◌, ℕ, zero, suc, List, [], ◌∷◌, Bool, true, false, Option, Some, None, Contains, if◌then◌else◌, nat_le, refl, subst, arith, leb-true}
use Rattle.std.specs.List.{AllByRecursion}
use Rattle.mar_store.specs.Kept.{At, higher_of, newest_upto}
use Rattle.mar_store.proofs.Lookups.{AllByRecursion-contains}

-- what is found is an entry at or below the bound
abbrev pub IsUpto : {T : Type 0} → List (At T) → ℕ → At T → Type 0
IsUpto xs h x = Contains xs x × (x.height ≤ h)

later_upto : {T : Type 0} (xs : List (At T)) (h : ℕ) (y x : At T) → IsUpto xs h x → IsUpto (y ∷ xs) h x
later_upto xs h y x (has, low) = ((suc has.0, omega arith, has.2), low)

pub newest_upto-is : {T : Type 0} (xs : List (At T)) (h : ℕ) (x : At T) → newest_upto xs h ≡ Some x → IsUpto xs h x
newest_upto-is [] h x e = absurd cc
newest_upto-is {T = T} (y ∷ ys) h x e = by (nat_le y.height h) refl e (newest_upto-is ys h x)
  where
    same : (z w : At T) → ◌≡◌ {A = Option (At T)} (Some z) (Some w) → z ≡ w
    same z w p = cc

    first : nat_le y.height h ≡ true → ◌≡◌ {A = Option (At T)} (Some y) (Some x) → IsUpto (y ∷ ys) h x
    first low p = subst (IsUpto (y ∷ ys) h) (same y x p) ((zero, omega arith, refl), leb-true y.height h low)

    higher : nat_le y.height h ≡ true → (o : Option (At T)) → (o ≡ Some x → IsUpto ys h x) → higher_of y o ≡ Some x → IsUpto (y ∷ ys) h x
    higher low None others p = first low p
    higher low (Some z) others p = of (nat_le y.height z.height) p
      where
        of : (b : Bool) → (if b then Some z else Some y) ≡ Some x → IsUpto (y ∷ ys) h x
        of true q = later_upto ys h y x (others q)
        of false q = first low q

    by : (b : Bool) → nat_le y.height h ≡ b → (if b then higher_of y (newest_upto ys h) else newest_upto ys h) ≡ Some x → (newest_upto ys h ≡ Some x → IsUpto ys h x) → IsUpto (y ∷ ys) h x
    by true low p others = higher low (newest_upto ys h) others p
    by false above p others = later_upto ys h y x (others p)

-- what holds of each entry holds of the newest
pub AllByRecursion-newest_upto : {T : Type 0} (P : At T → Type 0) (xs : List (At T)) (h : ℕ) (x : At T) → AllByRecursion P xs → newest_upto xs h ≡ Some x → P x
AllByRecursion-newest_upto P xs h x all e = AllByRecursion-contains P xs x all (newest_upto-is xs h x e).0
