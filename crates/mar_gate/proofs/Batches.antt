-- The least of the heights that the gate tracks, and the batches that a release keeps.
use native.Mathlib.Decide.{dec_le}
use Rattle.std.proofs.Common.{Bool, List, None, Option, Some, [], ap, append_assoc, arith, cond, false, get_or, length, map, min, option_to_list, refl, take, true, ℕ, ◌++◌, ◌+◌, ◌<◌, ◌∷◌, ◌≡◌, ◌≤◌}
use Rattle.std.proofs.lemmas.Bool.Decides.{nat_tests}
use Rattle.std.proofs.lemmas.List.{map_more, take_all}
use Rattle.std.proofs.lemmas.List.Elements.{Contains-append_left, Contains-append_right}
use Rattle.std.specs.List.{AllByRecursion, Contains}
use Rattle.std.specs.Prelude.{filter, nat_le}
use Rattle.mar_gate.specs.Gate.{Batch, IsLeastOf, lower_of}

weaker : (h k : ℕ) (xs : List ℕ) → k ≤ h → AllByRecursion (λ x. h ≤ x) xs → AllByRecursion (λ x. k ≤ x) xs
weaker h k [] below all = tt
weaker h k (x ∷ xs) below all = (omega (arith, all.0), weaker h k xs below all.1)

with_last : (P : ℕ → Type 0) (xs : List ℕ) (x : ℕ) → AllByRecursion P xs → P x → AllByRecursion P (xs ++ x ∷ [])
with_last P [] x all here = (here, tt)
with_last P (y ∷ xs) x all here = (all.0, with_last P xs x all.1 here)

-- the least so far, with one more number
pub least_more : (xs : List ℕ) (least : Option ℕ) (x : ℕ) → IsLeastOf xs least → IsLeastOf (xs ++ x ∷ []) (Some (lower_of x least))
least_more xs None x none = rw none ((0, omega arith, refl), (omega arith, tt))
least_more xs (Some h) x least = (contained, with_last (λ k. min x h ≤ k) xs x (weaker h (min x h) xs (omega arith) least.1) (omega arith))
  where
    contained : Contains (xs ++ x ∷ []) (min x h)
    contained = elim (dec_le x h) [
      | yes below ↦ let is : min x h ≡ x = omega arith in rw is (Contains-append_right xs (x ∷ []) x (0, omega arith, refl))
      | no above ↦ let is : min x h ≡ h = omega arith in rw is (Contains-append_left xs (x ∷ []) h least.0)
    ]

pub least_first : (o : Option ℕ) → IsLeastOf (option_to_list o ++ []) o
least_first None = refl
least_first (Some h) = ((0, omega arith, refl), (omega arith, tt))

-- a step of a loop over the batches
pub least_step : {A : Type 0} (f : A → ℕ) (front : List ℕ) (xs : List A) (i : ℕ) (d : A) (least : Option ℕ) (new : ℕ) → i < length xs → d ≡ get_or xs i d → IsLeastOf (front ++ map f (take i xs)) least → new ≡ lower_of (f d) least → IsLeastOf (front ++ map f (take (i + 1) xs)) (Some new)
least_step f front xs i d least new below here so_far is =
    rw (map_more f xs i d below, ← here, ← append_assoc, is) (least_more (front ++ map f (take i xs)) least (f d) so_far)

map_twice : {A B : Type 0} (g : B → ℕ) (f : A → B) (xs : List A) → map g (map f xs) ≡ map (λ x. g (f x)) xs
map_twice g f [] = refl
map_twice g f (x ∷ xs) = ap (λ ys. g (f x) ∷ ys) (map_twice g f xs)

pub least_all : {A B : Type 0} (g : B → ℕ) (f : A → B) (front : List ℕ) (xs ys : List A) (i : ℕ) (least : Option ℕ) → length xs ≤ i → xs ≡ ys → IsLeastOf (front ++ map (λ x. g (f x)) (take i xs)) least → IsLeastOf (front ++ map g (map f ys)) least
least_all g f front xs ys i least over same all =
    let whole = rw (take_all i xs over) at all in
    rw (map_twice g f ys, ← same) whole

-- no batch has a number below 0
pub all_from_zero : (n : ℕ) (bs : List Batch) → (1 ≤ n → ⊥) → bs ≡ filter (λ b. nat_le n b.number) bs
all_from_zero n [] none = refl
all_from_zero n (b ∷ bs) none =
    let here : nat_le n b.number ≡ true = grind (arith, nat_tests, none) in
    rw here (ap (λ ds. b ∷ ds) (all_from_zero n bs none))

pub filter-map : {A B : Type 0} (p : B → Bool) (f : A → B) (xs : List A) → filter p (map f xs) ≡ map f (filter (λ x. p (f x)) xs)
filter-map p f [] = refl
filter-map p f (x ∷ xs) = by_test (p (f x)) (filter-map p f xs)
  where
    by_test : (b : Bool) → filter p (map f xs) ≡ map f (filter (λ y. p (f y)) xs) → cond b (f x ∷ filter p (map f xs)) (filter p (map f xs)) ≡ map f (cond b (x ∷ filter (λ y. p (f y)) xs) (filter (λ y. p (f y)) xs))
    by_test true same = ap (λ ys. f x ∷ ys) same
    by_test false same = same
