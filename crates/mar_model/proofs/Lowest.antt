-- The lowest of ascending heights: those of which fewer than so many others stand below.
use Rattle.std.specs.Prelude.{⊤}
use Rattle.std.proofs.Common.{◌≡◌, ◌⊎◌, inl, inr, ⊎_elim, ◌∷◌, [], List, ◌++◌, length, take, AllPairs, Contains, Bool, true, false, if◌then◌else◌, ◌==◌, ◌≢◌, ℕ, zero, suc, ◌+◌, ◌<◌, ◌≤◌, arith, refl, sym, ◌∙◌, ap, subst}
use Rattle.std.proofs.lemmas.Bool.Decides.{nat_tests}
use Rattle.std.proofs.lemmas.List.Elements.{Contains-append_cases}
use Rattle.mar_store.specs.Gaps.{AscendAbove}

-- LISTS OF WHICH NO TWO ARE THE SAME

abbrev pub Apart : List ℕ → Type 0
Apart [] = ⊤
Apart (x ∷ xs) = ((y : ℕ) → Contains xs y → x ≢ y) × Apart xs

contains-later : (x y : ℕ) (xs : List ℕ) → Contains xs y → Contains (x ∷ xs) y
contains-later x y xs (k, low, is) = (suc k, omega arith, is)

contains-here : (x : ℕ) (xs : List ℕ) → Contains (x ∷ xs) x
contains-here x xs = (zero, omega arith, refl)

contains-rest : (x y : ℕ) (xs : List ℕ) → Contains (x ∷ xs) y → (x ≡ y) ⊎ Contains xs y
contains-rest x y xs (zero, low, is) = inl is
contains-rest x y xs (suc k, low, is) = inr (k, omega arith, is)

contains-none : (x : ℕ) → Contains [] x → ⊥
contains-none x (k, low, is) = omega arith

pub Apart-pairs : (xs : List ℕ) → AllPairs (λ j k. j ≢ k) xs → Apart xs
Apart-pairs [] pairs = tt
Apart-pairs (x ∷ xs) pairs = ((λ y (k, low, is). subst (λ z. x ≢ z) is (pairs zero (suc k) y (omega arith) (omega arith))), Apart-pairs xs (λ i j d before within. pairs (suc i) (suc j) d (omega arith) (omega arith)))

-- a list without the first such
abbrev without_one : ℕ → List ℕ → List ℕ
without_one x [] = []
without_one x (y ∷ ys) = if y == x then ys else y ∷ without_one x ys

same_of : (x y : ℕ) → (y == x) ≡ true → y ≡ x
same_of x y is = grind arith

without-length : (x : ℕ) (ys : List ℕ) → Contains ys x → length ys ≡ suc (length (without_one x ys))
without-length x [] has = absurd (contains-none x has)
without-length x (y ∷ ys) has = by (y == x) refl (λ there. without-length x ys there)
  where
    by : (c : Bool) → (y == x) ≡ c → (Contains ys x → length ys ≡ suc (length (without_one x ys))) → length (y ∷ ys) ≡ suc (length (if c then ys else y ∷ without_one x ys))
    by true is rest = refl
    by false is rest = ap (λ k. suc k) (rest (⊎_elim (λ same. absurd (grind (arith, nat_tests))) (λ there. there) (contains-rest y x ys has)))

without-contains : (x z : ℕ) (ys : List ℕ) → Contains ys z → x ≢ z → Contains (without_one x ys) z
without-contains x z [] has other = absurd (contains-none z has)
without-contains x z (y ∷ ys) has other = by (y == x) refl (contains-rest y z ys has) (λ there. without-contains x z ys there other)
  where
    by : (c : Bool) → (y == x) ≡ c → (y ≡ z) ⊎ Contains ys z → (Contains ys z → Contains (without_one x ys) z) → Contains (if c then ys else y ∷ without_one x ys) z
    by true is (inl same) rest = absurd (other (sym (same_of x y is) ∙ same))
    by true is (inr there) rest = there
    by false is (inl same) rest = subst (Contains (y ∷ without_one x ys)) same (contains-here y (without_one x ys))
    by false is (inr there) rest = contains-later y z (without_one x ys) (rest there)

-- such a list is no longer than one that has all of it
pub Apart-length : (xs ys : List ℕ) → Apart xs → ((x : ℕ) → Contains xs x → Contains ys x) → length xs ≤ length ys
Apart-length [] ys apart within = omega arith
Apart-length (x ∷ xs) ys apart within =
    let one : length ys ≡ suc (length (without_one x ys)) = without-length x ys (within x (contains-here x xs)) in
    let less : length xs ≤ length (without_one x ys) = Apart-length xs (without_one x ys) apart.1 (λ z has. without-contains x z ys (within z (contains-later x z xs has)) (apart.0 z has)) in
    omega arith

-- ASCENDING LISTS

ascend-low : (low : ℕ) (xs : List ℕ) (y : ℕ) → AscendAbove low xs → Contains xs y → low ≤ y
ascend-low low [] y up has = absurd (contains-none y has)
ascend-low low (x ∷ xs) y up has = by (contains-rest x y xs has) (λ there. ascend-low (x + 1) xs y up.1 there)
  where
    by : (x ≡ y) ⊎ Contains xs y → (Contains xs y → x + 1 ≤ y) → low ≤ y
    by (inl same) rest = let a : low ≤ x = up.0 in omega arith
    by (inr there) rest = let a : low ≤ x = up.0 in let b : x + 1 ≤ y = rest there in omega arith

ascend-front : (low : ℕ) (front back : List ℕ) (x : ℕ) → AscendAbove low (front ++ x ∷ back) → Apart front × ((y : ℕ) → Contains front y → y < x)
ascend-front low [] back x up = (tt, (λ y has. absurd (contains-none y has)))
ascend-front low (z ∷ front) back x up =
    let (apart, below) = ascend-front (z + 1) front back x up.1 in
    (((λ y has same. let a : z + 1 ≤ y = ascend-low (z + 1) (front ++ x ∷ back) y up.1 (in_front y has) in absurd (omega (arith, same))), apart), (λ y has. ⊎_elim (λ same. let a : z + 1 ≤ x = ascend-low (z + 1) (front ++ x ∷ back) x up.1 there in omega (arith, same)) (λ rest. below y rest) (contains-rest z y front has)))
  where
    in_front : (y : ℕ) → Contains front y → Contains (front ++ x ∷ back) y
    in_front y has = appended front y has
      where
        appended : (xs : List ℕ) (y : ℕ) → Contains xs y → Contains (xs ++ x ∷ back) y
        appended [] y none = absurd (contains-none y none)
        appended (w ∷ xs) y some = ⊎_elim (λ same. subst (Contains (w ∷ xs ++ x ∷ back)) same (contains-here w (xs ++ x ∷ back))) (λ rest. contains-later w y (xs ++ x ∷ back) (appended xs y rest)) (contains-rest w y xs some)

    there : Contains (front ++ x ∷ back) x
    there = behind front
      where
        behind : (xs : List ℕ) → Contains (xs ++ x ∷ back) x
        behind [] = contains-here x back
        behind (w ∷ xs) = contains-later w x (xs ++ x ∷ back) (behind xs)

ascend-back : (low : ℕ) (front back : List ℕ) (x y : ℕ) → AscendAbove low (front ++ x ∷ back) → Contains back y → x < y
ascend-back low [] back x y up has = let a : x + 1 ≤ y = ascend-low (x + 1) back y up.1 has in omega arith
ascend-back low (z ∷ front) back x y up has = ascend-back (z + 1) front back x y up.1 has

-- what stands before an element
pub record Split (xs : List ℕ) (x : ℕ) : Type 0 where
  pub front : List ℕ
  pub back : List ℕ
  pub is : xs ≡ front ++ x ∷ back

split : (xs : List ℕ) (x : ℕ) → Contains xs x → Split xs x
split [] x has = absurd (contains-none x has)
split (y ∷ xs) x has = by (contains-rest y x xs has) (λ there. split xs x there)
  where
    by : (y ≡ x) ⊎ Contains xs x → (Contains xs x → Split xs x) → Split (y ∷ xs) x
    by (inl same) rest = record { front = []; back = xs; is = ap (λ z. z ∷ xs) same }
    by (inr there) rest = let s = rest there in record { front = y ∷ s.front; back = s.back; is = ap (λ zs. y ∷ zs) s.is }

take-has : (m : ℕ) (front back : List ℕ) (x : ℕ) → length front < m → Contains (take m (front ++ x ∷ back)) x
take-has zero front back x few = absurd (omega arith)
take-has (suc m) [] back x few = contains-here x (take m back)
take-has (suc m) (y ∷ front) back x few = contains-later y x (take m (front ++ x ∷ back)) (take-has m front back x (omega arith))

take-split : (m : ℕ) (xs : List ℕ) (x : ℕ) → Contains (take m xs) x → (s : Split xs x) × (length s.front < m)
take-split zero xs x has = absurd (none xs has)
  where
    none : (ys : List ℕ) → Contains (take 0 ys) x → ⊥
    none [] there = contains-none x there
    none (y ∷ ys) there = contains-none x there
take-split (suc m) [] x has = absurd (contains-none x has)
take-split (suc m) (y ∷ xs) x has = by (contains-rest y x (take m xs) has) (λ there. take-split m xs x there)
  where
    by : (y ≡ x) ⊎ Contains (take m xs) x → (Contains (take m xs) x → (s : Split xs x) × (length s.front < m)) → (s : Split (y ∷ xs) x) × (length s.front < suc m)
    by (inl same) rest = (record { front = []; back = xs; is = ap (λ z. z ∷ xs) same }, omega arith)
    by (inr there) rest = let (s, few) = rest there in (record { front = y ∷ s.front; back = s.back; is = ap (λ zs. y ∷ zs) s.is }, omega arith)

-- THE LOWEST

-- where all those below one are among fewer than so many, it is one of the lowest so many
pub lowest-all : (low m h : ℕ) (xs below : List ℕ) → AscendAbove low xs → Contains xs h → ((k : ℕ) → Contains xs k → k < h → Contains below k) → length below < m → Contains (take m xs) h
lowest-all low m h xs below up has all few =
    let s = split xs h has in
    let (apart, lower) = ascend-front low s.front s.back h (subst (AscendAbove low) s.is up) in
    let short : length s.front ≤ length below = Apart-length s.front below apart (λ k there. all k (subst (λ zs. Contains zs k) (sym s.is) (in_front s.front s.back k there)) (lower k there)) in
    subst (λ zs. Contains (take m zs) h) (sym s.is) (take-has m s.front s.back h (omega arith))
  where
    in_front : (front back : List ℕ) (k : ℕ) → Contains front k → Contains (front ++ h ∷ back) k
    in_front [] back k none = absurd (contains-none k none)
    in_front (w ∷ front) back k some = ⊎_elim (λ same. subst (Contains (w ∷ front ++ h ∷ back)) same (contains-here w (front ++ h ∷ back))) (λ rest. contains-later w k (front ++ h ∷ back) (in_front front back k rest)) (contains-rest w k front some)

-- and below each of the lowest so many there are fewer
pub lowest-only : (low m h : ℕ) (xs below : List ℕ) → AscendAbove low xs → Contains (take m xs) h → Apart below → ((k : ℕ) → Contains below k → Contains xs k × (k < h)) → length below < m
lowest-only low m h xs below up has apart each =
    let (s, few) = take-split m xs h has in
    let short : length below ≤ length s.front = Apart-length below s.front apart (λ k there. before s k (each k there)) in
    omega arith
  where
    before : (s : Split xs h) (k : ℕ) → Contains xs k × (k < h) → Contains s.front k
    before s k (there, lower) = ⊎_elim (λ first. first) (λ others. by (contains-rest h k s.back others)) (Contains-append_cases s.front (h ∷ s.back) k (subst (λ zs. Contains zs k) s.is there))
      where
        by : (h ≡ k) ⊎ Contains s.back k → Contains s.front k
        by (inl same) = absurd (omega arith)
        by (inr behind) = let a : h < k = ascend-back low s.front s.back h k (subst (AscendAbove low) s.is up) behind in absurd (omega arith)
