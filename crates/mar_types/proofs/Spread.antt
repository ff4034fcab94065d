-- The numbers from one up to another, taken from either side.
use Rattle.std.proofs.Common.{◌≡◌, ℕ, zero, suc, ◌+◌, ◌-◌, ◌<◌, List, [], ◌∷◌, ◌++◌, length, refl, ap, arith, length-append}
use Rattle.std.specs.List.{range_with_len}

-- the first number, and those after it
pub first_of : (a b : ℕ) → a < b → range_with_len a (b - a) ≡ a ∷ range_with_len (a + 1) (b - (a + 1))
first_of a b below = let n : b - a ≡ suc (b - (a + 1)) = omega arith in rw n refl

-- one number more, at the end
one_more : (a n : ℕ) → range_with_len a (suc n) ≡ range_with_len a n ++ (a + n) ∷ []
one_more a zero = let n : a + zero ≡ a = omega arith in rw n refl
one_more a (suc n) = let k : a + suc n ≡ (a + 1) + n = omega arith in rw k (ap (λ xs. a ∷ xs) (one_more (a + 1) n))

-- the last number, and those before it
pub last_of : (a b : ℕ) → a < b → range_with_len a (b - a) ≡ range_with_len a (b - 1 - a) ++ (b - 1) ∷ []
last_of a b below =
    let n : b - a ≡ suc (b - 1 - a) = omega arith in
    let k : a + (b - 1 - a) ≡ b - 1 = omega arith in
    rw n (rw k at (one_more a (b - 1 - a)))

-- a list with one item before it is longer
pub longer_first : (x : ℕ) (xs ys : List ℕ) → ys ≡ x ∷ xs → length xs < length ys
longer_first x xs ys e = rw e (omega arith)

-- and with one item after it
pub longer_last : (x : ℕ) (xs ys : List ℕ) → ys ≡ xs ++ x ∷ [] → length xs < length ys
longer_last x xs ys e = rw e (rw (length-append xs (x ∷ [])) (omega arith))
