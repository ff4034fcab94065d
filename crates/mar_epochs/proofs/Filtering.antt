-- Filtered lists, as entries of a list that pass.
use Rattle.std.proofs.Common.{◌≡◌, ◌⊎◌, inl, inr, ◌||◌, zero, suc, List, [], ◌∷◌, Bool, true, false, Contains, cond, refl, ap, sym, ◌∙◌, filter, map, arith}
use Rattle.std.specs.List.{list_any}
use Rattle.mar_store.specs.Changes.{Within}

pub contains_here : {A : Type 0} (x : A) (xs : List A) → Contains (x ∷ xs) x
contains_here x xs = (zero, omega arith, refl)

pub contains_more : {A : Type 0} (x : A) (xs : List A) (y : A) → Contains xs y → Contains (x ∷ xs) y
contains_more x xs y (k, lt, is) = (suc k, omega arith, is)

pub contains_none : {A : Type 0} {P : Type 0} (y : A) → Contains [] y → P
contains_none y (k, lt, is) = absurd (omega arith)

-- what passes the first test passes the second
pub filter_more : {A B : Type 0} (f : A → B) (p q : A → Bool) (more : (x : A) → p x ≡ true → q x ≡ true) (xs : List A) → Within (map f (filter p xs)) (map f (filter q xs))
filter_more f p q more [] y has = has
filter_more {A} {B} f p q more (x ∷ xs) y has = by (p x) (q x) (more x) (filter_more f p q more xs y) has
  where
    by : (b c : Bool) → (b ≡ true → c ≡ true) → (Contains (map f (filter p xs)) y → Contains (map f (filter q xs)) y) → Contains (map f (cond b (x ∷ filter p xs) (filter p xs))) y → Contains (map f (cond c (x ∷ filter q xs) (filter q xs))) y
    by true true go rest (zero, lt, is) = (zero, omega arith, is)
    by true true go rest (suc k, lt, is) = contains_more (f x) (map f (filter q xs)) y (rest (k, omega arith, is))
    by true false go rest has' = absurd (let e : false ≡ true = go refl in cc)
    by false true go rest has' = contains_more (f x) (map f (filter q xs)) y (rest has')
    by false false go rest has' = rest has'

pub or_left : (a b : Bool) → a ≡ true → (a || b) ≡ true
or_left true b is = refl
or_left false b is = absurd cc

pub or_right : (a b : Bool) → b ≡ true → (a || b) ≡ true
or_right true b is = refl
or_right false b is = is

-- what passes one of two tests passes the first or the second
pub filter_either : {A B : Type 0} (f : A → B) (p q : A → Bool) (xs : List A) (y : B) → Contains (map f (filter (λ x. p x || q x) xs)) y → Contains (map f (filter p xs)) y ⊎ Contains (map f (filter q xs)) y
filter_either f p q [] y has = inl has
filter_either {A} {B} f p q (x ∷ xs) y has = by (p x) (q x) (filter_either f p q xs y) has
  where
    wider : (b c : Bool) → Contains (map f (filter p xs)) y ⊎ Contains (map f (filter q xs)) y → Contains (map f (cond b (x ∷ filter p xs) (filter p xs))) y ⊎ Contains (map f (cond c (x ∷ filter q xs) (filter q xs))) y
    wider true c (inl has') = inl (contains_more (f x) _ y has')
    wider false c (inl has') = inl has'
    wider b true (inr has') = inr (contains_more (f x) _ y has')
    wider b false (inr has') = inr has'

    by : (b c : Bool) → (Contains (map f (filter (λ x. p x || q x) xs)) y → Contains (map f (filter p xs)) y ⊎ Contains (map f (filter q xs)) y) → Contains (map f (cond (b || c) (x ∷ filter (λ x. p x || q x) xs) (filter (λ x. p x || q x) xs))) y → Contains (map f (cond b (x ∷ filter p xs) (filter p xs))) y ⊎ Contains (map f (cond c (x ∷ filter q xs) (filter q xs))) y
    by true c rest (zero, lt, is) = inl (zero, omega arith, is)
    by true c rest (suc k, lt, is) = wider true c (rest (k, omega arith, is))
    by false true rest (zero, lt, is) = inr (zero, omega arith, is)
    by false true rest (suc k, lt, is) = wider false true (rest (k, omega arith, is))
    by false false rest has' = wider false false (rest has')

-- tests that agree pass the same
pub filter_agree : {A : Type 0} (p q : A → Bool) (same : (x : A) → p x ≡ q x) (xs : List A) → filter p xs ≡ filter q xs
filter_agree p q same [] = refl
filter_agree {A} p q same (x ∷ xs) = ap (λ b. cond b (x ∷ filter p xs) (filter p xs)) (same x) ∙ ap (λ ys. cond (q x) (x ∷ ys) ys) (filter_agree p q same xs)

pub filter_all : {A : Type 0} (xs : List A) → filter (λ x. true) xs ≡ xs
filter_all [] = refl
filter_all (x ∷ xs) = ap (λ ys. x ∷ ys) (filter_all xs)

-- of what is filtered twice, the order of the tests doesn't matter
pub filter_twice : {A : Type 0} (p q : A → Bool) (xs : List A) → filter p (filter q xs) ≡ filter q (filter p xs)
filter_twice p q [] = refl
filter_twice {A} p q (x ∷ xs) = by (p x) refl (q x) refl (filter_twice p q xs)
  where
    by : (b : Bool) → p x ≡ b → (c : Bool) → q x ≡ c → filter p (filter q xs) ≡ filter q (filter p xs) → filter p (cond c (x ∷ filter q xs) (filter q xs)) ≡ filter q (cond b (x ∷ filter p xs) (filter p xs))
    by true pb true qc rest = rw (pb, qc) (ap (λ ys. x ∷ ys) rest)
    by true pb false qc rest = rw (qc) rest
    by false pb true qc rest = rw (pb) rest
    by false pb false qc rest = rest

-- what was found behind a test passes it
pub filter_passes : {A B : Type 0} (f : A → B) (test : B → Bool) (xs : List A) (y : B) → Contains (map f (filter (λ x. test (f x)) xs)) y → test y ≡ true
filter_passes f test [] y has = contains_none y has
filter_passes {A} {B} f test (x ∷ xs) y has = by (test (f x)) refl (filter_passes f test xs y) has
  where
    by : (b : Bool) → test (f x) ≡ b → (Contains (map f (filter (λ x. test (f x)) xs)) y → test y ≡ true) → Contains (map f (cond b (x ∷ filter (λ x. test (f x)) xs) (filter (λ x. test (f x)) xs))) y → test y ≡ true
    by true is rest (zero, lt, e) = ap test (sym e) ∙ is
    by true is rest (suc k, lt, e) = rest (k, omega arith, e)
    by false is rest has' = rest has'

-- what passes both tests, of which the second is one of the value
pub filter_both : {A B : Type 0} (f : A → B) (q : A → Bool) (test : B → Bool) (xs : List A) (y : B) → Contains (map f (filter q xs)) y → test y ≡ true → Contains (map f (filter q (filter (λ x. test (f x)) xs))) y
filter_both f q test [] y has passes = has
filter_both {A} {B} f q test (x ∷ xs) y has passes = by (test (f x)) refl (q x) refl (λ has'. filter_both f q test xs y has' passes) has
  where
    by : (b : Bool) → test (f x) ≡ b → (c : Bool) → q x ≡ c → (Contains (map f (filter q xs)) y → Contains (map f (filter q (filter (λ x. test (f x)) xs))) y) → Contains (map f (cond c (x ∷ filter q xs) (filter q xs))) y → Contains (map f (filter q (cond b (x ∷ filter (λ x. test (f x)) xs) (filter (λ x. test (f x)) xs)))) y
    by true is true qc rest (zero, lt, e) = rw qc (zero, omega arith, e)
    by true is true qc rest (suc k, lt, e) = rw qc (contains_more (f x) _ y (rest (k, omega arith, e)))
    by true is false qc rest has' = rw qc (rest has')
    by false is true qc rest (zero, lt, e) = absurd (let no_pass : false ≡ true = sym is ∙ ap test e ∙ passes in cc)
    by false is true qc rest (suc k, lt, e) = rest (k, omega arith, e)
    by false is false qc rest has' = rest has'

pub or_false_left : (a b : Bool) → (a || b) ≡ false → a ≡ false
or_false_left true b is = absurd cc
or_false_left false b is = refl

pub or_false_right : (a b : Bool) → (a || b) ≡ false → b ≡ false
or_false_right true b is = absurd cc
or_false_right false b is = is

-- a list that is filtered has no more
pub none_of_filter : {A B : Type 0} (f : A → B) (p : A → Bool) (test : B → Bool) (xs : List A) → list_any test (map f xs) ≡ false → list_any test (map f (filter p xs)) ≡ false
none_of_filter f p test [] none = refl
none_of_filter {A} {B} f p test (x ∷ xs) none = by (p x) (none_of_filter f p test xs (or_false_right (test (f x)) (list_any test (map f xs)) none))
  where
    by : (b : Bool) → list_any test (map f (filter p xs)) ≡ false → list_any test (map f (cond b (x ∷ filter p xs) (filter p xs))) ≡ false
    by true rest = ap (λ d. d || list_any test (map f (filter p xs))) (or_false_left (test (f x)) (list_any test (map f xs)) none) ∙ rest
    by false rest = rest
