-- Lists that a loop rewrites from the front on, and lists that are mapped and filtered.
use Rattle.std.proofs.Common.{Bool, List, [], add-one, ap, arith, cond, filter, get_or, length, map, refl, set, suc, sym, zero, ℕ, ◌+◌, ◌<◌, ◌||◌, ◌∙◌, ◌∷◌, ◌≡◌, ◌≤◌, false, true}
use Rattle.std.proofs.Math.ListN.{get_or-map}
use Rattle.std.proofs.lemmas.List.{length-map, map-set}
use Rattle.std.specs.List.{list_any}

-- the function at the first so many elements
abbrev pub mapped_front : {A : Type 0} → (A → A) → ℕ → List A → List A
mapped_front g zero xs = xs
mapped_front g (suc i) [] = []
mapped_front g (suc i) (x ∷ xs) = g x ∷ mapped_front g i xs

pub mapped_front-next : {A : Type 0} (g : A → A) (i : ℕ) (xs : List A) (d : A) → i < length xs → set (mapped_front g i xs) i (g (get_or xs i d)) ≡ mapped_front g (suc i) xs
mapped_front-next g i [] d h = absurd (omega arith)
mapped_front-next g zero (x ∷ xs) d h = refl
mapped_front-next g (suc i) (x ∷ xs) d h = ap (λ ys. g x ∷ ys) (mapped_front-next g i xs d (omega arith))

pub mapped_front-at : {A : Type 0} (g : A → A) (i : ℕ) (xs : List A) (d : A) → get_or (mapped_front g i xs) i d ≡ get_or xs i d
mapped_front-at g zero xs d = refl
mapped_front-at g (suc i) [] d = refl
mapped_front-at g (suc i) (x ∷ xs) d = mapped_front-at g i xs d

pub mapped_front-all : {A : Type 0} (g : A → A) (i : ℕ) (xs : List A) → length xs ≤ i → mapped_front g i xs ≡ map g xs
mapped_front-all g zero [] h = refl
mapped_front-all g zero (x ∷ xs) h = absurd (omega arith)
mapped_front-all g (suc i) [] h = refl
mapped_front-all g (suc i) (x ∷ xs) h = ap (λ ys. g x ∷ ys) (mapped_front-all g i xs (omega arith))

-- A loop over `ys`, which writes an entry at a time, where the first `i` of them are written.
module _ {A B : Type 0} (f : A → B) (g : B → B) (i : ℕ) (xs ys : List A) (d : A) (so_far : map f ys ≡ mapped_front g i (map f xs)) where
  pub entry_here : f (get_or ys i d) ≡ get_or (map f xs) i (f d)
  entry_here = sym (get_or-map f ys i d) ∙ ap (λ zs. get_or zs i (f d)) so_far ∙ mapped_front-at g i (map f xs) (f d)

  pub entry_written : (new : A) → i < length xs → f new ≡ g (f (get_or ys i d)) → map f (set ys i new) ≡ mapped_front g (i + 1) (map f xs)
  entry_written new below written =
      map-set f ys i new
      ∙ ap (λ zs. set zs i (f new)) so_far
      ∙ ap (λ x. set (mapped_front g i (map f xs)) i x) (written ∙ ap g entry_here)
      ∙ mapped_front-next g i (map f xs) (f d) (omega (arith, length-map xs f))
      ∙ ap (λ k. mapped_front g k (map f xs)) (sym (add-one i))

pub entries_written : {A B : Type 0} (f : A → B) (g : B → B) (i : ℕ) (xs ys : List A) → map f ys ≡ mapped_front g i (map f xs) → length xs ≤ i → map f ys ≡ map g (map f xs)
entries_written f g i xs ys so_far over = so_far ∙ mapped_front-all g i (map f xs) (omega (arith, length-map xs f))

pub filter-map : {A B : Type 0} (p : B → Bool) (f : A → B) (xs : List A) → filter p (map f xs) ≡ map f (filter (λ x. p (f x)) xs)
filter-map p f [] = refl
filter-map p f (x ∷ xs) = by_test (p (f x)) (filter-map p f xs)
  where
    by_test : (b : Bool) → filter p (map f xs) ≡ map f (filter (λ x. p (f x)) xs) → cond b (f x ∷ filter p (map f xs)) (filter p (map f xs)) ≡ map f (cond b (x ∷ filter (λ x. p (f x)) xs) (filter (λ x. p (f x)) xs))
    by_test true same = ap (λ ys. f x ∷ ys) same
    by_test false same = same

pub list_any-map : {A B : Type 0} (p : B → Bool) (f : A → B) (xs : List A) → list_any p (map f xs) ≡ list_any (λ x. p (f x)) xs
list_any-map p f [] = refl
list_any-map p f (x ∷ xs) = ap (λ b. p (f x) || b) (list_any-map p f xs)
