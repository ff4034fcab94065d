-- What holds of each that is found in a list.
use Rattle.std.proofs.Common.{◌≡◌, zero, suc, List, [], ◌∷◌, ◌++◌, Option, Some, None, Contains, refl, sym, ◌∙◌, ap, subst, arith}
use Rattle.std.proofs.lemmas.List.Elements.{filter_map-append}
use Rattle.std.specs.List.{AllByRecursion, cons_option, filter_map}
use Rattle.mar_store.proofs.Lookups.{AllByRecursion-append}

pub all_found_of : {T U : Type 0} (f : T → Option U) (P : U → Type 0) (xs : List T) (x : T) (y : U) → AllByRecursion P (filter_map f xs) → Contains xs x → f x ≡ Some y → P y
all_found_of f P [] x y all (k, lt, e) is = absurd (omega arith)
all_found_of {U = U} f P (z ∷ xs) x y all (zero, lt, e) is = head (f z) (ap f e ∙ is) all
  where
    inside : (a b : U) → ◌≡◌ {A = Option U} (Some a) (Some b) → a ≡ b
    inside a b p = cc

    head : (o : Option U) → o ≡ Some y → AllByRecursion P (cons_option o (filter_map f xs)) → P y
    head None p a = absurd cc
    head (Some u) p a = subst P (inside u y p) a.0
all_found_of {U = U} f P (z ∷ xs) x y all (suc k, lt, e) is = all_found_of f P xs x y (tail (f z) all) (k, omega arith, e) is
  where
    tail : (o : Option U) → AllByRecursion P (cons_option o (filter_map f xs)) → AllByRecursion P (filter_map f xs)
    tail None a = a
    tail (Some u) a = a.1

pub all_found_from : {T U : Type 0} (f : T → Option U) (P : U → Type 0) (xs : List T) → ((x : T) (y : U) → Contains xs x → f x ≡ Some y → P y) → AllByRecursion P (filter_map f xs)
all_found_from f P [] each = tt
all_found_from {U = U} f P (x ∷ xs) each = by (f x) refl (all_found_from f P xs (λ y z has. each y z (suc has.0, omega arith, has.2)))
  where
    by : (o : Option U) → f x ≡ o → AllByRecursion P (filter_map f xs) → AllByRecursion P (cons_option o (filter_map f xs))
    by None is others = others
    by (Some u) is others = (each x u (zero, omega arith, refl) is, others)

-- what holds of each that is found in a list holds of each that is found in lists within it
pub all_found_within : {T U : Type 0} (f : T → Option U) (P : U → Type 0) (xs ys : List T) → ((x : T) → Contains xs x → Contains ys x) → AllByRecursion P (filter_map f ys) → AllByRecursion P (filter_map f xs)
all_found_within f P xs ys within all = all_found_from f P xs (λ x y has is. all_found_of f P ys x y all (within x has) is)

-- and what holds of what was found before and of what was put holds of all that may be left
pub all_found_put : {T U : Type 0} (f : T → Option U) (P : U → Type 0) (xs ys put : List T) → ((x : T) → Contains xs x → Contains (ys ++ put) x) → AllByRecursion P (filter_map f ys) → AllByRecursion P (filter_map f put) → AllByRecursion P (filter_map f xs)
all_found_put f P xs ys put within before new = all_found_within f P xs (ys ++ put) within (subst (AllByRecursion P) (sym (filter_map-append f ys put)) (AllByRecursion-append P (filter_map f ys) (filter_map f put) before new))
