-- What a search finds in the newest epoch that has it, seen over all epochs.
use Rattle.std.proofs.Common.{◌≡◌, ◌⊎◌, inl, inr, ◌≤◌, ◌<◌, ◌==◌, ◌&&◌, ◌||◌, nat_lt, ℕ, zero, suc, List, [], ◌∷◌, ◌++◌, Bool, true, false, Contains, Option, Some, None, cond, refl, ap, ap₂, sym, subst, arith, ◌∙◌}
use Rattle.std.proofs.lemmas.Bool.{cases_eq, lt-ltb}
use Rattle.mar_model.specs.Cached.{Cached, epoch_of}
use Rattle.mar_model.specs.Sections.{stands_before}
use Rattle.mar_cache.specs.AsOne.{up_to}
use Rattle.mar_model.specs.AllEntries.{is_sooner, sooner_of, soonest}
use Rattle.mar_cache.specs.Nested.{of_up_to}

or_true : (a b : Bool) → a ≡ true → (a || b) ≡ true
or_true true b is = refl
or_true false b is = absurd cc

-- what stands in a newer epoch is sooner
newer_sooner : (x y : Cached) → epoch_of y < epoch_of x → is_sooner x y ≡ true
newer_sooner x y less = or_true (nat_lt (epoch_of y) (epoch_of x)) (epoch_of x == epoch_of y && stands_before x y) (lt-ltb (epoch_of y) (epoch_of x) less)

-- what is found is one of these
pub soonest_in : (passes : Cached → Bool) (xs : List Cached) (y : Cached) → soonest passes xs ≡ Some y → Contains xs y
soonest_in passes [] y is = absurd cc
soonest_in passes (x ∷ xs) y is = by (passes x) (soonest passes xs) refl is (soonest_in passes xs)
  where
    more : (z : Cached) → Contains xs z → Contains (x ∷ xs) z
    more z (k, lt, e) = (suc k, omega (arith, lt), e)

    pick : (b : Bool) (z : Cached) → cond b (Some z) (Some x) ≡ Some y → (z ≡ y) ⊎ (x ≡ y)
    pick true z e = inl cc
    pick false z e = inr cc

    by : (b : Bool) (o : Option Cached) → soonest passes xs ≡ o → cond b (sooner_of x o) o ≡ Some y → ((z : Cached) → soonest passes xs ≡ Some z → Contains xs z) → Contains (x ∷ xs) y
    by true None none e rest = (zero, omega arith, let same : x ≡ y = cc in same)
    by true (Some z) some e rest = elim (pick (is_sooner z x) z e) [ inl same ↦ more y (subst (Contains xs) same (rest z some)) | inr same ↦ (zero, omega arith, same) ]
    by false o is' e rest = more y (rest y (is' ∙ e))

abbrev or_else : Option Cached → Option Cached → Option Cached
or_else (Some y) o = Some y
or_else None o = o

-- of two lists of which the second is of a newer epoch
soonest_behind : (passes : Cached → Bool) (xs ys : List Cached) → ((x y : Cached) → Contains xs x → Contains ys y → epoch_of x < epoch_of y) → soonest passes (xs ++ ys) ≡ or_else (soonest passes ys) (soonest passes xs)
soonest_behind passes [] ys newer = by (soonest passes ys)
  where
    by : (o : Option Cached) → o ≡ or_else o None
    by (Some y) = refl
    by None = refl
soonest_behind passes (x ∷ xs) ys newer = ap (λ o. cond (passes x) (sooner_of x o) o) (soonest_behind passes xs ys (λ z y (k, lt, is) has. newer z y (suc k, omega (arith, lt), is) has)) ∙ by (passes x) (soonest passes ys) refl
  where
    by : (b : Bool) (o : Option Cached) → soonest passes ys ≡ o → cond b (sooner_of x (or_else o (soonest passes xs))) (or_else o (soonest passes xs)) ≡ or_else o (cond b (sooner_of x (soonest passes xs)) (soonest passes xs))
    by true (Some y) is = ap (λ c. cond c (Some y) (Some x)) (newer_sooner y x (newer x y (zero, omega arith, refl) (soonest_in passes ys y is)))
    by false (Some y) is = refl
    by true None is = refl
    by false None is = refl

module _ (passes : Cached → Bool) (lists : ℕ → List Cached) (own : (k : ℕ) (y : Cached) → Contains (lists k) y → epoch_of y ≡ k) where
  behind : (h : ℕ) (x y : Cached) → Contains (up_to lists h) x → Contains (lists (suc h)) y → epoch_of x < epoch_of y
  behind h x y has here = let (k, within, found) = of_up_to lists h x has in omega (arith, own k x found, own (suc h) y here, within)

  pub soonest_none : (h : ℕ) → ((k : ℕ) → soonest passes (lists k) ≡ None) → soonest passes (up_to lists h) ≡ None
  soonest_none zero none = none zero
  soonest_none (suc h) none = soonest_behind passes (up_to lists h) (lists (suc h)) (behind h) ∙ ap₂ or_else (none (suc h)) (soonest_none h none)

  -- what is found in an epoch, where no newer one has what passes
  pub soonest_newest : (h e : ℕ) (x : Cached) → e ≤ h → soonest passes (lists e) ≡ Some x → ((k : ℕ) → e < k → soonest passes (lists k) ≡ None) → soonest passes (up_to lists h) ≡ Some x
  soonest_newest zero e x within found none = let first : zero ≡ e = omega (arith, within) in ap (λ k. soonest passes (lists k)) first ∙ found
  soonest_newest (suc h) e x within found none = soonest_behind passes (up_to lists h) (lists (suc h)) (behind h) ∙ elim (cases_eq e (suc h)) [
    | inl same ↦ ap (λ o. or_else o (soonest passes (up_to lists h))) (ap (λ k. soonest passes (lists k)) (sym same) ∙ found)
    | inr other ↦ ap₂ or_else (none (suc h) (omega (arith, within, other))) (soonest_newest h e x (omega (arith, within, other)) found none)
  ]
