-- Lists by epoch as one list: what is in it, and what a test finds there.
use Rattle.std.proofs.Common.{◌≡◌, ◌≢◌, inl, inr, ◌≤◌, ◌<◌, ℕ, zero, suc, List, [], ◌++◌, Bool, Option, refl, ap, ap₂, sym, filter, arith, ◌∙◌}
use Rattle.std.specs.List.{filter_map}
use Rattle.std.proofs.lemmas.Bool.{cases_eq}
use Rattle.std.proofs.lemmas.List.{append-nil}
use Rattle.std.proofs.lemmas.List.Elements.{filter-append, filter_map-append}
use Rattle.mar_cache.specs.AsOne.{up_to}

module _ {T : Type 0} (lists : ℕ → List T) where
  -- nothing stands in later epochs
  pub up_to_more : (h j : ℕ) → h ≤ j → ((k : ℕ) → h < k → lists k ≡ []) → up_to lists j ≡ up_to lists h
  up_to_more h zero within none = ap (up_to lists) (let e : zero ≡ h = omega (arith, within) in e)
  up_to_more h (suc j) within none = elim (cases_eq h (suc j)) [
    | inl same ↦ ap (up_to lists) (sym same)
    | inr other ↦ ap (λ xs. up_to lists j ++ xs) (none (suc j) (omega (arith, within, other))) ∙ append-nil (up_to lists j) ∙ up_to_more h j (omega (arith, within, other)) none
  ]

  -- nothing stands there
  pub up_to_none : (h : ℕ) → ((k : ℕ) → k ≤ h → lists k ≡ []) → up_to lists h ≡ []
  up_to_none zero none = none zero (omega arith)
  up_to_none (suc h) none = ap₂ (λ xs ys. xs ++ ys) (up_to_none h (λ k within. none k (omega (arith, within)))) (none (suc h) (omega arith))

  -- in no epoch but one
  pub only_in : (e h : ℕ) → e ≤ h → ((k : ℕ) → k ≢ e → lists k ≡ []) → up_to lists h ≡ lists e
  only_in e zero within none = ap lists (let same : zero ≡ e = omega (arith, within) in same)
  only_in e (suc h) within none = elim (cases_eq e (suc h)) [
    | inl same ↦ ap (λ xs. xs ++ lists (suc h)) (up_to_none h (λ k under. none k (λ is. omega (arith, under, is, same)))) ∙ ap lists (sym same)
    | inr other ↦ ap (λ xs. up_to lists h ++ xs) (none (suc h) (λ is. other (sym is))) ∙ append-nil (up_to lists h) ∙ only_in e h (omega (arith, within, other)) none
  ]

pub up_to_same : {T : Type 0} (f g : ℕ → List T) (h : ℕ) → ((k : ℕ) → k ≤ h → f k ≡ g k) → up_to f h ≡ up_to g h
up_to_same f g zero same = same zero (omega arith)
up_to_same f g (suc h) same = ap₂ (λ xs ys. xs ++ ys) (up_to_same f g h (λ k within. same k (omega (arith, within)))) (same (suc h) (omega arith))

pub filter_up_to : {T : Type 0} (test : T → Bool) (lists : ℕ → List T) (h : ℕ) → filter test (up_to lists h) ≡ up_to (λ k. filter test (lists k)) h
filter_up_to test lists zero = refl
filter_up_to test lists (suc h) = filter-append test (up_to lists h) (lists (suc h)) ∙ ap (λ xs. xs ++ filter test (lists (suc h))) (filter_up_to test lists h)

pub filter_map_up_to : {T S : Type 0} (f : T → Option S) (lists : ℕ → List T) (h : ℕ) → filter_map f (up_to lists h) ≡ up_to (λ k. filter_map f (lists k)) h
filter_map_up_to f lists zero = refl
filter_map_up_to f lists (suc h) = filter_map-append f (up_to lists h) (lists (suc h)) ∙ ap (λ xs. xs ++ filter_map f (lists (suc h))) (filter_map_up_to f lists h)
