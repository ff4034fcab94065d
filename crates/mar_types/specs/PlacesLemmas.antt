-- Where the first entry that passes stands.
use Rattle.std.proofs.Common.{◌≡◌, ℕ, suc, List, [], ◌∷◌, ◌++◌, length, Bool, true, false, cond, Option, None, Some, refl, ap, ◌∙◌, sym, is_some, ◌||◌}
use Rattle.std.specs.Prelude.{find, option_map, if◌then◌else◌}
use Rattle.std.specs.List.{list_any}
use Rattle.std.proofs.lemmas.Bool.{or_left}
use Rattle.mar_types.specs.Places.{first_place, or_place, at_place}

later : (a b : Option ℕ) → option_map suc (or_place a b) ≡ or_place (option_map suc a) (option_map suc b)
later None b = refl
later (Some k) b = refl

shifted : (b : Bool) (n : ℕ) → option_map suc (cond b (Some n) None) ≡ cond b (Some (suc n)) None
shifted true n = refl
shifted false n = refl

-- one more entry at the end
pub first_place_push : {T : Type 0} (p : T → Bool) (xs : List T) (x : T) → first_place p (xs ++ x ∷ []) ≡ or_place (first_place p xs) (if p x then Some (length xs) else None)
first_place_push p [] x = refl
first_place_push p (y ∷ ys) x =
    elim (p y) as (λ b. cond b (Some 0) (option_map suc (first_place p (ys ++ x ∷ []))) ≡ or_place (cond b (Some 0) (option_map suc (first_place p ys))) (cond (p x) (Some (suc (length ys))) None)) [
      | true ↦ refl
      | false ↦ ap (option_map suc) (first_place_push p ys x) ∙ (later (first_place p ys) _ ∙ ap (or_place (option_map suc (first_place p ys))) (shifted (p x) (length ys)))
    ]

pub is_some-first_place : {T : Type 0} (p : T → Bool) (xs : List T) → is_some (first_place p xs) ≡ list_any p xs
is_some-first_place p [] = refl
is_some-first_place p (y ∷ ys) =
    elim (p y) as (λ b. is_some (cond b (Some 0) (option_map suc (first_place p ys))) ≡ (b || list_any p ys))
    [ true ↦ refl | false ↦ is_some-map (first_place p ys) ∙ is_some-first_place p ys ]
  where
    is_some-map : (o : Option ℕ) → is_some (option_map suc o) ≡ is_some o
    is_some-map None = refl
    is_some-map (Some k) = refl

pub find-first_place : {T : Type 0} (p : T → Bool) (xs : List T) → find p xs ≡ at_place xs (first_place p xs)
find-first_place p [] = refl
find-first_place p (y ∷ ys) =
    elim (p y) as (λ b. cond b (Some y) (find p ys) ≡ at_place (y ∷ ys) (cond b (Some 0) (option_map suc (first_place p ys))))
    [ true ↦ refl | false ↦ find-first_place p ys ∙ shift (first_place p ys) ]
  where
    shift : (o : Option ℕ) → at_place ys o ≡ at_place (y ∷ ys) (option_map suc o)
    shift None = refl
    shift (Some k) = refl

-- what a place tells that is kept for a test
pub find_at : {T : Type 0} (p : T → Bool) (xs : List T) (o : Option ℕ) → o ≡ first_place p xs → find p xs ≡ at_place xs o
find_at p xs o is = find-first_place p xs ∙ ap (at_place xs) (sym is)

pub any_at : {T : Type 0} (p : T → Bool) (xs : List T) (o : Option ℕ) (r : Bool) → o ≡ first_place p xs → r ≡ is_some o → r ≡ list_any p xs
any_at p xs o r is tells = tells ∙ (ap is_some is ∙ is_some-first_place p xs)

pub noted : {T : Type 0} (p : T → Bool) (xs ys : List T) (x : T) (test : Bool) (place : ℕ) (old new : Option ℕ) → old ≡ first_place p xs → place ≡ length xs → ys ≡ xs ++ x ∷ [] → test ≡ p x
    → new ≡ or_place old (if test then Some place else None) → new ≡ first_place p ys
noted p xs ys x test place old new was at are tests is = rw (are, first_place_push p xs x, ← was, ← at, ← tests) is

pub first_or : (r a b : Bool) → r ≡ a → r ≡ true → r ≡ (a || b)
first_or r a b is set = set ∙ sym (or_left a b (sym is ∙ set))

pub second_or : (r s a b : Bool) → r ≡ a → r ≡ false → s ≡ b → s ≡ (a || b)
second_or r s a b is unset second = second ∙ ap (λ t. t || b) (sym unset ∙ is)
