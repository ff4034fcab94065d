-- A list as far as a loop has come: some of its elements, or what each becomes.
use Rattle.std.proofs.Common.{Bool, List, [], ap, append-nil, cond, false, filter, get_or, length, map, sym, take, true, ℕ, ◌++◌, ◌+◌, ◌<◌, ◌∙◌, ◌∷◌, ◌≡◌}
use Rattle.std.proofs.lemmas.List.{map-append, take_more}
use Rattle.std.proofs.lemmas.List.Elements.{filter-append}

module _ {X Y : Type 0} (f : X → Y) (p : X → Bool) (xs : List X) (i : ℕ) (x : X) (within : i < length xs) (is : get_or xs i x ≡ x) (old new : List X) (was : map f old ≡ map f (filter p (take i xs))) where
  one_more : map f new ≡ map f old ++ map f (filter p (x ∷ [])) → map f new ≡ map f (filter p (take (i + 1) xs))
  one_more step =
      step ∙ ap (λ l. l ++ map f (filter p (x ∷ []))) was ∙ sym (map-append f (filter p (take i xs)) (filter p (x ∷ []))) ∙ ap (map f) (sym (filter-append p (take i xs) (x ∷ [])))
      ∙ ap (λ l. map f (filter p l)) (sym (take_more xs i x within ∙ ap (λ y. take i xs ++ y ∷ []) is))

  -- an element was kept
  pub one_kept : (copy : X) → p x ≡ true → new ≡ old ++ copy ∷ [] → f copy ≡ f x → map f new ≡ map f (filter p (take (i + 1) xs))
  one_kept copy passes are same =
      one_more (ap (map f) are ∙ map-append f old (copy ∷ []) ∙ ap (λ y. map f old ++ y ∷ []) same ∙ ap (λ b. map f old ++ map f (cond b (x ∷ []) [])) (sym passes))

  -- an element was passed over
  pub one_passed : p x ≡ false → new ≡ old → map f new ≡ map f (filter p (take (i + 1) xs))
  one_passed fails are = one_more (ap (map f) are ∙ sym (append-nil (map f old)) ∙ ap (λ b. map f old ++ map f (cond b (x ∷ []) [])) (sym fails))

pub one_mapped : {X Y : Type 0} (f : X → Y) (xs : List X) (i : ℕ) (d : X) → i < length xs → (old new : List Y) (y : Y) → new ≡ old ++ y ∷ [] → y ≡ f (get_or xs i d) → old ≡ map f (take i xs) → new ≡ map f (take (i + 1) xs)
one_mapped f xs i d within old new y are is was =
    are ∙ ap (λ l. l ++ y ∷ []) was ∙ ap (λ z. map f (take i xs) ++ z ∷ []) is ∙ sym (map-append f (take i xs) (get_or xs i d ∷ [])) ∙ ap (map f) (sym (take_more xs i d within))
