-- Entries of one place: no archive holds two, whatever is put at the end or taken out.
use Rattle.std.proofs.Common.{◌≡◌, ◌||◌, ◌&&◌, ◌==◌, ℕ, List, [], ◌∷◌, ◌++◌, Bool, true, false, Decides, cond, refl, ap, ap₂, sym, ◌∙◌, filter, map, bytes_eq}
use Rattle.std.specs.List.{list_any}
use Rattle.std.proofs.lemmas.Bool.Decides.{same_from_decides, Decides-eqb}
use Rattle.std.proofs.lemmas.Slice.Eq.{bytes_eq-Decides}
use Rattle.mar_types.specs.Round.{Round, round_eq}
use Rattle.mar_model.specs.Cached.{Cached, EachPlaceOnce, certified_entry, finalization_entry, notarization_entry, notarized_entry, same_place, verified_entry}
use Rattle.mar_epochs.proofs.Filtering.{none_of_filter, or_false_left, or_false_right}

decides_sym : {A : Type 0} (test : A → A → Bool) (says : (x y : A) → Decides (test x y) (x ≡ y)) (x y : A) → test x y ≡ test y x
decides_sym test says x y = same_from_decides (test x y) (test y x) (says x y) ((λ e. sym ((says y x).0 e)), (λ e. (says y x).1 (sym e)))

number_eq_sym : (a b : ℕ) → (a == b) ≡ (b == a)
number_eq_sym a b = decides_sym ◌==◌ Decides-eqb a b

bytes_eq_sym : (xs ys : List ℕ) → bytes_eq xs ys ≡ bytes_eq ys xs
bytes_eq_sym xs ys = decides_sym bytes_eq bytes_eq-Decides xs ys

round_eq_sym : (r s : Round) → round_eq r s ≡ round_eq s r
round_eq_sym r s = ap₂ (λ a b. a && b) (number_eq_sym r.epoch s.epoch) (number_eq_sym r.view s.view)

pub same_place_sym : (x y : Cached) → same_place x y ≡ same_place y x
same_place_sym (finalization_entry f) (finalization_entry g) = round_eq_sym f.round g.round
same_place_sym (notarization_entry f) (notarization_entry g) = round_eq_sym f.round g.round
same_place_sym (notarized_entry r b) (notarized_entry s c) = round_eq_sym r s
same_place_sym (verified_entry r b) (verified_entry s c) = ap₂ (λ a d. a && d) (round_eq_sym r s) (bytes_eq_sym b.digest c.digest)
same_place_sym (certified_entry e b) (certified_entry f c) = ap₂ (λ a d. a && d) (number_eq_sym b.height c.height) (bytes_eq_sym b.digest c.digest)
same_place_sym _ _ = refl

none_behind : (x y : Cached) (ys : List Cached) → list_any (same_place y) ys ≡ false → same_place x y ≡ false → list_any (same_place y) (ys ++ x ∷ []) ≡ false
none_behind x y [] none other = ap (λ b. b || false) (same_place_sym y x ∙ other)
none_behind x y (z ∷ ys) none other = ap₂ (λ a b. a || b) (or_false_left _ _ none) (none_behind x y ys (or_false_right _ _ none) other)

-- what has no place of the others is put at the end
pub push_place : (xs : List Cached) (x : Cached) → EachPlaceOnce xs → list_any (same_place x) xs ≡ false → EachPlaceOnce (xs ++ x ∷ [])
push_place [] x once free = (refl, tt)
push_place (y ∷ ys) x once free = (none_behind x y ys once.0 (or_false_left _ _ free), push_place ys x once.1 (or_false_right _ _ free))

-- what is filtered has no place twice
pub filter_places : {A : Type 0} (f : A → Cached) (p : A → Bool) (xs : List A) → EachPlaceOnce (map f xs) → EachPlaceOnce (map f (filter p xs))
filter_places f p [] once = tt
filter_places {A} f p (x ∷ xs) once = by (p x) (filter_places f p xs once.1)
  where
    by : (b : Bool) → EachPlaceOnce (map f (filter p xs)) → EachPlaceOnce (map f (cond b (x ∷ filter p xs) (filter p xs)))
    by true rest = (none_of_filter f p (same_place (f x)) xs once.0, rest)
    by false rest = rest
