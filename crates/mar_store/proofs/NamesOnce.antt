-- Values that are found by their names.
use Rattle.std.proofs.Common.{◌≡◌, ℕ, zero, suc, List, [], ◌∷◌, ◌++◌, Bool, true, false, Option, Some, None, is_some, IsNone, cond, refl, sym, take}
use Rattle.std.specs.Prelude.{bytes_eq}
use Rattle.std.proofs.lemmas.Slice.Eq.{bytes_eq-Decides}
use Rattle.std.proofs.lemmas.Bool.{both_ways, or_parts}
use Rattle.mar_store.specs.Kept.{At, has_height, value_at}
use Rattle.mar_store.specs.Named.{EachNameOnce, is_taken, value_named}
use Rattle.mar_store.proofs.Lookups.{missing-from_has_height}

-- ONE MORE

pub unnamed_parts : {T : Type 0} (b : Bool) (x : T) (o : Option T) → is_some (cond b (Some x) o) ≡ false → (b ≡ false) × (is_some o ≡ false)
unnamed_parts true x o none = absurd cc
unnamed_parts false x o none = (refl, none)

pub unnamed_from : {T : Type 0} (b : Bool) (x : T) (o : Option T) → b ≡ false → is_some o ≡ false → is_some (cond b (Some x) o) ≡ false
unnamed_from true x o other none = absurd cc
unnamed_from false x o other none = none

pub other_way : (xs ys : List ℕ) → bytes_eq xs ys ≡ false → bytes_eq ys xs ≡ false
other_way xs ys other = by (bytes_eq ys xs) refl
  where
    by : (b : Bool) → bytes_eq ys xs ≡ b → b ≡ false
    by true same = absurd (both_ways (bytes_eq xs ys) other ((bytes_eq-Decides xs ys).1 (sym ((bytes_eq-Decides ys xs).0 same))))
    by false same = refl

pub unnamed_push : {T : Type 0} (name : T → List ℕ) (xs : List (At T)) (y : At T) (d : List ℕ) → IsNone (value_named name xs d) → bytes_eq (name y.value) d ≡ false → IsNone (value_named name (xs ++ y ∷ []) d)
unnamed_push name [] y d none other = unnamed_from (bytes_eq (name y.value) d) y.value None other refl
unnamed_push name (x ∷ xs) y d none other = let parts = unnamed_parts (bytes_eq (name x.value) d) x.value (value_named name xs d) none in
    unnamed_from (bytes_eq (name x.value) d) x.value (value_named name (xs ++ y ∷ []) d) parts.0 (unnamed_push name xs y d parts.1 other)

pub EachNameOnce-push : {T : Type 0} (name : T → List ℕ) (xs : List (At T)) (y : At T) → EachNameOnce name xs → IsNone (value_named name xs (name y.value)) → EachNameOnce name (xs ++ y ∷ [])
EachNameOnce-push name [] y once none = (refl, tt)
EachNameOnce-push name (x ∷ xs) y once none = let parts = unnamed_parts (bytes_eq (name x.value) (name y.value)) x.value (value_named name xs (name y.value)) none in
    (unnamed_push name xs y (name x.value) once.0 (other_way (name x.value) (name y.value) parts.0), EachNameOnce-push name xs y once.1 parts.1)

-- what isn't taken has neither its index nor its name
pub free_index : {T : Type 0} (name : T → List ℕ) (xs : List (At T)) (y : At T) → is_taken name xs y ≡ false → value_at xs y.height ≡ None
free_index name xs y free = missing-from_has_height xs y.height (or_parts (has_height xs y.height) (is_some (value_named name xs (name y.value))) free).0

pub free_name : {T : Type 0} (name : T → List ℕ) (xs : List (At T)) (y : At T) → is_taken name xs y ≡ false → IsNone (value_named name xs (name y.value))
free_name name xs y free = (or_parts (has_height xs y.height) (is_some (value_named name xs (name y.value))) free).1

-- FRONTS

pub unnamed_front : {T : Type 0} (name : T → List ℕ) (n : ℕ) (xs : List (At T)) (d : List ℕ) → IsNone (value_named name xs d) → IsNone (value_named name (take n xs) d)
unnamed_front name zero xs d none = refl
unnamed_front name (suc n) [] d none = refl
unnamed_front name (suc n) (x ∷ xs) d none = let parts = unnamed_parts (bytes_eq (name x.value) d) x.value (value_named name xs d) none in
    unnamed_from (bytes_eq (name x.value) d) x.value (value_named name (take n xs) d) parts.0 (unnamed_front name n xs d parts.1)

pub front_named : {T : Type 0} (name : T → List ℕ) (n : ℕ) (xs : List (At T)) → EachNameOnce name xs → EachNameOnce name (take n xs)
front_named name zero xs once = tt
front_named name (suc n) [] once = tt
front_named name (suc n) (x ∷ xs) once = (unnamed_front name n xs (name x.value) once.0, front_named name n xs once.1)
