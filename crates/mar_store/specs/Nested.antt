-- What entries keep holds together: no index stands twice, and what is sure is held.
use Rattle.std.specs.Prelude.{List, None, Option, Some, [], filter, nat_lt, is_some, IsNone, map, suc, take, zero, ℕ, ◌==◌, ◌∷◌, ◌≡◌}
use Rattle.std.proofs.Common.{Bool, ap, arith, cond, refl, true, false}
use Rattle.std.proofs.lemmas.Bool.{or_right}
use Rattle.mar_store.specs.Kept.{At, EachHeightOnce, value_at}
use Rattle.mar_store.specs.Changes.{BeginsWith, IsNested, IsQueue, KeepsValues, Within}
use Rattle.mar_store.specs.Entries.{covered_by, is_covered, kept_of, seen}
use Rattle.mar_store.specs.Tickets.{last_number}
use Rattle.mar_store.specs.declared.entry.Entry.{Entry}

pub same_or : {V : Type 0} (b : Bool) (x y z o : V) → (y ≡ o → z ≡ o) → cond b x y ≡ o → cond b x z ≡ o
same_or true x y z o goes is = is
same_or false x y z o goes is = goes is

-- a front of a list has no height that the list lacks
pub front_none : {P : Type 0} (n : ℕ) (xs : List (At P)) (h : ℕ) → value_at xs h ≡ None → value_at (take n xs) h ≡ None
front_none zero xs h none = refl
front_none (suc n) [] h none = refl
front_none (suc n) (x ∷ xs) h none = same_or (x.height == h) (Some x.value) (value_at xs h) (value_at (take n xs) h) None (front_none n xs h) none

pub front_once : {P : Type 0} (n : ℕ) (xs : List (At P)) → EachHeightOnce xs → EachHeightOnce (take n xs)
front_once zero xs once = tt
front_once (suc n) [] once = tt
front_once (suc n) (x ∷ xs) once = (ap is_some (front_none n xs x.height (none_from (value_at xs x.height) once.0)), front_once n xs once.1)
  where
    none_from : {V : Type 0} (o : Option V) → IsNone o → o ≡ None
    none_from None is = refl
    none_from (Some v) is = cc

pub front_kept : {P : Type 0} (n : ℕ) (xs : List (At P)) → KeepsValues (take n xs) xs
front_kept zero xs h v found = cc
front_kept (suc n) [] h v found = cc
front_kept (suc n) (x ∷ xs) h v found = same_or (x.height == h) (Some x.value) (value_at (take n xs) h) (value_at xs h) (Some v) (front_kept n xs h v) found

pub kept_nested : {T : Type 0} (items : List (Entry T)) (n : ℕ) → EachHeightOnce (map seen items) → IsNested (kept_of items n)
kept_nested items n once = record {
  once = once;
  sure_once = front_once n (map seen items) once;
  sure_held = front_kept n (map seen items);
  held_may = λ x there. there;
}

pub front_within : {P : Type 0} (n : ℕ) (xs : List (At P)) → Within (take n xs) xs
front_within zero xs x (i, lt, e) = absurd (omega arith)
front_within (suc n) [] x has = has
front_within (suc n) (y ∷ ys) x (zero, lt, e) = (zero, omega arith, e)
front_within (suc n) (y ∷ ys) x (suc i, lt, e) = let more = front_within n ys x (i, omega arith, e) in (suc more.0, omega (arith, more.1), more.2)

-- the last number covers all
pub covers_last : {T : Type 0} (items : List (Entry T)) → covered_by items last_number ≡ map seen items
covers_last items = ap (map seen) (all items)
  where
    all : {T : Type 0} (es : List (Entry T)) → filter (is_covered last_number) es ≡ es
    all [] = refl
    all (e ∷ es) = rw (or_right (nat_lt e.number last_number) (last_number == last_number) refl) (ap (λ ys. e ∷ ys) (all es))

-- a list begins with each of its fronts
pub front_begins : {T : Type 0} (n : ℕ) (xs : List T) → BeginsWith (take n xs) xs
front_begins zero xs = refl
front_begins (suc n) [] = refl
front_begins (suc n) (x ∷ xs) = ap (λ ys. x ∷ ys) (front_begins n xs)

pub kept_queue : {T : Type 0} (items : List (Entry T)) (n : ℕ) → IsQueue (kept_of items n)
kept_queue items n = record { may = refl; front = front_begins n (map seen items) }
