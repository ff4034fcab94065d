-- What logged entries keep holds together: no archive holds two of one place, and what is sure is held.
use Rattle.std.specs.Prelude.{Bool, Contains, IsTrue, List, [], filter, length, map, nat_lt, suc, zero, ℕ, ◌&&◌, ◌==◌, ◌||◌, ◌∷◌, ◌≡◌}
use Rattle.std.proofs.Common.{ap, arith, cond, eqb-true, refl, true, false, ◌∙◌}
use Rattle.mar_store.specs.Changes.{Within, left_of}
use Rattle.mar_store.specs.Tickets.{last_number}
use Rattle.mar_model.specs.Cached.{Cached, EachPlaceOnce}
use Rattle.mar_model.specs.Sections.{is_in}
use Rattle.mar_model.specs.declared.Section.{Section}
use Rattle.mar_epochs.specs.EntryLogs.{Logged, book_of, covered_in, entries, is_covered, kept_in, log_of}
use Rattle.mar_epochs.specs.declared.logged_entry.LoggedEntry.{LoggedEntry}
use Rattle.mar_epochs.specs.EpochArchives.{AreNestedArchives, nothing_left}

-- a filtered list has nothing that the list lacks
pub filter_within : {A B : Type 0} (f : A → B) (p : A → Bool) (xs : List A) → Within (map f (filter p xs)) (map f xs)
filter_within f p [] y has = has
filter_within {A} {B} f p (x ∷ xs) y has = by (p x) (filter_within f p xs y) has
  where
    more : Contains (map f xs) y → Contains (map f (x ∷ xs)) y
    more (k, lt, is) = (suc k, omega arith, is)

    by : (b : Bool) → (Contains (map f (filter p xs)) y → Contains (map f xs) y) → Contains (map f (cond b (x ∷ filter p xs) (filter p xs))) y → Contains (map f (x ∷ xs)) y
    by true rest (zero, lt, is) = (zero, omega arith, is)
    by true rest (suc k, lt, is) = more (rest (k, omega arith, is))
    by false rest has' = more (rest has')

-- the last number covers all
pub covers_last : (fs : List Logged) (s : Section) → covered_in fs s last_number ≡ filter (is_in s) (entries fs)
covers_last [] s = refl
covers_last (f ∷ fs) s = ap (λ b. entries (cond b (f ∷ rest) rest)) (all (is_in s f.entry) (nat_lt f.number last_number)) ∙ by (is_in s f.entry) (covers_last fs s)
  where
    rest : List Logged
    rest = filter (is_covered s last_number) fs

    all : (a b : Bool) → (a && (b || last_number == last_number)) ≡ a
    all true true = refl
    all true false = refl
    all false b = refl

    by : (b : Bool) → entries rest ≡ filter (is_in s) (entries fs) → entries (cond b (f ∷ rest) rest) ≡ cond b (f.entry ∷ filter (is_in s) (entries fs)) (filter (is_in s) (entries fs))
    by true same = ap (λ ys. f.entry ∷ ys) same
    by false same = same

pub kept_nested : (n : ℕ) (fs : List Logged) → EachPlaceOnce (entries fs) → AreNestedArchives (book_of n fs)
kept_nested n fs once = record { once = once; sure_held = filter_within (λ f. f.entry) (λ f. f.is_sure) fs; held_may = λ x has. has; covered = λ s t. filter_within (λ f. f.entry) (is_covered s t) fs; last = covers_last fs }

-- what is sure may be left
pub left_nested : (fs : List Logged) → Within (kept_in fs).sure (kept_in fs).may
left_nested fs = filter_within (λ f. f.entry) (λ f. f.is_sure) fs

-- of no entries nothing is left
pub nothing_logged : {E : Type 0} (plain : E → Cached) (items : List (LoggedEntry E)) → IsTrue (length items == 0) → left_of (kept_in (log_of plain items)) ≡ nothing_left
nothing_logged plain [] empty = refl
nothing_logged plain (f ∷ items) empty = absurd (omega (arith, eqb-true (length (f ∷ items)) 0 empty))
