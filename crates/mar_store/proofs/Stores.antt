-- What the calls of a store over entries change.
use Rattle.std.proofs.Common.{◌≡◌, ◌∙◌, ◌≤◌, ◌<◌, ◌⊎◌, inl, inr, ◌||◌, ℕ, zero, suc, List, [], ◌∷◌, ◌++◌, Bool, true, false, Option, Some, is_some, Contains, cond, refl, sym, ap, map, take, length, min, nat_le, nat_lt, arith, append-nil, le-leb}
use Rattle.std.specs.Prelude.{bytes_eq, filter, find, option_map, ◌==◌}
use Rattle.std.specs.List.{AllByRecursion, list_any}
use Rattle.std.proofs.lemmas.Bool.{both_ways, or_from, ne_eqb, ltb-true, eqb-true}
use Rattle.std.proofs.lemmas.List.{map_push, take-append-le, take_all, length-map, take-map}
use Rattle.std.proofs.lemmas.List.Elements.{Contains-append_left, Contains-append_right, filter-append}
use Rattle.mar_store.specs.Kept.{At, EachHeightOnce, Kept, value_at}
use Rattle.mar_store.specs.Changes.{Fails, IsStillOr, KeepsFrom, KeepsValues, Prunes, Puts, Syncs, Within, from_bound, left_of, left_put, pruned_store}
use Rattle.mar_store.specs.Named.{is_taken, value_named}
use Rattle.mar_store.specs.Tickets.{KeepsCovers, KeepsCoversFrom, last_number}
use Rattle.mar_store.specs.Nested.{front_once}
use Rattle.mar_store.specs.Entries.{AreCounted, covered_by, is_covered, kept_of, seen}
use Rattle.mar_store.specs.declared.entry.Entry.{Entry}
use Rattle.mar_store.proofs.Chosen.{filter_once, front_filter}
use Rattle.mar_store.proofs.Lookups.{Contains-from_value, value_at-from_contains}

-- FINDING

pub value_there : {T : Type 0} (h : ℕ) (items : List (Entry T)) → value_at (map seen items) h ≡ option_map (λ e. e.item) (find (λ e. e.index == h) items)
value_there h [] = refl
value_there {T} h (x ∷ xs) =
    elim (x.index == h) as (λ b. cond b (Some x.item) (value_at (map seen xs) h) ≡ option_map (λ (e : Entry T). e.item) (cond b (Some x) (find (λ e. e.index == h) xs)))
    [ true ↦ refl | false ↦ value_there h xs ]

pub name_there : {T : Type 0} (name : T → List ℕ) (d : List ℕ) (items : List (Entry T)) → value_named name (map seen items) d ≡ option_map (λ e. e.item) (find (λ e. bytes_eq (name e.item) d) items)
name_there name d [] = refl
name_there {T} name d (x ∷ xs) =
    elim (bytes_eq (name x.item) d) as (λ b. cond b (Some x.item) (value_named name (map seen xs) d) ≡ option_map (λ (e : Entry T). e.item) (cond b (Some x) (find (λ e. bytes_eq (name e.item) d) xs)))
    [ true ↦ refl | false ↦ name_there name d xs ]

some_found : {T : Type 0} (p : Entry T → Bool) (items : List (Entry T)) → is_some (option_map (λ e. e.item) (find p items)) ≡ list_any p items
some_found p [] = refl
some_found {T} p (x ∷ xs) = elim (p x) as (λ b. is_some (option_map (λ (e : Entry T). e.item) (cond b (Some x) (find p xs))) ≡ (b || list_any p xs)) [ true ↦ refl | false ↦ some_found p xs ]

pub taken_there : {T : Type 0} (name : T → List ℕ) (h : ℕ) (v : T) (d : List ℕ) (items : List (Entry T)) (r : Bool) → d ≡ name v → r ≡ (list_any (λ e. e.index == h) items || list_any (λ e. bytes_eq (name e.item) d) items)
    → r ≡ is_taken name (map seen items) (record { height = h; value = v })
taken_there name h v d items r under is =
    rw (value_there h items, name_there name (name v) items, some_found (λ e. e.index == h) items, some_found (λ e. bytes_eq (name e.item) (name v)) items, ← under) is

-- PUTS

pub puts_ignored : {T : Type 0} (items : List (Entry T)) (n : ℕ) (y : At T) (ignored : Bool) → ignored ≡ true → Puts ignored (kept_of items n) y (kept_of items n)
puts_ignored items n y ignored is = record { held = rw is refl; sure = refl; may_kept = λ x there. there; may = λ x there. Contains-append_left (map seen items) (y ∷ []) x there }

pub puts_entry : {T : Type 0} (items new : List (Entry T)) (n m : ℕ) (e : Entry T) (ignored : Bool) → n ≤ length items → ignored ≡ false → new ≡ items ++ e ∷ [] → m ≡ n → Puts ignored (kept_of items n) (seen e) (kept_of new m)
puts_entry {T} items new n m e ignored within is are same =
    let more : map seen new ≡ map seen items ++ seen e ∷ [] = ap (map seen) are ∙ map_push seen items e in
    record {
      held = rw is more;
      sure = rw (same, more) (take-append-le n (map seen items) (seen e ∷ []) (rw length-map within));
      may_kept = λ x there. rw more (Contains-append_left (map seen items) (seen e ∷ []) x there);
      may = λ x there. rw more at there;
    }

pub fails_put : {T : Type 0} (items new : List (Entry T)) (n m : ℕ) (e : Entry T) → n ≤ length items → (new ≡ items) ⊎ (new ≡ items ++ e ∷ []) → m ≡ n → Fails (left_of (kept_of items n)) (seen e ∷ []) (left_of (kept_of new m))
fails_put items new n m e within are same = elim are [
  | inl stayed ↦ record { sure = rw (stayed, same) refl; may_kept = λ x there. rw stayed there; may = λ x there. Contains-append_left (map seen items) (seen e ∷ []) x (rw stayed at there) }
  | inr put ↦ let more = puts_entry items new n m e false within refl put same in record { sure = more.sure; may_kept = more.may_kept; may = more.may }
]

-- a put that went well, of which it is told that it failed
pub fails_done : {T : Type 0} (old new : Kept (At T)) (x : At T) (ignored : Bool) → Puts ignored old x new → Fails (left_of old) (x ∷ []) (left_of new)
fails_done old new x ignored puts = record { sure = puts.sure; may_kept = puts.may_kept; may = puts.may }

pub still_done : {T : Type 0} (items new : List (Entry T)) (n m : ℕ) (x : At T) (ignored : Bool) → Puts ignored (kept_of items n) x (kept_of new m) → IsStillOr (left_of (kept_of items n)) x (left_of (kept_of new m))
still_done items new n m x true puts = inl (rw (puts.sure, puts.held) refl)
still_done items new n m x false puts = inr (rw (puts.sure, puts.held) refl)

pub still_put : {T : Type 0} (items new : List (Entry T)) (n m : ℕ) (e : Entry T) → n ≤ length items → (new ≡ items) ⊎ (new ≡ items ++ e ∷ []) → m ≡ n → IsStillOr (left_of (kept_of items n)) (seen e) (left_of (kept_of new m))
still_put items new n m e within are same = elim are [
  | inl stayed ↦ inl (rw (stayed, same) refl)
  | inr put ↦ still_done items new n m (seen e) false (puts_entry items new n m e false within refl put same)
]

-- a put that was done leaves just what it was to write
pub left_done : {T : Type 0} (items new : List (Entry T)) (n m : ℕ) (x : At T) (ignored : Bool) → Puts ignored (kept_of items n) x (kept_of new m) → left_of (kept_of new m) ≡ left_put ignored (left_of (kept_of items n)) x
left_done items new n m x true puts = rw (puts.sure, puts.held) refl
left_done items new n m x false puts = rw (puts.sure, puts.held) refl

-- SYNCS

pub syncs_entries : {T : Type 0} (items new : List (Entry T)) (n m : ℕ) → new ≡ items → m ≡ length items → Syncs (kept_of items n) (kept_of new m)
syncs_entries items new n m are all = record { held = ap (map seen) are; sure = rw (are, all) (take_all (length items) (map seen items) (rw length-map (omega arith))); may = λ x there. rw are at there }

-- TICKETS

pub filter_pass : {X : Type 0} (p : X → Bool) (xs : List X) → AllByRecursion (λ x. p x ≡ true) xs → filter p xs ≡ xs
filter_pass p [] all = refl
filter_pass p (x ∷ xs) all = rw all.0 (ap (λ ys. x ∷ ys) (filter_pass p xs all.1))

pub all_pass : {T : Type 0} (items : List (Entry T)) → filter (λ e. nat_le 0 e.index) items ≡ items
all_pass [] = refl
all_pass (e ∷ es) = rw (le-leb 0 e.index (omega arith)) (ap (λ ys. e ∷ ys) (all_pass es))

not_yet : {T : Type 0} (t : ℕ) (e : Entry T) → t ≤ e.number → t < last_number → is_covered t e ≡ false
not_yet t e le lt = or_from (nat_lt e.number t) (t == last_number) (less (nat_lt e.number t) refl) (ne_eqb t last_number (λ same. absurd (omega (arith, same, lt))))
  where
    less : (b : Bool) → nat_lt e.number t ≡ b → b ≡ false
    less true is = absurd (omega (arith, ltb-true e.number t is, le))
    less false is = refl

pub covers_push : {T : Type 0} (items new : List (Entry T)) (e : Entry T) → new ≡ items ++ e ∷ [] → KeepsCovers e.number (covered_by items) (covered_by new)
covers_push items new e are t le lt =
    ap (λ es. map seen (filter (is_covered t) es)) are ∙ (ap (map seen) (filter-append (is_covered t) items (e ∷ [])) ∙ rw (not_yet t e le lt, append-nil) refl)

pub filter_within : {T : Type 0} (p : Entry T → Bool) (xs : List (Entry T)) → Within (map seen (filter p xs)) (map seen xs)
filter_within p [] y has = has
filter_within {T} p (x ∷ xs) y has = by (p x) has (filter_within p xs y)
  where
    by : (b : Bool) → Contains (map seen (cond b (x ∷ filter p xs) (filter p xs))) y → (Contains (map seen (filter p xs)) y → Contains (map seen xs) y) → Contains (map seen (x ∷ xs)) y
    by true (zero, lt, e) more = (zero, omega arith, e)
    by true (suc i, lt, e) more = Contains-append_right (seen x ∷ []) (map seen xs) y (more (i, omega arith, e))
    by false there more = Contains-append_right (seen x ∷ []) (map seen xs) y (more there)

pub filter_kept : {T : Type 0} (p : Entry T → Bool) (es : List (Entry T)) → EachHeightOnce (map seen es) → KeepsValues (map seen (filter p es)) (map seen es)
filter_kept p es once h v found = value_at-from_contains (map seen es) (record { height = h; value = v }) once (filter_within p es _ (Contains-from_value (map seen (filter p es)) h v found))

-- a ticket that covers all
pub all_counted : {T : Type 0} (n k : ℕ) (items : List (Entry T)) → n ≡ k → AreCounted k items → covered_by items n ≡ map seen items
all_counted n k items is counted = ap (covered_by items) is ∙ ap (map seen) (filter_pass (is_covered k) items counted)

-- PRUNES

filter_swap : {X : Type 0} (p q : X → Bool) (xs : List X) → filter p (filter q xs) ≡ filter q (filter p xs)
filter_swap p q [] = refl
filter_swap {X} p q (x ∷ xs) = by (p x) (q x) refl refl (filter_swap p q xs)
  where
    by : (a b : Bool) → p x ≡ a → q x ≡ b → filter p (filter q xs) ≡ filter q (filter p xs) → filter p (cond (q x) (x ∷ filter q xs) (filter q xs)) ≡ filter q (cond (p x) (x ∷ filter p xs) (filter p xs))
    by true true is_p is_q rest = rw (is_q, is_p, is_q) (ap (λ ys. x ∷ ys) rest)
    by true false is_p is_q rest = rw (is_q, is_p, is_q) rest
    by false true is_p is_q rest = rw (is_q, is_p) rest
    by false false is_p is_q rest = rw (is_q, is_p) rest

at_index : {T : Type 0} (b c : Bool) (e : Entry T) (v : T) (o q : Option T) → (b ≡ true → c ≡ true) → (o ≡ Some v → q ≡ Some v) → cond b (Some e.item) o ≡ Some v → (c ≡ true → cond b (Some e.item) q ≡ Some v) × (c ≡ false → q ≡ Some v)
at_index true c e v o q stands more found = (λ is. found, λ is. absurd (both_ways c is (stands refl)))
at_index false c e v o q stands more found = (λ is. more found, λ is. more found)

from_kept : {T : Type 0} (min : ℕ) (es : List (Entry T)) (h : ℕ) (v : T) → min ≤ h → value_at (map seen es) h ≡ Some v → value_at (map seen (filter (λ e. nat_le min e.index) es)) h ≡ Some v
from_kept min [] h v le found = found
from_kept {T} min (e ∷ es) h v le found =
    by (nat_le min e.index) (at_index (e.index == h) (nat_le min e.index) e v (value_at (map seen es) h) (value_at (map seen (filter (λ f. nat_le min f.index) es)) h) (λ here. le-leb min e.index (omega (arith, le, eqb-true e.index h here))) (from_kept min es h v le) found)
  where
    by : (b : Bool) → (b ≡ true → value_at (map seen (e ∷ filter (λ f. nat_le min f.index) es)) h ≡ Some v) × (b ≡ false → value_at (map seen (filter (λ f. nat_le min f.index) es)) h ≡ Some v)
        → value_at (map seen (cond b (e ∷ filter (λ f. nat_le min f.index) es) (filter (λ f. nat_le min f.index) es))) h ≡ Some v
    by true found = found.0 refl
    by false found = found.1 refl

keeps_from : {T : Type 0} (min : ℕ) (es : List (Entry T)) → EachHeightOnce (map seen es) → KeepsFrom min (map seen es) (map seen (filter (λ e. nat_le min e.index) es))
keeps_from min es once = record { from = from_kept min es; only = filter_kept (λ e. nat_le min e.index) es once }

more_has : {T : Type 0} (b : Bool) (e : Entry T) (es : List (Entry T)) (x : At T) → Contains (map seen es) x → Contains (map seen (cond b (e ∷ es) es)) x
more_has true e es x there = Contains-append_right (seen e ∷ []) (map seen es) x there
more_has false e es x there = there

first_has : {T : Type 0} (b : Bool) (e : Entry T) (es : List (Entry T)) (x : At T) → b ≡ true → seen e ≡ x → Contains (map seen (cond b (e ∷ es) es)) x
first_has true e es x stays same = (zero, omega arith, same)
first_has false e es x stays same = absurd cc

-- what stands at or above a bound is kept
filter_has : {T : Type 0} (min : ℕ) (es : List (Entry T)) (x : At T) → Contains (map seen es) x → min ≤ x.height → Contains (map seen (filter (λ e. nat_le min e.index) es)) x
filter_has min [] x has le = has
filter_has min (e ∷ es) x (zero, lt, same) le = first_has (nat_le min e.index) e (filter (λ f. nat_le min f.index) es) x (le-leb min e.index (rw (ap (λ (y : At _). y.height) same) le)) same
filter_has min (e ∷ es) x (suc i, lt, same) le = more_has (nat_le min e.index) e (filter (λ f. nat_le min f.index) es) x (filter_has min es x (i, omega arith, same) le)

pruned_front : {T : Type 0} (min : ℕ) (items new : List (Entry T)) (n m : ℕ) → new ≡ filter (λ e. nat_le min e.index) items → m ≡ length (filter (λ e. nat_le min e.index) (take n items)) → take m (map seen new) ≡ map seen (filter (λ e. nat_le min e.index) (take n items))
pruned_front min items new n m are is =
    ap (λ es. take m (map seen es)) are ∙ (ap (λ k. take k (map seen (filter (λ e. nat_le min e.index) items))) is ∙ (take-map seen (length (filter (λ e. nat_le min e.index) (take n items))) (filter (λ e. nat_le min e.index) items) ∙ ap (map seen) (front_filter (λ e. nat_le min e.index) n items)))

pub prunes : {T : Type 0} (min : ℕ) (items new : List (Entry T)) (n m : ℕ) → EachHeightOnce (map seen items) → new ≡ filter (λ e. nat_le min e.index) items → m ≡ length (filter (λ e. nat_le min e.index) (take n items)) → Prunes min (kept_of items n) (kept_of new m)
prunes min items new n m once are is =
    let front = pruned_front min items new n m are is in
    record {
      held = rw are (keeps_from min items once);
      sure = rw (front, take-map seen n items) (keeps_from min (take n items) (rw (← take-map seen n items) (front_once n (map seen items) once)));
      may_from = λ x there le. rw are (filter_has min items x there le);
      may = λ x there. filter_within (λ e. nat_le min e.index) items x (rw are at there);
    }

seen_from : {T : Type 0} (min : ℕ) (es : List (Entry T)) → map seen (filter (λ e. nat_le min e.index) es) ≡ from_bound min (map seen es)
seen_from min [] = refl
seen_from {T} min (e ∷ es) =
    elim (nat_le min e.index) as (λ b. map seen (cond b (e ∷ filter (λ (f : Entry T). nat_le min f.index) es) (filter (λ f. nat_le min f.index) es)) ≡ cond b (seen e ∷ from_bound min (map seen es)) (from_bound min (map seen es)))
    [ true ↦ ap (λ xs. seen e ∷ xs) (seen_from min es) | false ↦ seen_from min es ]

-- a prune that takes out all below its bound
pub pruned_exact : {T : Type 0} (min : ℕ) (items new : List (Entry T)) (n m : ℕ) → new ≡ filter (λ e. nat_le min e.index) items → m ≡ length (filter (λ e. nat_le min e.index) (take n items)) → kept_of new m ≡ pruned_store min (kept_of items n)
pruned_exact min items new n m are is =
    let held : map seen new ≡ from_bound min (map seen items) = ap (map seen) are ∙ seen_from min items in
    let sure : take m (map seen new) ≡ from_bound min (take n (map seen items)) = pruned_front min items new n m are is ∙ (seen_from min (take n items) ∙ ap (from_bound min) (sym (take-map seen n items))) in
    rw (sure, held) refl

pub covers_pruned : {T : Type 0} (min number : ℕ) (items new : List (Entry T)) → EachHeightOnce (map seen items) → new ≡ filter (λ e. nat_le min e.index) items → KeepsCoversFrom min number (covered_by items) (covered_by new)
covers_pruned min number items new once are t le =
    rw (are, filter_swap (is_covered t) (λ e. nat_le min e.index) items) (keeps_from min (filter (is_covered t) items) (filter_once (is_covered t) items once))
