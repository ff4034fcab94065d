-- What a pile keeps as entries come.
use Rattle.std.proofs.Common.{◌≡◌, ◌∙◌, ◌≤◌, ◌<◌, ◌+◌, ◌^◌, ◌-◌, ℕ, zero, suc, List, [], ◌∷◌, ◌++◌, Bool, true, false, Some, cond, option_map, refl, sym, ap, map, slice_set, take, drop, length, get_or, arith, le-leb, leb-true}
use Rattle.std.proofs.lemmas.List.{map_push, take-append-le, length-map, length-append, take-map, map-append}
use Rattle.std.proofs.lemmas.List.Sums.{fold-append, fold_push}
use Rattle.std.proofs.Math.Seq.{take-add}
use Rattle.std.specs.Prelude.{fold}
use Rattle.std.specs.List.{AllByRecursion}
use Rattle.std.specs.Prelude.{nat_lt, ◌==◌, ◌||◌, ◌⊎◌, ◌≢◌}
use Rattle.std.proofs.Common.{inl, inr}
use Rattle.std.proofs.lemmas.Bool.{cases_lt}
use Rattle.std.proofs.lemmas.Bool.{or_left, or_right, eq-eqb, eqb-true, eqb-false, lt-ltb, ltb-true}
use Rattle.mar_store.specs.Tickets.{last_number}
use Rattle.mar_types.specs.Places.{first_place}
use Rattle.mar_store.specs.Kept.{At, EachHeightOnce}
use Rattle.mar_store.specs.Changes.{heights}
use Rattle.mar_store.specs.Named.{EachNameOnce, is_taken}
use Rattle.mar_store.specs.Ranges.{Range, ranges, with_height}
use Rattle.mar_store.specs.RangeLemmas.{ranges_push}
use Rattle.mar_store.specs.Entries.{AreCounted, is_covered, AreFitting, AreUpto, Ascend, next_number, seen}
use Rattle.mar_store.specs.declared.entry.Entry.{Entry}
use Rattle.mar_store.proofs.Lookups.{AllByRecursion-push, AllByRecursion-weaker, EachHeightOnce-push}
use Rattle.mar_store.proofs.NamesOnce.{EachNameOnce-push, free_index, free_name}

pub push_within : {T : Type 0} (items new : List (Entry T)) (e : Entry T) (n : ℕ) → n ≤ length items → new ≡ items ++ e ∷ [] → n ≤ length new
push_within items new e n within are = rw (are, length-append) (omega (arith, within))

pub push_once : {T : Type 0} (name : T → List ℕ) (items new : List (Entry T)) (e : Entry T) → new ≡ items ++ e ∷ [] → is_taken name (map seen items) (seen e) ≡ false → EachHeightOnce (map seen items) → EachHeightOnce (map seen new)
push_once name items new e are free once = rw (are, map_push seen items e) (EachHeightOnce-push (map seen items) e.index e.item once (free_index name (map seen items) (seen e) free))

pub push_named : {T : Type 0} (name : T → List ℕ) (items new : List (Entry T)) (e : Entry T) → new ≡ items ++ e ∷ [] → is_taken name (map seen items) (seen e) ≡ false → EachNameOnce name (map seen items) → EachNameOnce name (map seen new)
push_named name items new e are free once = rw (are, map_push seen items e) (EachNameOnce-push name (map seen items) (seen e) once (free_name name (map seen items) (seen e) free))

pub push_fits : {T : Type 0} (fits : ℕ → T → Bool) (items new : List (Entry T)) (e : Entry T) → new ≡ items ++ e ∷ [] → fits e.index e.item ≡ true → AreFitting fits (map seen items) → AreFitting fits (map seen new)
push_fits fits items new e are fit all = rw (are, map_push seen items e) (AllByRecursion-push (λ x. fits x.height x.value ≡ true) (map seen items) (seen e) all fit)

ascend_more : {T : Type 0} (items : List (Entry T)) (e : Entry T) → Ascend items → AreUpto e.number items → Ascend (items ++ e ∷ [])
ascend_more [] e up upto = (tt, tt)
ascend_more (f ∷ fs) e up upto = (AllByRecursion-push _ fs e up.0 upto.0, ascend_more fs e up.1 upto.1)

pub push_ascend : {T : Type 0} (items new : List (Entry T)) (e : Entry T) → new ≡ items ++ e ∷ [] → Ascend items → AreUpto e.number items → Ascend new
push_ascend items new e are up upto = rw are (ascend_more items e up upto)

pub push_upto : {T : Type 0} (items new : List (Entry T)) (e : Entry T) (n : ℕ) → new ≡ items ++ e ∷ [] → n ≡ next_number e.number → e.number ≤ 2 ^ 64 - 1 → AreUpto e.number items → AreUpto n new
push_upto items new e n are next small upto =
    let more : e.number ≤ n = omega arith in
    rw are (AllByRecursion-push _ items e (AllByRecursion-weaker _ _ (λ f below. le-leb f.number n (omega (arith, leb-true f.number e.number below, more))) items upto) (le-leb e.number n more))

-- what a ticket covers the next one covers
covered_next : {T : Type 0} (k n : ℕ) (f : Entry T) → n ≡ next_number k → k ≤ 2 ^ 64 - 1 → is_covered k f ≡ true → is_covered n f ≡ true
covered_next {T} k n f next small was = later (k == last_number) refl
  where
    only : (a c : Bool) → (a || c) ≡ true → c ≡ false → a ≡ true
    only true c is no_c = refl
    only false true is no_c = absurd cc
    only false false is no_c = is

    later : (b : Bool) → (k == last_number) ≡ b → is_covered n f ≡ true
    later true same = or_right (nat_lt f.number n) (n == last_number) (eq-eqb n last_number (omega (arith, eqb-true k last_number same, next)))
    later false other =
        let under : f.number < k = ltb-true f.number k (only (nat_lt f.number k) (k == last_number) was other) in
        let apart : k ≢ last_number = eqb-false k last_number other in
        or_left (nat_lt f.number n) (n == last_number) (lt-ltb f.number n (omega (arith, under, next, small, apart)))

pub push_counted : {T : Type 0} (items new : List (Entry T)) (e : Entry T) (n : ℕ) → new ≡ items ++ e ∷ [] → n ≡ next_number e.number → e.number ≤ 2 ^ 64 - 1 → AreCounted e.number items → AreCounted n new
push_counted {T} items new e n are next small counted = rw are (AllByRecursion-push _ items e (AllByRecursion-weaker _ _ (λ f was. covered_next e.number n f next small was) items counted) (by (cases_lt e.number n)))
  where
    by : (e.number < n) ⊎ (n ≤ e.number) → is_covered n e ≡ true
    by (inl less) = or_left (nat_lt e.number n) (n == last_number) (lt-ltb e.number n less)
    by (inr more) = or_right (nat_lt e.number n) (n == last_number) (eq-eqb n last_number (omega (arith, more, next)))

-- one more change is counted
pub count_upto : {T : Type 0} (items : List (Entry T)) (k n : ℕ) → n ≡ next_number k → k ≤ 2 ^ 64 - 1 → AreUpto k items → AreUpto n items
count_upto items k n next small upto = AllByRecursion-weaker _ _ (λ f below. le-leb f.number n (omega (arith, leb-true f.number k below, next, small))) items upto

pub count_counted : {T : Type 0} (items : List (Entry T)) (k n : ℕ) → n ≡ next_number k → k ≤ 2 ^ 64 - 1 → AreCounted k items → AreCounted n items
count_counted items k n next small counted = AllByRecursion-weaker _ _ (λ f was. covered_next k n f next small was) items counted

-- entries that are numbered anew
abbrev pub AreFirst : {T : Type 0} → List (Entry T) → Type 0
AreFirst items = AllByRecursion (λ e. e.number ≡ 0) items

pub first_ascend : {T : Type 0} (items : List (Entry T)) → AreFirst items → Ascend items
first_ascend [] first = tt
first_ascend (e ∷ es) first = (AllByRecursion-weaker _ _ (λ f is. le-leb e.number f.number (omega (arith, first.0, is))) es first.1, first_ascend es first.1)

pub first_upto : {T : Type 0} (items : List (Entry T)) (n : ℕ) → AreFirst items → AreUpto n items
first_upto items n first = AllByRecursion-weaker _ _ (λ f is. le-leb f.number n (omega (arith, is))) items first

pub first_counted : {T : Type 0} (items : List (Entry T)) (n : ℕ) → (0 < length items → n ≡ 1) → AreFirst items → AreCounted n items
first_counted [] n one first = tt
first_counted (e ∷ es) n one first = let is : n ≡ 1 = one (omega arith) in (under e is first.0, first_counted es n (λ some. is) first.1)
  where
    under : {T : Type 0} (f : Entry T) → n ≡ 1 → f.number ≡ 0 → is_covered n f ≡ true
    under f one none = or_left (nat_lt f.number n) (n == last_number) (lt-ltb f.number n (omega (arith, one, none)))

-- the first place where a test passes, by entries as they are seen
seen_place : {T : Type 0} (p : At T → Bool) (items : List (Entry T)) → first_place (λ e. p (seen e)) items ≡ first_place p (map seen items)
seen_place p [] = refl
seen_place p (e ∷ es) = ap (λ o. cond (p (seen e)) (Some 0) (option_map suc o)) (seen_place p es)

pub same_places : {T : Type 0} (p : At T → Bool) (items new : List (Entry T)) → map seen new ≡ map seen items → first_place (λ e. p (seen e)) new ≡ first_place (λ e. p (seen e)) items
same_places p items new are = seen_place p new ∙ (ap (first_place p) are ∙ sym (seen_place p items))

-- one entry more gets the number 0
abbrev anew : {T : Type 0} → Entry T → Entry T
anew e = record { index = e.index; number = 0; item = e.item }

pub anew_seen : {T : Type 0} (items : List (Entry T)) (i : ℕ) (e : Entry T) → i < length items → e ≡ get_or items i e → map seen (slice_set items i (anew e)) ≡ map seen items
anew_seen [] i e lt at = absurd (omega (arith, lt))
anew_seen (x ∷ xs) zero e lt at = ap (λ y. seen y ∷ map seen xs) at
anew_seen (x ∷ xs) (suc i) e lt at = ap (λ ys. seen x ∷ ys) (anew_seen xs i e (omega (arith, lt)) at)

pub anew_first : {T : Type 0} (items : List (Entry T)) (i : ℕ) (e : Entry T) → i < length items → AreFirst (take i items) → AreFirst (take (suc i) (slice_set items i (anew e)))
anew_first [] i e lt first = absurd (omega (arith, lt))
anew_first (x ∷ xs) zero e lt first = (refl, tt)
anew_first (x ∷ xs) (suc i) e lt first = (first.0, anew_first xs i e (omega (arith, lt)) first.1)

pub same_length : {T : Type 0} (items new : List (Entry T)) → map seen new ≡ map seen items → length new ≡ length items
same_length items new are = omega (arith, ap length are, length-map new seen, length-map items seen)

pub push_held : {T : Type 0} (items new : List (Entry T)) (e : Entry T) (old held : List Range) → new ≡ items ++ e ∷ [] → old ≡ ranges (heights (map seen items)) → held ≡ with_height e.index old → held ≡ ranges (heights (map seen new))
push_held items new e old held are was is =
    is ∙ (ap (with_height e.index) was ∙ (sym (ranges_push (heights (map seen items)) e.index) ∙ ap ranges (sym (ap (λ es. heights (map seen es)) are ∙ (ap heights (map_push seen items e) ∙ map_push (λ x. x.height) (map seen items) (seen e))))))

pub push_sure : {T : Type 0} (items new : List (Entry T)) (e : Entry T) (n : ℕ) (sure : List Range) → n ≤ length items → new ≡ items ++ e ∷ [] → sure ≡ ranges (heights (take n (map seen items))) → sure ≡ ranges (heights (take n (map seen new)))
push_sure items new e n sure within are is =
    is ∙ ap (λ xs. ranges (heights xs)) (sym (ap (λ es. take n (map seen es)) are ∙ (ap (take n) (map_push seen items e) ∙ take-append-le n (map seen items) (seen e ∷ []) (rw length-map within))))

-- the front with one more entry
front_more : {T : Type 0} (items : List (Entry T)) (i : ℕ) (e : Entry T) → i < length items → e ≡ get_or items i e → take (i + 1) (map seen items) ≡ take i (map seen items) ++ seen e ∷ []
front_more [] i e lt is = absurd (omega arith)
front_more (f ∷ fs) zero e lt is = rw is refl
front_more (f ∷ fs) (suc i) e lt is = let same : suc i + 1 ≡ suc (i + 1) = omega arith in rw same (ap (λ xs. seen f ∷ xs) (front_more fs i e (omega arith) is))

-- the index of one more entry in the ranges
pub widened_more : {T : Type 0} (entries : List (Entry T)) (i h : ℕ) (e : Entry T) (base old new : List Range) → i < length entries → e ≡ get_or entries i e → e.index ≡ h
    → old ≡ fold (λ rs k. with_height k rs) base (heights (map seen (take i entries))) → new ≡ with_height h old → new ≡ fold (λ rs h. with_height h rs) base (heights (map seen (take (i + 1) entries)))
widened_more entries i h e base old new lt at here was is =
    let more : heights (map seen (take (i + 1) entries)) ≡ heights (map seen (take i entries)) ++ e.index ∷ [] =
    ap heights (sym (take-map seen (i + 1) entries) ∙ (front_more entries i e lt at ∙ ap (λ xs. xs ++ seen e ∷ []) (take-map seen i entries))) ∙ map_push (λ x. x.height) (map seen (take i entries)) (seen e) in
    is ∙ (rw (← here) (ap (with_height e.index) was) ∙ sym (ap (fold (λ rs h. with_height h rs) base) more ∙ fold_push (λ rs h. with_height h rs) base (heights (map seen (take i entries))) e.index))

-- all entries below a place are sure
pub sure_all : {T : Type 0} (items part : List (Entry T)) (n m : ℕ) (old new : List Range) → n ≤ m → part ≡ take (m - n) (drop n items) → old ≡ ranges (heights (take n (map seen items)))
    → new ≡ fold (λ rs h. with_height h rs) old (heights (map seen part)) → new ≡ ranges (heights (take m (map seen items)))
sure_all items part n m old new le is was are =
    let count : m ≡ n + (m - n) = omega (arith, le) in
    let front : take m items ≡ take n items ++ part = ap (λ k. take k items) count ∙ (take-add n (m - n) items ∙ ap (λ es. take n items ++ es) (sym is)) in
    let high : heights (take m (map seen items)) ≡ heights (take n (map seen items)) ++ heights (map seen part) =
    ap heights (take-map seen m items ∙ (ap (map seen) front ∙ map-append seen (take n items) part)) ∙ (map-append (λ x. x.height) (map seen (take n items)) (map seen part) ∙ ap (λ xs. heights xs ++ heights (map seen part)) (sym (take-map seen n items))) in
    are ∙ (ap (λ rs. fold (λ qs h. with_height h qs) rs (heights (map seen part))) was ∙ (sym (fold-append (λ rs h. with_height h rs) [] (heights (take n (map seen items))) (heights (map seen part))) ∙ ap ranges (sym high)))
