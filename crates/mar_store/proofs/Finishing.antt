-- What the finish of a ticket makes sure.
use Rattle.std.proofs.Common.{cond, false, IsNone, ◌≡◌, ◌∙◌, ◌≤◌, ◌⊎◌, inl, inr, ℕ, zero, suc, List, [], ◌∷◌, ◌++◌, Bool, true, Option, Some, None, Contains, refl, sym, ap, map, take, drop, length, arith, append-nil}
use Rattle.std.specs.Prelude.{filter}
use Rattle.std.specs.Option.{option_or}
use Rattle.std.specs.List.{AllByRecursion}
use Rattle.std.proofs.lemmas.List.{map-append, take-append-drop, take-map}
use Rattle.std.proofs.lemmas.List.Elements.{Contains-append_right, filter-append}
use Rattle.mar_store.specs.Kept.{At, EachHeightOnce, value_at}
use Rattle.mar_store.specs.Changes.{Finishes, KeepsValues}
use Rattle.mar_store.specs.Entries.{covered_by, is_covered, kept_of, seen}
use Rattle.std.specs.Prelude.{◌==◌}
use Rattle.std.proofs.lemmas.Bool.{eqb-false, ne_eqb}
use Rattle.mar_store.specs.Nested.{front_once, same_or}
use Rattle.mar_store.specs.declared.entry.Entry.{Entry}
use Rattle.mar_store.proofs.Lookups.{Contains-from_value, value_at-append, value_at-from_contains}
use Rattle.mar_store.proofs.Chosen.{filter_once}
use Rattle.mar_store.proofs.Stores.{filter_kept, filter_pass}

past : {V : Type 0} (b : Bool) (v : V) (o : Option V) → cond b (Some v) o ≡ None → (b ≡ false) × (o ≡ None)
past true v o is = absurd cc
past false v o is = (refl, is)

missing : {V : Type 0} (b : Bool) (v : V) (o : Option V) → b ≡ false → o ≡ None → cond b (Some v) o ≡ None
missing true v o other is = absurd cc
missing false v o other is = is

none_of : {V : Type 0} (o : Option V) → IsNone o → o ≡ None
none_of None is = refl
none_of (Some v) is = cc

index_apart : {T : Type 0} (bs cs : List (At T)) (x : At T) (h : ℕ) → value_at (bs ++ x ∷ cs) h ≡ None → (x.height == h) ≡ false
index_apart [] cs x h none = (past (x.height == h) x.value (value_at cs h) none).0
index_apart (b ∷ bs) cs x h none = index_apart bs cs x h (past (b.height == h) b.value (value_at (bs ++ x ∷ cs) h) none).1

not_before : {T : Type 0} (bs cs : List (At T)) (x : At T) → EachHeightOnce (bs ++ x ∷ cs) → value_at bs x.height ≡ None
not_before [] cs x once = refl
not_before (b ∷ bs) cs x once =
    let apart = index_apart bs cs x b.height (none_of (value_at (bs ++ x ∷ cs) b.height) once.0) in
    missing (b.height == x.height) b.value (value_at bs x.height) (ne_eqb b.height x.height (λ same. eqb-false x.height b.height apart (sym same))) (not_before bs cs x once.1)

-- a front at least as long keeps what a front has
longer_front : {T : Type 0} (n m : ℕ) (xs : List (At T)) → n ≤ m → KeepsValues (take n xs) (take m xs)
longer_front zero m xs le h v found = absurd cc
longer_front (suc n) zero xs le h v found = absurd (omega arith)
longer_front (suc n) (suc m) [] le h v found = found
longer_front (suc n) (suc m) (x ∷ xs) le h v found = same_or (x.height == h) (Some x.value) (value_at (take n xs) h) (value_at (take m xs) h) (Some v) (longer_front n m xs (omega arith) h v) found

-- the front is a shorter front, and what is new in it
two_fronts : {X : Type 0} (n m : ℕ) (xs : List X) → n ≤ m → take m xs ≡ take n xs ++ drop n (take m xs)
two_fronts zero m xs le = refl
two_fronts (suc n) zero xs le = absurd (omega arith)
two_fronts (suc n) (suc m) [] le = refl
two_fronts (suc n) (suc m) (x ∷ xs) le = ap (λ ys. x ∷ ys) (two_fronts n m xs (omega arith))

-- what is covered stands in the front
covered_front : {T : Type 0} (p : Entry T → Bool) (m : ℕ) (items : List (Entry T)) → filter p (drop m items) ≡ [] → filter p items ≡ filter p (take m items)
covered_front p m items none = ap (filter p) (sym (take-append-drop m items)) ∙ (filter-append p (take m items) (drop m items) ∙ (ap (λ ys. filter p (take m items) ++ ys) none ∙ append-nil (filter p (take m items))))

new_covered : {T : Type 0} (p : Entry T → Bool) (n m : ℕ) (items : List (Entry T)) → n ≤ m → AllByRecursion (λ e. p e ≡ true) (drop n (take m items)) → filter p (drop m items) ≡ [] → filter p items ≡ filter p (take n items) ++ drop n (take m items)
new_covered p n m items le all none = covered_front p m items none ∙ (ap (filter p) (two_fronts n m items le) ∙ (filter-append p (take n items) (drop n (take m items)) ∙ ap (λ ys. filter p (take n items) ++ ys) (filter_pass p (drop n (take m items)) all)))

found_either : {P : Type 0} (o q : Option P) (v : P) → option_or o q ≡ Some v → (o ≡ Some v) ⊎ (q ≡ Some v)
found_either None q v is = inr is
found_either (Some w) q v is = inl is

nothing_new : {T : Type 0} (p : Entry T → Bool) (n m : ℕ) (items fresh : List (Entry T)) → n ≤ m → m ≤ length items → EachHeightOnce (map seen items) → fresh ≡ drop n (take m items) → filter p items ≡ filter p (take n items) ++ fresh
    → KeepsValues (map seen (filter p items)) (take n (map seen items)) → m ≡ n
nothing_new p n m items [] le within once is covered keeps = short n m items le within is
  where
    short : {X : Type 0} (i j : ℕ) (xs : List X) → i ≤ j → j ≤ length xs → [] ≡ drop i (take j xs) → j ≡ i
    short zero zero xs a b e = refl
    short zero (suc j) [] a b e = absurd (omega arith)
    short zero (suc j) (x ∷ xs) a b e = absurd cc
    short (suc i) zero xs a b e = absurd (omega arith)
    short (suc i) (suc j) [] a b e = absurd (omega arith)
    short (suc i) (suc j) (x ∷ xs) a b e = ap suc (short i j xs (omega arith) (omega arith) e)
nothing_new p n m items (e ∷ es) le within once is covered keeps =
    let there : Contains (map seen (filter p items)) (seen e) = rw (covered, map-append seen (filter p (take n items)) (e ∷ es)) (Contains-append_right (map seen (filter p (take n items))) (map seen (e ∷ es)) (seen e) (zero, omega arith, refl)) in
    let found = keeps e.index e.item (value_at-from_contains (map seen (filter p items)) (seen e) (filter_once p items once) there) in
    let fronts : take m items ≡ take n items ++ e ∷ es = two_fronts n m items le ∙ ap (λ ys. take n items ++ ys) (sym is) in
    let front : map seen (take n items) ++ seen e ∷ map seen es ≡ take m (map seen items) = sym (map-append seen (take n items) (e ∷ es)) ∙ (ap (map seen) (sym fronts) ∙ sym (take-map seen m items)) in
    let none = not_before (map seen (take n items)) (map seen es) (seen e) (rw (← front) at (front_once m (map seen items) once)) in
    let clash : ◌≡◌ {A = Option _} None (Some e.item) = sym none ∙ rw (take-map seen n items) at found in
    absurd cc

pub finishes : {T : Type 0} (t : ℕ) (items new : List (Entry T)) (n m : ℕ) → new ≡ items → EachHeightOnce (map seen items) → (n ≤ m) × (m ≤ length items) × AllByRecursion (λ e. is_covered t e ≡ true) (drop n (take m items)) × (filter (is_covered t) (drop m items) ≡ [])
    → Finishes (covered_by items t) (kept_of items n) (kept_of new m)
finishes {T} t items new n m are once ends = record {
  held = ap (map seen) are;
  sure = λ h v found. rw are (longer_front n m (map seen items) ends.0 h v found);
  covered = λ h v found. rw (are, take-map seen m items) (filter_kept (is_covered t) (take m items) (rw (← take-map seen m items) (front_once m (map seen items) once)) h v (rw (covered_front (is_covered t) m items ends.3) at found));
  only = λ h v found. only h v (rw are at found);
  may = λ x there. rw are at there;
  same = λ keeps. rw (are, nothing_new (is_covered t) n m items (drop n (take m items)) ends.0 ends.1 once refl (new_covered (is_covered t) n m items ends.0 ends.2 ends.3) keeps) refl;
}
  where
    only : (h : ℕ) (v : T) → value_at (take m (map seen items)) h ≡ Some v → (value_at (take n (map seen items)) h ≡ Some v) ⊎ (value_at (covered_by items t) h ≡ Some v)
    only h v found = elim (found_either (value_at (take n (map seen items)) h) (value_at (map seen (drop n (take m items))) h) v (sym (value_at-append (take n (map seen items)) (map seen (drop n (take m items))) h) ∙ (ap (λ xs. value_at xs h) parts ∙ found))) [
      | inl old ↦ inl old
      | inr fresh ↦ inr (value_at-from_contains (covered_by items t) (record { height = h; value = v }) (filter_once (is_covered t) items once)
          (rw (new_covered (is_covered t) n m items ends.0 ends.2 ends.3, map-append seen (filter (is_covered t) (take n items)) (drop n (take m items)))
          (Contains-append_right (map seen (filter (is_covered t) (take n items))) (map seen (drop n (take m items))) _ (Contains-from_value (map seen (drop n (take m items))) h v fresh))))
    ]
      where
        parts : take n (map seen items) ++ map seen (drop n (take m items)) ≡ take m (map seen items)
        parts = ap (λ xs. xs ++ map seen (drop n (take m items))) (take-map seen n items) ∙ (sym (map-append seen (take n items) (drop n (take m items))) ∙ (ap (map seen) (sym (two_fronts n m items ends.0)) ∙ sym (take-map seen m items)))
