-- What calls of a shelf leave where they fail after others went well.
use Rattle.std.proofs.Common.{◌≡◌, ◌⊎◌, inl, inr, ◌≤◌, ◌<◌, ◌+◌, get_or, length, ℕ, zero, suc, List, [], ◌∷◌, ◌++◌, Bool, true, false, IsTrue, Contains, cond, refl, ap, sym, ◌∙◌, subst, filter, Result, Ok, Err, IfErr, IfOk, MatchResult, None, Some, arith}
use Rattle.std.specs.List.{AllByRecursion, list_any}
use Rattle.std.proofs.lemmas.Bool.{cases_eq, eq-eqb}
use Rattle.std.proofs.lemmas.List.Elements.{Contains-append_cases, Contains-append_left, Contains-append_right}
use Rattle.mar_store.specs.Changes.{Within}
use Rattle.mar_store.specs.Lost.{wreck_of}
use Rattle.mar_store.specs.declared.Lost.{Lost}
use Rattle.mar_store.proofs.Lookups.{AllByRecursion-weaker}
use Rattle.mar_model.specs.Cached.{Cached, same_place}
use Rattle.mar_epochs.specs.EpochArchives.{Book, held_after, is_kept, puts_of}
use Rattle.mar_model.specs.declared.Section.{Section}
use Rattle.mar_model.specs.declared.Started.TheVariants.{Ready, Ticket}
use Rattle.mar_epochs.specs.EpochStates.{ChangesEpoch, IsTicket, IsNestedEpoch, MightBe, is_opened, KeepsOtherEpochs, LeavesEpoch, LosesEpoch, OpensEpoch, EpochState, EpochStates, left_of_epoch, opened, shut}
use Rattle.mar_cache.specs.Shelved.{AllChanges, at_epoch, IsStarted, DoesAt, OpensOrStays, GrowsEpoch, GrowsEpochs, LeavesEpochs}
use Rattle.mar_epochs.specs.declared.Change.{Change}
use Rattle.mar_epochs.specs.declared.Change.TheVariants.{Finish, PruneBelow, PruneCertified, Put, Sync}
use Rattle.mar_epochs.proofs.Filtering.{contains_more, contains_none}

pub filter_contains : {A : Type 0} (test : A → Bool) (xs : List A) (x : A) → Contains xs x → test x ≡ true → Contains (filter test xs) x
filter_contains test [] x has passes = has
filter_contains {A} test (y ∷ ys) x has passes = by (test y) refl has (λ has'. filter_contains test ys x has' passes)
  where
    by : (b : Bool) → test y ≡ b → Contains (y ∷ ys) x → (Contains ys x → Contains (filter test ys) x) → Contains (cond b (y ∷ filter test ys) (filter test ys)) x
    by true is (zero, lt, e) rest = (zero, omega arith, e)
    by true is (suc k, lt, e) rest = contains_more y (filter test ys) x (rest (k, omega arith, e))
    by false is (zero, lt, e) rest = absurd (let no_pass : false ≡ true = sym is ∙ ap test e ∙ passes in cc)
    by false is (suc k, lt, e) rest = rest (k, omega arith, e)

-- what is held and isn't pruned is held after a change
pub held_kept : {E : Type 0} (plain : E → Cached) (change : Change E) (held : List Cached) (x : Cached) → Contains held x → IsTrue (is_kept change x) → Contains (held_after plain change held) x
held_kept plain (Put entry) held x has kept = by (list_any (same_place (plain entry)) held)
  where
    by : (b : Bool) → Contains (cond b held (held ++ plain entry ∷ [])) x
    by true = has
    by false = Contains-append_left held (plain entry ∷ []) x has
held_kept plain (Sync s) held x has kept = has
held_kept plain (Finish s n) held x has kept = has
held_kept plain (PruneBelow r) held x has kept = filter_contains _ held x has kept
held_kept plain (PruneCertified h) held x has kept = filter_contains _ held x has kept

-- WHAT MAY BE LEFT OF THE BOUNDS

pub bounds_stay : {X : Type 0} (xs ys : List X) → Within xs (xs ++ ys)
bounds_stay xs ys x has = Contains-append_left xs ys x has

pub raised_within : {X : Type 0} (b : Bool) (old : List X) (r : X) (left : List X) → left ≡ cond b old (r ∷ []) → Within left (old ++ r ∷ [])
raised_within true old r left is x has = Contains-append_left old (r ∷ []) x (subst (λ ys. Contains ys x) is has)
raised_within false old r left is x has = Contains-append_right old (r ∷ []) x (subst (λ ys. Contains ys x) is has)

-- A CRASH, AND A CALL THAT FAILED

pub leaves_itself : (put : List Cached) (gone : Cached → Bool) (t : EpochState) → IsNestedEpoch t → LeavesEpoch put gone t (left_of_epoch t)
leaves_itself put gone (opened b) nested = record { sure = λ x has stays. has; held = λ x has stays. nested.held_may x has; may = λ x has. inl has }
leaves_itself put gone (shut l) nested = record { sure = λ x has stays. has; held = λ x has stays. contains_none x has; may = λ x has. inl has }

module _ (put : ℕ → List Cached) (gone : ℕ → Cached → Bool) (old : EpochStates) (nested : (k : ℕ) → IsNestedEpoch (old k)) where
  pub fallen_leaves : (ways : List EpochStates) → AllByRecursion (λ left. (k : ℕ) → left k ≡ left_of_epoch (old k)) ways → AllByRecursion (LeavesEpochs put gone old) ways
  fallen_leaves ways all = AllByRecursion-weaker _ _ (λ left same k. subst (LeavesEpoch (put k) (gone k) (old k)) (sym (same k)) (leaves_itself (put k) (gone k) (old k) (nested k))) ways all

  pub loses_leaves : (e : ℕ) (more : List Cached) (lets : Cached → Bool) (ways : List EpochStates) → Within more (put e) → ((x : Cached) → gone e x ≡ false → lets x ≡ false) → AllByRecursion (LosesEpoch e (old e) more lets old) ways → AllByRecursion (LeavesEpochs put gone old) ways
  loses_leaves e more lets ways wider fewer all = AllByRecursion-weaker _ _ (λ left lost k. by left lost k (cases_eq k e)) ways all
    where
      by : (left : EpochStates) → LosesEpoch e (old e) more lets old left → (k : ℕ) → (k ≡ e) ⊎ (k ≡ e → ⊥) → LeavesEpoch (put k) (gone k) (old k) (left k)
      by left lost k (inl same) = subst (λ j. LeavesEpoch (put j) (gone j) (old j) (left j)) (sym same) (record {
        sure = λ x has stays. lost.here.sure x has (fewer x stays);
        held = λ x has stays. lost.here.held x has (fewer x stays);
        may = λ x has. elim (lost.here.may x has) [ inl before ↦ inl before | inr new ↦ inr (wider x new) ];
      })
      by left lost k (inr other) = subst (LeavesEpoch (put k) (gone k) (old k)) (sym (lost.others k other)) (leaves_itself (put k) (gone k) (old k) (nested k))

-- what a call leaves that failed behind one that changed no epoch
pub same_leaves : {S W : Type 0} (ways : W → List EpochStates) (put : ℕ → List Cached) (gone : ℕ → Cached → Bool) (old new : EpochStates) (r : Result S (Lost W)) → ((k : ℕ) → new k ≡ old k) → IfErr r (λ l. AllByRecursion (LeavesEpochs put gone new) (ways (wreck_of l))) → IfErr r (λ l. AllByRecursion (LeavesEpochs put gone old) (ways (wreck_of l)))
same_leaves ways put gone old new (Ok s) same all = tt
same_leaves ways put gone old new (Err l) same all = AllByRecursion-weaker _ _ (λ left leaves k. subst (λ t. LeavesEpoch (put k) (gone k) t (left k)) (same k) (leaves k)) (ways (wreck_of l)) all

-- CALLS THAT WENT WELL

pub grows_itself : (put : List Cached) (gone : Cached → Bool) (t : EpochState) → GrowsEpoch put gone t t
grows_itself put gone t = record { sure = λ x has stays. has; held = λ x has stays. has; may = λ x has. inl has }

pub opens_grows : (put : List Cached) (gone : Cached → Bool) (t u : EpochState) → OpensEpoch t u → GrowsEpoch put gone t u
opens_grows put gone (opened b) u is = subst (GrowsEpoch put gone (opened b)) (sym is) (grows_itself put gone (opened b))
opens_grows put gone (shut l) u (b, found, is) = subst (GrowsEpoch put gone (shut l)) (sym is) (subst (λ kept. GrowsEpoch put gone (shut l) (opened (record b { kept = kept }))) (sym found.is) (record {
  sure = λ x has stays. found.reopens.with_sure x has;
  held = λ x has stays. contains_none x has;
  may = λ x has. inl (found.reopens.within_may x has);
}))

pub changes_grows : {E : Type 0} (plain : E → Cached) (change : Change E) (put : List Cached) (gone : Cached → Bool) (t u : EpochState) → Within (puts_of plain change) put → ((x : Cached) → gone x ≡ false → IsTrue (is_kept change x)) → ChangesEpoch plain change t u → GrowsEpoch put gone t u
changes_grows plain change put gone (opened b) u wider fewer (c, does, is) = subst (GrowsEpoch put gone (opened b)) (sym is) (record {
  sure = λ x has stays. does.sure x has (fewer x stays);
  held = λ x has stays. subst (λ ys. Contains ys x) (sym does.held) (held_kept plain change b.kept.held x has (fewer x stays));
  may = λ x has. elim (Contains-append_cases b.kept.may (puts_of plain change) x (does.may x has)) [ inl before ↦ inl before | inr new ↦ inr (wider x new) ];
})
changes_grows plain change put gone (shut l) u wider fewer is = subst (GrowsEpoch put gone (shut l)) (sym is) (grows_itself put gone (shut l))

grows_leaves : (put : List Cached) (gone : Cached → Bool) (t u x : EpochState) → GrowsEpoch put gone t u → LeavesEpoch put gone u x → LeavesEpoch put gone t x
grows_leaves put gone t u x grows leaves = record {
  sure = λ y has stays. leaves.sure y (grows.sure y has stays) stays;
  held = λ y has stays. leaves.held y (grows.held y has stays) stays;
  may = λ y has. elim (leaves.may y has) [ inl before ↦ grows.may y before | inr new ↦ inr new ];
}

-- a call that failed after others went well
pub grown_leaves : (put : ℕ → List Cached) (gone : ℕ → Cached → Bool) (old mid : EpochStates) (ways : List EpochStates) → GrowsEpochs put gone old mid → AllByRecursion (LeavesEpochs put gone mid) ways → AllByRecursion (LeavesEpochs put gone old) ways
grown_leaves put gone old mid ways grows all = AllByRecursion-weaker _ _ (λ left leaves k. grows_leaves (put k) (gone k) (old k) (mid k) (left k) (grows k) (leaves k)) ways all

pub grows_at : (put : ℕ → List Cached) (gone : ℕ → Cached → Bool) (e : ℕ) (old mid : EpochStates) → GrowsEpoch (put e) (gone e) (old e) (mid e) → KeepsOtherEpochs e old mid → GrowsEpochs put gone old mid
grows_at put gone e old mid here others k = by (cases_eq k e)
  where
    by : (k ≡ e) ⊎ (k ≡ e → ⊥) → GrowsEpoch (put k) (gone k) (old k) (mid k)
    by (inl same) = subst (λ j. GrowsEpoch (put j) (gone j) (old j) (mid j)) (sym same) here
    by (inr other) = subst (GrowsEpoch (put k) (gone k) (old k)) (sym (others k other)) (grows_itself (put k) (gone k) (old k))

pub grows_then : (put : List Cached) (gone : Cached → Bool) (t u v : EpochState) → GrowsEpoch put gone t u → GrowsEpoch put gone u v → GrowsEpoch put gone t v
grows_then put gone t u v first second = record {
  sure = λ x has stays. second.sure x (first.sure x has stays) stays;
  held = λ x has stays. second.held x (first.held x has stays) stays;
  may = λ x has. elim (second.may x has) [ inl before ↦ first.may x before | inr new ↦ inr new ];
}

-- an epoch was opened and changed
pub does_grow : {E : Type 0} (plain : E → Cached) (change : Change E) (put : ℕ → List Cached) (gone : ℕ → Cached → Bool) (e : ℕ) (old new : EpochStates) → Within (puts_of plain change) (put e) → ((x : Cached) → gone e x ≡ false → IsTrue (is_kept change x)) → DoesAt plain e (change ∷ []) old new → GrowsEpochs put gone old new
does_grow plain change put gone e old new wider fewer does =
    grows_at put gone e old new (subst (GrowsEpoch (put e) (gone e) (old e)) (sym does.done.2) (grows_then (put e) (gone e) (old e) does.mid does.done.0 (opens_grows (put e) (gone e) (old e) does.mid does.opens) (changes_grows plain change (put e) (gone e) does.mid does.done.0 wider fewer does.done.1))) does.others

pub does_once : {E S W : Type 0} (plain : E → Cached) (states : S → EpochStates) (Q : Lost W → Type 0) (e : ℕ) (change : Change E) (old mid : EpochStates) (r : Result S (Lost W)) → OpensEpoch (old e) (mid e) × KeepsOtherEpochs e old mid → MatchResult r (λ s. ChangesEpoch plain change (mid e) (states s e) × KeepsOtherEpochs e mid (states s)) Q → IfOk r (λ s. DoesAt plain e (change ∷ []) old (states s))
does_once plain states Q e change old mid (Ok s) opens does = record { mid = mid e; opens = opens.0; done = (states s e, does.0, refl); others = λ k other. does.1 k other ∙ opens.1 k other }
does_once plain states Q e change old mid (Err l) opens does = tt

-- an epoch was changed twice
pub changes_twice : {E S W : Type 0} (plain : E → Cached) (states : S → EpochStates) (Q : Lost W → Type 0) (e : ℕ) (first second : Change E) (old mid : EpochStates) (r : Result S (Lost W)) → ChangesEpoch plain first (old e) (mid e) × KeepsOtherEpochs e old mid → MatchResult r (λ s. ChangesEpoch plain second (mid e) (states s e) × KeepsOtherEpochs e mid (states s)) Q → IfOk r (λ s. AllChanges plain (first ∷ second ∷ []) (old e) (states s e) × KeepsOtherEpochs e old (states s))
changes_twice plain states Q e first second old mid (Ok s) before does = ((mid e, before.0, (states s e, does.0, refl)), λ k other. does.1 k other ∙ before.1 k other)
changes_twice plain states Q e first second old mid (Err l) before does = tt

-- an epoch was opened and changed, and then changed again
pub does_then : {E S W : Type 0} (plain : E → Cached) (states : S → EpochStates) (Q : Lost W → Type 0) (e : ℕ) (first second : Change E) (old mid : EpochStates) (r : Result S (Lost W)) → DoesAt plain e (first ∷ []) old mid → MatchResult r (λ s. ChangesEpoch plain second (mid e) (states s e) × KeepsOtherEpochs e mid (states s)) Q → IfOk r (λ s. DoesAt plain e (first ∷ second ∷ []) old (states s))
does_then plain states Q e first second old mid (Ok s) does then = record {
  mid = does.mid;
  opens = does.opens;
  done = (does.done.0, does.done.1, (states s e, subst (λ t. ChangesEpoch plain second t (states s e)) does.done.2 then.0, refl));
  others = λ k other. then.1 k other ∙ does.others k other;
}
does_then plain states Q e first second old mid (Err l) does then = tt

-- what a call leaves that failed at its end, after others went well
pub end_leaves : {S W : Type 0} (P : S → Type 0) (ways : W → List EpochStates) (put : ℕ → List Cached) (gone : ℕ → Cached → Bool) (e : ℕ) (more : List Cached) (lets : Cached → Bool) (old mid : EpochStates) (r : Result S (Lost W))
    → ((k : ℕ) → IsNestedEpoch (mid k)) → Within more (put e) → ((x : Cached) → gone e x ≡ false → lets x ≡ false) → GrowsEpochs put gone old mid
    → MatchResult r P (λ l. AllByRecursion (LosesEpoch e (mid e) more lets mid) (ways (wreck_of l))) → IfErr r (λ l. AllByRecursion (LeavesEpochs put gone old) (ways (wreck_of l)))
end_leaves P ways put gone e more lets old mid (Ok s) nested wider fewer grows done = tt
end_leaves P ways put gone e more lets old mid (Err l) nested wider fewer grows done = grown_leaves put gone old mid (ways (wreck_of l)) grows (loses_leaves put gone mid nested e more lets (ways (wreck_of l)) wider fewer done)

pub end_bounds : {S W X : Type 0} (left : W → List X) (b : Bool) (old : List X) (new : X) (mid : List X) (r : Result S (Lost W)) → mid ≡ cond b old (new ∷ []) → IfErr r (λ l. left (wreck_of l) ≡ mid) → IfErr r (λ l. Within (left (wreck_of l)) (old ++ new ∷ []))
end_bounds left b old new mid (Ok s) is same = tt
end_bounds left b old new mid (Err l) is same = raised_within b old new (left (wreck_of l)) (same ∙ is)

-- what is put in one epoch
pub at_own : (e : ℕ) (xs : List Cached) → Within xs (at_epoch e xs e)
at_own e xs x has = subst (λ b. Contains (cond b xs []) x) (sym (eq-eqb e e refl)) has

-- OPENINGS ONE AFTER ANOTHER

pub stays_grow : (put : List Cached) (gone : Cached → Bool) (t u : EpochState) → OpensOrStays t u → GrowsEpoch put gone t u
stays_grow put gone t u (inl same) = subst (GrowsEpoch put gone t) (sym same) (grows_itself put gone t)
stays_grow put gone t u (inr opens) = opens_grows put gone t u opens

is_open_then : (t u : EpochState) → OpensEpoch t u → (b : Book) × (u ≡ opened b)
is_open_then (opened b) u is = (b, is)
is_open_then (shut l) u (b, found, is) = (b, is)

pub stays_then : (t u v : EpochState) → OpensOrStays t u → OpensOrStays u v → OpensOrStays t v
stays_then t u v first (inl same) = subst (OpensOrStays t) (sym same) first
stays_then t u v (inl same) (inr opens) = inr (subst (λ w. OpensEpoch w v) same opens)
stays_then t u v (inr before) (inr opens) =
    let open_now = is_open_then t u before in
    let same : v ≡ u = subst (λ w. OpensEpoch w v) open_now.1 opens ∙ sym open_now.1 in
    inr (subst (OpensEpoch t) (sym same) before)

pub step_stays : (e : ℕ) (old mid new : EpochStates) → ((k : ℕ) → OpensOrStays (old k) (mid k)) → OpensOrStays (mid e) (new e) → KeepsOtherEpochs e mid new → (k : ℕ) → OpensOrStays (old k) (new k)
step_stays e old mid new before here others k = by (cases_eq k e)
  where
    by : (k ≡ e) ⊎ (k ≡ e → ⊥) → OpensOrStays (old k) (new k)
    by (inl same) = subst (λ j. OpensOrStays (old j) (new j)) (sym same) (stays_then (old e) (mid e) (new e) (before e) here)
    by (inr other) = subst (OpensOrStays (old k)) (sym (others k other)) (before k)

opened_one : (t u : EpochState) → OpensOrStays t u → is_opened t ≡ true → is_opened u ≡ true
opened_one t u (inl same) is = ap is_opened same ∙ is
opened_one (opened b) u (inr opens) is = ap is_opened opens
opened_one (shut l) u (inr opens) is = absurd cc

pub opened_stays : (e : ℕ) (mid new : EpochStates) → OpensOrStays (mid e) (new e) → KeepsOtherEpochs e mid new → (k : ℕ) → is_opened (mid k) ≡ true → is_opened (new k) ≡ true
opened_stays e mid new here others k is = by (cases_eq k e)
  where
    by : (k ≡ e) ⊎ (k ≡ e → ⊥) → is_opened (new k) ≡ true
    by (inl same) = subst (λ j. is_opened (new j) ≡ true) (sym same) (opened_one (mid e) (new e) here (subst (λ j. is_opened (mid j) ≡ true) same is))
    by (inr other) = ap is_opened (others k other) ∙ is

-- the epochs of a list so far that pass are open, and so is the next
pub opened_more : (states : EpochStates) (es : List ℕ) (place : ℕ) (test : ℕ → Bool) → ((j : ℕ) → j < place → test (get_or es j 0) ≡ true → is_opened (states (get_or es j 0)) ≡ true) → (test (get_or es place 0) ≡ true → is_opened (states (get_or es place 0)) ≡ true)
    → (j : ℕ) → j < place + 1 → test (get_or es j 0) ≡ true → is_opened (states (get_or es j 0)) ≡ true
opened_more states es place test before here j less passes = by (cases_eq j place)
  where
    by : (j ≡ place) ⊎ (j ≡ place → ⊥) → is_opened (states (get_or es j 0)) ≡ true
    by (inl same) = subst (λ i. is_opened (states (get_or es i 0)) ≡ true) (sym same) (here (subst (λ i. test (get_or es i 0) ≡ true) same passes))
    by (inr other) = before j (omega (arith, less, other)) passes

-- an epoch that doesn't pass stays as it was, where the one at hand changes only if it passes
pub outside_stays : (test : ℕ → Bool) (e : ℕ) (old mid new : EpochStates) → ((k : ℕ) → test k ≡ false → mid k ≡ old k) → (test e ≡ false → (k : ℕ) → new k ≡ mid k) → KeepsOtherEpochs e mid new → (k : ℕ) → test k ≡ false → new k ≡ old k
outside_stays test e old mid new before here others k fails = by (cases_eq k e)
  where
    by : (k ≡ e) ⊎ (k ≡ e → ⊥) → new k ≡ old k
    by (inl same) = here (subst (λ j. test j ≡ false) same fails) k ∙ before k fails
    by (inr other) = others k other ∙ before k fails

pub index_default : (xs : List ℕ) (j a b : ℕ) → j < length xs → get_or xs j a ≡ get_or xs j b
index_default [] j a b less = absurd (omega (arith, less))
index_default (x ∷ xs) zero a b less = refl
index_default (x ∷ xs) (suc j) a b less = index_default xs j a b (omega (arith, less))

pub get_contains : (xs : List ℕ) (j k : ℕ) → j < length xs → get_or xs j 0 ≡ k → Contains xs k
get_contains xs j k less is = (j, less, index_default xs j k 0 less ∙ is)

pub opened_all : (states : EpochStates) (es : List ℕ) (place : ℕ) (test : ℕ → Bool) → length es ≤ place → ((j : ℕ) → j < place → test (get_or es j 0) ≡ true → is_opened (states (get_or es j 0)) ≡ true) → (k : ℕ) → test k ≡ true → Contains es k → is_opened (states k) ≡ true
opened_all states es place test over all k passes (j, less, is) =
    let at : get_or es j 0 ≡ k = index_default es j 0 k less ∙ is in
    subst (λ e. is_opened (states e) ≡ true) at (all j (omega (arith, over, less)) (subst (λ e. test e ≡ true) (sym at) passes))

-- what is left of a reopened shelf might have been left before
pub reopened_ways : (before ways : List EpochStates) (states : EpochStates) → MightBe before states → ((k : ℕ) → is_opened (states k) ≡ false) → AllByRecursion (λ left. (k : ℕ) → left k ≡ left_of_epoch (states k)) ways → AllByRecursion (MightBe before) ways
reopened_ways before ways states (way, has, same) closed all = AllByRecursion-weaker _ _ (λ left is. (way, has, λ k. is k ∙ shut_same (states k) (closed k) ∙ same k)) ways all
  where
    shut_same : (t : EpochState) → is_opened t ≡ false → left_of_epoch t ≡ t
    shut_same (opened b) is = absurd cc
    shut_same (shut l) is = refl

-- WHAT A START OF A SYNC ANSWERS

pub started_none : (t : EpochState) (e : ℕ) (s : Section) → IsTicket t None → IsStarted t e s Ready
started_none (opened b) e s is = is
started_none (shut l) e s is = tt

pub started_some : (t : EpochState) (e : ℕ) (s : Section) (n : ℕ) → IsTicket t (Some n) → IsStarted t e s (Ticket (record { epoch = e; first = record { section = s; number = n }; second = None }))
started_some (opened b) e s n is = (refl, refl, is.0, is.1 s, refl)
started_some (shut l) e s n is = absurd is

-- AN EPOCH THAT LIES WITHIN THE BOUNDS

pub opens_or : {S L : Type 0} (states : S → EpochStates) (e : ℕ) (old : EpochStates) (Q : L → Type 0) (r : Result S L) → MatchResult r (λ s. OpensEpoch (old e) (states s e) × KeepsOtherEpochs e old (states s)) Q → IfOk r (λ s. OpensOrStays (old e) (states s e) × KeepsOtherEpochs e old (states s))
opens_or states e old Q (Ok s) done = (inr done.0, done.1)
opens_or states e old Q (Err l) done = tt

opens_open : (t new : EpochState) → OpensEpoch t new → is_opened new ≡ true
opens_open (opened b) new is = ap is_opened is
opens_open (shut l) new is = ap is_opened is.2

pub opens_now : {S L : Type 0} (states : S → EpochStates) (e : ℕ) (old : EpochStates) (Q : L → Type 0) (r : Result S L) → MatchResult r (λ s. OpensEpoch (old e) (states s e) × KeepsOtherEpochs e old (states s)) Q → IfOk r (λ s. is_opened (states s e) ≡ true)
opens_now states e old Q (Ok s) done = opens_open (old e) (states s e) done.0
opens_now states e old Q (Err l) done = tt
