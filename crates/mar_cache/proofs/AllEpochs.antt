-- What calls of single epochs make of a cache that is seen as one list of entries.
use Rattle.std.proofs.Common.{◌≡◌, ◌⊎◌, inl, inr, ◌≤◌, ◌<◌, nat_le, ℕ, zero, suc, List, [], ◌∷◌, ◌++◌, Bool, true, false, Contains, Option, Some, None, cond, length, max, refl, sym, subst, arith, ◌∙◌}
use Rattle.std.specs.List.{AllByRecursion}
use Rattle.std.proofs.lemmas.Bool.{cases_eq, leb-false, leb-true}
use Rattle.std.proofs.lemmas.List.Elements.{Contains-append_cases, Contains-append_left, Contains-append_right}
use Rattle.mar_types.specs.Round.{Round}
use Rattle.mar_store.specs.Changes.{Within}
use Rattle.mar_model.specs.AllEntries.{LeavesEntries}
use Rattle.mar_model.specs.CacheCalls.{FinishesEntries, GoesOn, LosesCache, none_goes}
use Rattle.mar_model.specs.Cached.{Cached, epoch_of}
use Rattle.mar_model.specs.declared.CacheTicket.{CacheTicket}
use Rattle.mar_model.specs.declared.SectionSync.{SectionSync}
use Rattle.mar_epochs.specs.EpochStates.{ChangesEpoch, EpochState, EpochStates, HasSome, IsNestedEpoch, KeepsOtherEpochs, held_in, is_opened, may_in, opened, shut, sure_in}
use Rattle.mar_epochs.specs.declared.Change.TheVariants.{Finish}
use Rattle.mar_cache.specs.AsOne.{covered_part, covered_with, covers_of, kept_of, left_of_ways, lowests_of}
use Rattle.mar_cache.specs.Bounds.{Bounds}
use Rattle.mar_cache.specs.Nested.{held_may_in, in_nothing, in_up_to, may_some, of_up_to, within_up_to}
use Rattle.mar_cache.specs.Shelved.{AllChanges, AllLieWithin, GrowsEpochs, GrowsEpoch, LeavesEpochs, LieWithin, finishes, finishes_second, pruned_bounds, raised}
use Rattle.mar_cache.proofs.BoundsKept.{within_map}
use Rattle.mar_cache.proofs.EpochLists.{up_to_same}
use Rattle.mar_cache.proofs.Shelving.{grows_itself}
use Rattle.mar_cache.proofs.StateLosses.{leaves_flat}
use Rattle.mar_cache.proofs.StatePuts.{sure_some, to_highest}
use Rattle.mar_cache.proofs.Ticketing.{CoversLast, Keeping, TicketsStay, grow_all, nested_last, stay_all, stay_changed, tickets_over}

reach : (states : EpochStates) (b : Bounds) → LieWithin states b → (k : ℕ) → HasSome (states k) → k ≤ b.highest
reach states b lie k some = to_highest b k ((lie k).inside some)

-- what is said of each epoch, where it is said of one and of those that stay
pub at_each : (P : ℕ → EpochState → EpochState → Type 0) (e : ℕ) (old new : EpochStates) → KeepsOtherEpochs e old new → P e (old e) (new e) → ((k : ℕ) → P k (old k) (old k)) → (k : ℕ) → P k (old k) (new k)
at_each P e old new others own same k = by (cases_eq k e)
  where
    by : (k ≡ e) ⊎ (k ≡ e → ⊥) → P k (old k) (new k)
    by (inl is) = subst (λ j. P j (old j) (new j)) (sym is) own
    by (inr other) = subst (P k (old k)) (sym (others k other)) (same k)

-- A CALL THAT WENT WELL

module _ (put : ℕ → List Cached) (gone : ℕ → Cached → Bool) (all : List Cached) (lets : Cached → Bool) (old new : EpochStates) (b c : Bounds) (lie : LieWithin old b) (lie_new : LieWithin new c) (nested : (k : ℕ) → IsNestedEpoch (new k))
    (puts : (k : ℕ) → Within (put k) all) (fewer : (k : ℕ) (y : Cached) → epoch_of y ≡ k → lets y ≡ false → gone k y ≡ false) (grows : GrowsEpochs put gone old new) where
  pub entries_go : LeavesEntries all lets (kept_of old b.highest) (kept_of new c.highest).sure (kept_of new c.highest).may
  entries_go = record {
    stays = λ y has stays. let (k, within, found) = of_up_to (λ k. sure_in (old k)) b.highest y has in let here = (grows k).sure y found (fewer k y ((lie k).sure y found) stays) in in_up_to (λ k. sure_in (new k)) c.highest k y (reach new c lie_new k (sure_some (new k) y here)) here;
    held = λ y has stays. let (k, within, found) = of_up_to (λ k. held_in (old k)) b.highest y has in let here = held_may_in (new k) (nested k) y ((grows k).held y found (fewer k y ((lie k).held y found) stays)) in in_up_to (λ k. may_in (new k)) c.highest k y (reach new c lie_new k (may_some (new k) y here)) here;
    within = λ y has. let (k, within, found) = of_up_to (λ k. may_in (new k)) c.highest y has in elim ((grows k).may y found) [
      | inl before ↦ Contains-append_left (kept_of old b.highest).may all y (in_up_to (λ k. may_in (old k)) b.highest k y (reach old b lie k (may_some (old k) y before)) before)
      | inr more ↦ Contains-append_right (kept_of old b.highest).may all y (puts k y more)
    ];
  }

  pub goes_on : ((k : ℕ) → TicketsStay lets (old k) (new k)) → GoesOn all lets (kept_of old b.highest) (kept_of new c.highest) (covers_of old) (covers_of new)
  goes_on tickets = record { leaves = entries_go; tickets = tickets_over lets old new tickets }

-- which changes no epoch
pub goes_as : (put : List Cached) (gone : Cached → Bool) (old new : EpochStates) (b c : Bounds) → LieWithin old b → ((k : ℕ) → IsNestedEpoch (old k)) → new ≡ old → c ≡ b → GoesOn put gone (kept_of old b.highest) (kept_of new c.highest) (covers_of old) (covers_of new)
goes_as put gone old new b c lie nested same bounds = subst (λ s. GoesOn put gone (kept_of old b.highest) (kept_of s c.highest) (covers_of old) (covers_of s)) (sym same) (subst (λ d. GoesOn put gone (kept_of old b.highest) (kept_of old d.highest) (covers_of old) (covers_of old)) (sym bounds) (
    goes_on (λ k. []) (λ k. gone) put gone old old b b lie lie nested (λ k y has. in_nothing y has) (λ k y own stays. stays) (λ k. grows_itself [] gone (old k)) (λ k p x has stays. has)))

-- A CALL THAT FAILED

pub lowests_within : (lefts : List Bounds) (bs : List Bounds) (ls : List ℕ) → Within lefts bs → Within (lowests_of bs) ls → Within (lowests_of lefts) ls
lowests_within lefts bs ls within among y has = among y (within_map (λ b. b.lowest) lefts bs within y has)

pub loses : (put : ℕ → List Cached) (gone : ℕ → Cached → Bool) (all : List Cached) (lets : Cached → Bool) (old : EpochStates) (b : Bounds) (ways : List EpochStates) (lefts bs : List Bounds) (ls : List ℕ)
    → LieWithin old b → AllLieWithin ways lefts → 0 < length ways → 0 < length lefts → ((k : ℕ) → Within (put k) all) → ((k : ℕ) (y : Cached) → epoch_of y ≡ k → lets y ≡ false → gone k y ≡ false) → AllByRecursion (LeavesEpochs put gone old) ways
    → Within lefts bs → Within (lowests_of bs) ls → LosesCache all lets (kept_of old b.highest) ls (left_of_ways ways lefts) (lowests_of lefts)
loses put gone all lets old b ways lefts bs ls lie within some some_bounds puts fewer leaves lefts_within among = record {
  leaves = leaves_flat put gone all lets old b lie ways lefts within some some_bounds puts fewer leaves;
  lowests = lowests_within lefts bs ls lefts_within among;
}

-- the same where the bounds are left as they were
pub loses_as : (gone : ℕ → Cached → Bool) (lets : Cached → Bool) (put : ℕ → List Cached) (old : EpochStates) (b : Bounds) (ways : List EpochStates) (lefts : List Bounds)
    → LieWithin old b → AllLieWithin ways lefts → 0 < length ways → 0 < length lefts → ((k : ℕ) → Within (put k) []) → ((k : ℕ) (y : Cached) → epoch_of y ≡ k → lets y ≡ false → gone k y ≡ false) → AllByRecursion (LeavesEpochs put gone old) ways
    → lefts ≡ b ∷ [] → LosesCache [] lets (kept_of old b.highest) (b.lowest ∷ []) (left_of_ways ways lefts) (lowests_of lefts)
loses_as gone lets put old b ways lefts lie within some some_bounds puts fewer leaves is = loses put gone [] lets old b ways lefts (b ∷ []) (b.lowest ∷ []) lie within some some_bounds puts fewer leaves (λ c has. subst (λ cs. Contains cs c) is has) (λ l has. has)

-- where an epoch may have been raised to
pub raised_lowests : (e : ℕ) (b : Bounds) (olds lefts : List Bounds) → olds ≡ b ∷ [] → Within lefts (olds ++ raised e b ∷ []) → Within (lowests_of lefts) (b.lowest ∷ [])
raised_lowests e b olds lefts is within = lowests_within lefts (b ∷ raised e b ∷ []) (b.lowest ∷ []) (λ c has. subst (λ cs. Contains (cs ++ raised e b ∷ []) c) is (within c has)) by
  where
    by : (l : ℕ) → Contains (b.lowest ∷ b.lowest ∷ []) l → Contains (b.lowest ∷ []) l
    by l (zero, lt, at) = (zero, omega arith, at)
    by l (suc zero, lt, at) = (zero, omega arith, at)
    by l (suc (suc k), lt, at) = absurd (omega (arith, lt))

pub pruned_lowest : (r : Round) (b : Bounds) → (pruned_bounds r b).lowest ≡ max b.lowest r.epoch
pruned_lowest r b = by (nat_le r.epoch b.lowest) refl
  where
    by : (q : Bool) → nat_le r.epoch b.lowest ≡ q → (cond q b (record { lowest = r.epoch; highest = max b.highest r.epoch })).lowest ≡ max b.lowest r.epoch
    by true is = let within = leb-true r.epoch b.lowest is in omega (arith, within)
    by false is = let above = leb-false r.epoch b.lowest is in omega (arith, above)

pub pruned_lowests : (r : Round) (b : Bounds) (olds lefts : List Bounds) → olds ≡ b ∷ [] → Within lefts (olds ++ pruned_bounds r b ∷ []) → Within (lowests_of lefts) (b.lowest ∷ max b.lowest r.epoch ∷ [])
pruned_lowests r b olds lefts is within = lowests_within lefts (b ∷ pruned_bounds r b ∷ []) (b.lowest ∷ max b.lowest r.epoch ∷ []) (λ c has. subst (λ cs. Contains (cs ++ pruned_bounds r b ∷ []) c) is (within c has)) (λ l has. subst (λ n. Contains (b.lowest ∷ n ∷ []) l) (pruned_lowest r b) has)

-- A TICKET THAT FINISHES

pub record FinishesPart (p : SectionSync) (t u : EpochState) : Type 0 where
  pub held : held_in u ≡ held_in t
  pub sure : Within (sure_in t) (sure_in u)
  pub finished : Within (covered_part t p) (sure_in u)
  pub may : Within (may_in u) (may_in t)
  pub opened : is_opened u ≡ is_opened t

finishes_part : {E : Type 0} (plain : E → Cached) (p : SectionSync) (t u : EpochState) → ChangesEpoch plain (Finish p.section p.number) t u → FinishesPart p t u
finishes_part plain p (opened b) u (c, does, is) = subst (FinishesPart p (opened b)) (sym is) (record {
  held = does.held;
  sure = λ x has. does.sure x has refl;
  finished = does.made_sure;
  may = λ x has. elim (Contains-append_cases b.kept.may [] x (does.may x has)) [ inl before ↦ before | inr none ↦ in_nothing x none ];
  opened = refl;
})
finishes_part plain p (shut l) u is = subst (FinishesPart p (shut l)) (sym is) (record { held = refl; sure = λ x has. has; finished = λ x has. in_nothing x has; may = λ x has. has; opened = refl })

-- what the end of a ticket makes of its epoch
pub record FinishesHere (first : SectionSync) (second : Option SectionSync) (t u : EpochState) : Type 0 where
  pub held : held_in u ≡ held_in t
  pub sure : Within (sure_in t) (sure_in u)
  pub finished : Within (covered_with t first second) (sure_in u)
  pub may : Within (may_in u) (may_in t)

finishes_here : {E : Type 0} (plain : E → Cached) (first : SectionSync) (second : Option SectionSync) (t u : EpochState) → CoversLast t → AllChanges plain (Finish first.section first.number ∷ finishes_second second) t u → FinishesHere first second t u
finishes_here plain first None t u last (v, does, is) = let one = subst (FinishesPart first t) (sym is) (finishes_part plain first t v does) in record { held = one.held; sure = one.sure; finished = one.finished; may = one.may }
finishes_here plain first (Some q) t u last (v, does, rest) =
    let (w, then, is) = rest in
    let one = finishes_part plain first t v does in
    let two = subst (FinishesPart q v) (sym is) (finishes_part plain q v w then) in
    record {
      held = two.held ∙ one.held;
      sure = λ x has. two.sure x (one.sure x has);
      finished = λ x has. elim (Contains-append_cases (covered_part t first) (covered_part t q) x has) [
        | inl early ↦ two.sure x (one.finished x early)
        | inr late ↦ two.finished x (stay_changed plain (Finish first.section first.number) none_goes t v last (λ y stays. refl) does q x late refl)
      ];
      may = λ x has. one.may x (two.may x has);
    }

finishing : {E : Type 0} (plain : E → Cached) (first : SectionSync) (second : Option SectionSync) → AllByRecursion (Keeping plain [] none_goes) (Finish first.section first.number ∷ finishes_second second)
finishing plain first None = (((λ x has. has), λ x stays. refl), tt)
finishing plain first (Some q) = (((λ x has. has), λ x stays. refl), (((λ x has. has), λ x stays. refl), tt))

module _ {E : Type 0} (plain : E → Cached) (t : CacheTicket) (old new : EpochStates) (b : Bounds) (lie : LieWithin old b) (lie_new : LieWithin new b) (nested : (k : ℕ) → IsNestedEpoch (old k)) (nested_new : (k : ℕ) → IsNestedEpoch (new k))
    (does : AllChanges plain (finishes t) (old t.epoch) (new t.epoch)) (others : KeepsOtherEpochs t.epoch old new) where
  here : FinishesHere t.first t.second (old t.epoch) (new t.epoch)
  here = finishes_here plain t.first t.second (old t.epoch) (new t.epoch) (nested_last (old t.epoch) (nested t.epoch)) does

  pub finishes_all : FinishesEntries (covers_of old t) (kept_of old b.highest) (kept_of new b.highest)
  finishes_all = record {
    held = up_to_same (λ k. held_in (new k)) (λ k. held_in (old k)) b.highest (λ k within. at_each (λ k v w. held_in w ≡ held_in v) t.epoch old new others here.held (λ k. refl) k);
    sure = within_up_to (λ k. sure_in (old k)) (λ k. sure_in (new k)) b.highest (λ k within. at_each (λ k v w. Within (sure_in v) (sure_in w)) t.epoch old new others here.sure (λ k x has. has) k);
    finished = λ x has. let now = here.finished x has in in_up_to (λ k. sure_in (new k)) b.highest t.epoch x (reach new b lie_new t.epoch (sure_some (new t.epoch) x now)) now;
    may = within_up_to (λ k. may_in (new k)) (λ k. may_in (old k)) b.highest (λ k within. at_each (λ k v w. Within (may_in w) (may_in v)) t.epoch old new others here.may (λ k x has. has) k);
  }

  pub finish_goes_on : GoesOn [] none_goes (kept_of old b.highest) (kept_of new b.highest) (covers_of old) (covers_of new)
  finish_goes_on = goes_on (λ k. []) (λ k. none_goes) [] none_goes old new b b lie lie_new nested_new (λ k y has. has) (λ k y own stays. stays)
      (at_each (λ k v w. GrowsEpoch [] none_goes v w) t.epoch old new others (grow_all plain [] none_goes (finishes t) (old t.epoch) (new t.epoch) (finishing plain t.first t.second) does) (λ k. grows_itself [] none_goes (old k)))
      (at_each (λ k v w. TicketsStay none_goes v w) t.epoch old new others (stay_all plain [] none_goes (finishes t) (old t.epoch) (new t.epoch) (nested_last (old t.epoch) (nested t.epoch)) (finishing plain t.first t.second) does) (λ k p x has stays. has))
