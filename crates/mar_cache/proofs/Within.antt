-- Epochs of which something is open or left lie from the lowest to the highest, and their entries are of them, also after a
-- crash.
use Rattle.std.proofs.Common.{◌≡◌, ◌⊎◌, inl, inr, ◌≤◌, ◌<◌, ◌&&◌, ℕ, List, [], ◌∷◌, ◌++◌, Bool, true, false, Contains, Err, cond, nat_le, max, refl, ap, ap₂, sym, subst, arith, ◌∙◌}
use Rattle.std.specs.List.{AllByRecursion}
use Rattle.std.proofs.lemmas.Bool.{cases_eq, le-leb, leb-false, leb-true}
use Rattle.std.proofs.lemmas.List.Elements.{Contains-append_cases}
use Rattle.mar_types.specs.Round.{Round}
use Rattle.mar_store.specs.Changes.{Within}
use Rattle.mar_store.specs.Lost.{wreck_of}
use Rattle.mar_store.specs.Watch.{IsCalm, Watch}
use Rattle.mar_store.specs.declared.Lost.{Lost}
use Rattle.mar_store.specs.declared.Lost.TheVariants.{Fault, Memory}
use Rattle.mar_store.proofs.Lookups.{AllByRecursion-contains, AllByRecursion-weaker}
use Rattle.mar_model.specs.Cached.{Cached, epoch_of}
use Rattle.mar_model.proofs.EntryLists.{one_of}
use Rattle.mar_cache.specs.Bounds.{Bounds, includes}
use Rattle.mar_cache.specs.Shelved.{AllLieWithin, AreOf, DropsOlder, LiesWithin, LieWithin, pruned_bounds, raised}
use Rattle.mar_epochs.specs.EpochStates.{ChangesEpoch, DestroysOrNot, EpochState, EpochStates, HasSome, IsBare, IsNestedEpoch, KeepsOtherEpochs, LeavesOtherEpochs, LosesEpoch, MightBe, OpensEpoch, is_opened, left_of_epoch, may_in, opened, shut}
use Rattle.mar_epochs.specs.EpochArchives.{puts_of}
use Rattle.mar_epochs.proofs.Filtering.{contains_none}
use Rattle.mar_epochs.specs.declared.Change.{Change}
use Rattle.mar_cache.proofs.Views.{bare_or_some}

-- AN EPOCH LIES WITHIN BOUNDS

both : (p q : Bool) → p ≡ true → q ≡ true → (p && q) ≡ true
both true q is_p is_q = is_q
both false q is_p is_q = absurd cc

left : (p q : Bool) → (p && q) ≡ true → p ≡ true
left true q is = refl
left false q is = is

right : (p q : Bool) → (p && q) ≡ true → q ≡ true
right true q is = is
right false q is = absurd cc

pub includes_is : (b : Bounds) (k : ℕ) → b.lowest ≤ k → k ≤ b.highest → includes b k ≡ true
includes_is b k from to = both (nat_le b.lowest k) (nat_le k b.highest) (le-leb b.lowest k from) (le-leb k b.highest to)

from_lowest : (b : Bounds) (k : ℕ) → includes b k ≡ true → b.lowest ≤ k
from_lowest b k is = leb-true b.lowest k (left (nat_le b.lowest k) (nat_le k b.highest) is)

to_highest : (b : Bounds) (k : ℕ) → includes b k ≡ true → k ≤ b.highest
to_highest b k is = leb-true k b.highest (right (nat_le b.lowest k) (nat_le k b.highest) is)

-- an epoch that isn't below the lowest lies within the bounds that are raised to it
pub raised_includes : (b : Bounds) (e : ℕ) → b.lowest ≤ e → includes (raised e b) e ≡ true
raised_includes b e from = includes_is (raised e b) e from (omega arith)

-- SOMETHING OF AN EPOCH

some_not_bare : (t : EpochState) → IsBare t → HasSome t → ⊥
some_not_bare (opened b) bare some = bare
some_not_bare (shut l) bare some = some bare

opened_some : (t : EpochState) → is_opened t ≡ true → HasSome t
opened_some (opened b) is = tt
opened_some (shut l) is = absurd cc

-- nothing is below the lowest epoch
pub none_below : (states : EpochStates) (b : Bounds) (below : ℕ) → below ≤ b.lowest → LieWithin states b → (k : ℕ) → k < below → IsBare (states k)
none_below states b below low lie k under = elim (bare_or_some (states k)) [ inl bare ↦ bare | inr some ↦ absurd (omega (arith, from_lowest b k ((lie k).inside some), low, under)) ]

pub opens_itself : (t : EpochState) → is_opened t ≡ true → OpensEpoch t t
opens_itself (opened b) is = refl
opens_itself (shut l) is = absurd cc

-- ONE EPOCH

-- where what may be left is of the epoch, so is what is held or sure
lies_by : (b : Bounds) (k : ℕ) (t : EpochState) → IsNestedEpoch t → (HasSome t → includes b k ≡ true) → AreOf k (may_in t) → LiesWithin b k t
lies_by b k (opened book) nested inside own = record {
  inside = inside;
  held = λ x has. own x (nested.held_may x has);
  sure = λ x has. own x (nested.held_may x (nested.sure_held x has));
  may = own;
}
lies_by b k (shut l) nested inside own = record { inside = inside; held = λ x has. contains_none x has; sure = λ x has. own x (nested x has); may = own }

lies_bare : (b : Bounds) (k : ℕ) (t : EpochState) → IsBare t → LiesWithin b k t
lies_bare b k (opened book) bare = absurd bare
lies_bare b k (shut l) bare = subst (λ m. LiesWithin b k (shut m)) (sym bare) (record {
  inside = λ some. absurd (some refl);
  held = λ x has. contains_none x has;
  sure = λ x has. contains_none x has;
  may = λ x has. contains_none x has;
})

lies_left : (b : Bounds) (k : ℕ) (t : EpochState) → LiesWithin b k t → LiesWithin b k (left_of_epoch t)
lies_left b k (opened book) lies = record { inside = λ some. lies.inside tt; held = λ x has. contains_none x has; sure = lies.sure; may = lies.may }
lies_left b k (shut l) lies = lies

lies_opened : (b : Bounds) (e : ℕ) (t u : EpochState) → includes b e ≡ true → OpensEpoch t u → LiesWithin b e t → LiesWithin b e u
lies_opened b e (opened book) u inside is lies = subst (LiesWithin b e) (sym is) lies
lies_opened b e (shut l) u inside (book, found, is) lies = subst (LiesWithin b e) (sym is) (subst (λ kept. LiesWithin b e (opened (record book { kept = kept }))) (sym found.is) (record { inside = λ some. inside; held = own; sure = own; may = own }))
  where
    own : AreOf e found.found
    own x has = lies.may x (found.reopens.within_may x has)

lies_changed : {E : Type 0} (plain : E → Cached) (change : Change E) (b : Bounds) (e : ℕ) (t u : EpochState) → AllByRecursion (λ x. epoch_of x ≡ e) (puts_of plain change) → IsNestedEpoch u → ChangesEpoch plain change t u → LiesWithin b e t → LiesWithin b e u
lies_changed plain change b e (opened book) u own nested (c, does, is) lies = lies_by b e u nested (λ some. lies.inside tt) (subst (λ v. AreOf e (may_in v)) (sym is) may)
  where
    may : AreOf e c.kept.may
    may x has = elim (Contains-append_cases book.kept.may (puts_of plain change) x (does.may x has)) [ inl before ↦ lies.may x before | inr new ↦ AllByRecursion-contains _ (puts_of plain change) x own new ]
lies_changed plain change b e (shut l) u own nested is lies = subst (LiesWithin b e) (sym is) lies

-- CALLS THAT WENT WELL

pub within_bare : (states : EpochStates) (b : Bounds) → ((k : ℕ) → IsBare (states k)) → LieWithin states b
within_bare states b bare k = lies_bare b k (states k) (bare k)

pub within_same : (old new : EpochStates) (b : Bounds) → ((k : ℕ) → new k ≡ old k) → LieWithin old b → LieWithin new b
within_same old new b same lie k = subst (LiesWithin b k) (sym (same k)) (lie k)

pub within_raised : (states : EpochStates) (b : Bounds) (e : ℕ) → LieWithin states b → LieWithin states (raised e b)
within_raised states b e lie k = record {
  inside = λ some. let is = (lie k).inside some in includes_is (raised e b) k (from_lowest b k is) (omega (arith, to_highest b k is));
  held = (lie k).held;
  sure = (lie k).sure;
  may = (lie k).may;
}

-- the bounds with an epoch above the highest
pub raised_is : (b : Bounds) (e l h : ℕ) → l ≡ b.lowest → h ≡ b.highest → h < e → ◌≡◌ {A = Bounds} (record { lowest = l; highest = e }) (raised e b)
raised_is b e l h l_is h_is above = let top : e ≡ max b.highest e = omega (arith, h_is, above) in ap₂ {C = Bounds} (λ x y. record { lowest = x; highest = y }) l_is top

-- where one epoch lies within the bounds, and the others stay as they are
within_one : (old new : EpochStates) (b : Bounds) (e : ℕ) → LiesWithin b e (new e) → KeepsOtherEpochs e old new → LieWithin old b → LieWithin new b
within_one old new b e here others lie k = by (cases_eq k e)
  where
    by : (k ≡ e) ⊎ (k ≡ e → ⊥) → LiesWithin b k (new k)
    by (inl same) = subst (λ j. LiesWithin b j (new j)) (sym same) here
    by (inr other) = subst (LiesWithin b k) (sym (others k other)) (lie k)

pub within_opened : (old new : EpochStates) (b : Bounds) (e : ℕ) → includes b e ≡ true → OpensEpoch (old e) (new e) → KeepsOtherEpochs e old new → LieWithin old b → LieWithin new b
within_opened old new b e inside opens others lie = within_one old new b e (lies_opened b e (old e) (new e) inside opens (lie e)) others lie

pub within_changed : {E : Type 0} (plain : E → Cached) (change : Change E) (old new : EpochStates) (b : Bounds) (e : ℕ) → AllByRecursion (λ x. epoch_of x ≡ e) (puts_of plain change) → ((k : ℕ) → IsNestedEpoch (new k)) → ChangesEpoch plain change (old e) (new e) → KeepsOtherEpochs e old new → LieWithin old b → LieWithin new b
within_changed plain change old new b e own nested changes others lie = within_one old new b e (lies_changed plain change b e (old e) (new e) own (nested e) changes (lie e)) others lie

pub within_dropped : (old new : EpochStates) (b : Bounds) (below : ℕ) → DropsOlder below old new → LieWithin old b → LieWithin new b
within_dropped old new b below drops lie k = elim (drops k) [ inl same ↦ subst (LiesWithin b k) (sym same) (lie k) | inr gone ↦ lies_bare b k (new k) gone.1 ]

-- the lowest rises to a round's epoch, where nothing is left of older ones
pub within_pruned : (r : Round) (states : EpochStates) (b : Bounds) → ((k : ℕ) → k < r.epoch → IsBare (states k)) → LieWithin states b → LieWithin states (pruned_bounds r b)
within_pruned r states b older lie k = record { inside = λ some. by some (nat_le r.epoch b.lowest); held = (lie k).held; sure = (lie k).sure; may = (lie k).may }
  where
    not_older : HasSome (states k) → r.epoch ≤ k
    not_older some = at (nat_le r.epoch k) refl
      where
        at : (c : Bool) → nat_le r.epoch k ≡ c → r.epoch ≤ k
        at true is = leb-true r.epoch k is
        at false is = absurd (some_not_bare (states k) (older k (leb-false r.epoch k is)) some)

    by : HasSome (states k) → (c : Bool) → includes (cond c b (record { lowest = r.epoch; highest = max b.highest r.epoch })) k ≡ true
    by some true = (lie k).inside some
    by some false = includes_is (record { lowest = r.epoch; highest = max b.highest r.epoch }) k (not_older some) (omega (arith, to_highest b k ((lie k).inside some)))

-- WHAT IS LEFT

-- within each of the bounds that may be left, which are the ones of before
within_each : (states : EpochStates) (b : Bounds) (lefts : List Bounds) → lefts ≡ b ∷ [] → LieWithin states b → (c : Bounds) → Contains lefts c → LieWithin states c
within_each states b lefts is lie c among = subst (LieWithin states) (sym (one_of b c (subst (λ cs. Contains cs c) is among))) lie

pub fallen_same : (old new : EpochStates) (ways : List EpochStates) → ((k : ℕ) → new k ≡ old k) → AllByRecursion (λ left. (k : ℕ) → left k ≡ left_of_epoch (new k)) ways → AllByRecursion (λ left. (k : ℕ) → left k ≡ left_of_epoch (old k)) ways
fallen_same old new ways same all = AllByRecursion-weaker _ _ (λ left is k. is k ∙ ap left_of_epoch (same k)) ways all

within_fallen : (old states : EpochStates) (b : Bounds) → ((k : ℕ) → states k ≡ left_of_epoch (old k)) → LieWithin old b → LieWithin states b
within_fallen old states b same lie k = subst (LiesWithin b k) (sym (same k)) (lies_left b k (old k) (lie k))

-- of epochs that are left as they were
pub fallen_within : (old : EpochStates) (ways : List EpochStates) (b : Bounds) (lefts : List Bounds) → AllByRecursion (λ left. (k : ℕ) → left k ≡ left_of_epoch (old k)) ways → lefts ≡ b ∷ [] → LieWithin old b → AllLieWithin ways lefts
fallen_within old ways b lefts all is lie states has = within_each states b lefts is (within_fallen old states b (AllByRecursion-contains _ ways states all has) lie)

-- the bounds that may be left where new ones were to be written
pub written_within : (old : EpochStates) (b new : Bounds) (olds lefts : List Bounds) → Within lefts (olds ++ new ∷ []) → olds ≡ b ∷ [] → LieWithin old b → LieWithin old new → (c : Bounds) → Contains lefts c → LieWithin old c
written_within old b new olds lefts within is lie lie_new c among =
    elim (Contains-append_cases olds (new ∷ []) c (within c among)) [ inl before ↦ within_each old b olds is lie c before | inr now ↦ subst (LieWithin old) (sym (one_of new c now)) lie_new ]

-- where one epoch is left within the bounds, and the others as a crash leaves them
within_left : (old states : EpochStates) (b : Bounds) (e : ℕ) → LiesWithin b e (states e) → LeavesOtherEpochs e old states → LieWithin old b → LieWithin states b
within_left old states b e here others lie k = by (cases_eq k e)
  where
    by : (k ≡ e) ⊎ (k ≡ e → ⊥) → LiesWithin b k (states k)
    by (inl same) = subst (λ j. LiesWithin b j (states j)) (sym same) here
    by (inr other) = subst (LiesWithin b k) (sym (others k other)) (lies_left b k (old k) (lie k))

-- where a call failed that opens or changes one epoch within the bounds
pub loses_within : (old : EpochStates) (ways : List EpochStates) (e : ℕ) (put : List Cached) (gone : Cached → Bool) (b : Bounds) (lefts : List Bounds) → ((states : EpochStates) → Contains ways states → (k : ℕ) → IsNestedEpoch (states k)) → AllByRecursion (LosesEpoch e (old e) put gone old) ways → AllByRecursion (λ x. epoch_of x ≡ e) put → includes b e ≡ true → lefts ≡ b ∷ [] → LieWithin old b → AllLieWithin ways lefts
loses_within old ways e put gone b lefts nested all own inside is lie states has = within_each states b lefts is (within_left old states b e (lies_by b e (states e) (nested states has e) (λ some. inside) may) way.others lie)
  where
    way : LosesEpoch e (old e) put gone old states
    way = AllByRecursion-contains _ ways states all has

    may : AreOf e (may_in (states e))
    may x among = elim (way.here.may x among) [ inl before ↦ (lie e).may x before | inr new ↦ AllByRecursion-contains _ put x own new ]

pub changed_within : (old : EpochStates) (ways : List EpochStates) (e : ℕ) (put : List Cached) (gone : Cached → Bool) (b : Bounds) (lefts : List Bounds) → ((states : EpochStates) → Contains ways states → (k : ℕ) → IsNestedEpoch (states k)) → AllByRecursion (LosesEpoch e (old e) put gone old) ways → AllByRecursion (λ x. epoch_of x ≡ e) put → (is_opened (old e) ≡ false → ⊥) → lefts ≡ b ∷ [] → LieWithin old b → AllLieWithin ways lefts
changed_within old ways e put gone b lefts nested all own not_shut is lie = loses_within old ways e put gone b lefts nested all own ((lie e).inside (by (is_opened (old e)) refl)) is lie
  where
    by : (c : Bool) → is_opened (old e) ≡ c → HasSome (old e)
    by true open_now = opened_some (old e) open_now
    by false closed = absurd (not_shut closed)

pub destroyed_within : (old : EpochStates) (ways : List EpochStates) (e : ℕ) (b : Bounds) (lefts : List Bounds) → AllByRecursion (DestroysOrNot e old) ways → lefts ≡ b ∷ [] → LieWithin old b → AllLieWithin ways lefts
destroyed_within old ways e b lefts all is lie states has = within_each states b lefts is (within_left old states b e here way.others lie)
  where
    way : DestroysOrNot e old states
    way = AllByRecursion-contains _ ways states all has

    here : LiesWithin b e (states e)
    here = elim way.here [ inl same ↦ subst (LiesWithin b e) (sym same) (lies_left b e (old e) (lie e)) | inr bare ↦ lies_bare b e (states e) bare ]

-- WHAT IS TAKEN UP AGAIN

pub reopened_within : (ways : List EpochStates) (lefts : List Bounds) (states : EpochStates) (b : Bounds) → AllLieWithin ways lefts → MightBe ways states → Contains lefts b → LieWithin states b
reopened_within ways lefts states b lie (way, has, same) among = within_same way states b same (lie way has b among)

pub kept_within : (ways new : List EpochStates) (lefts new_lefts : List Bounds) → AllLieWithin ways lefts → AllByRecursion (MightBe ways) new → Within new_lefts lefts → AllLieWithin new new_lefts
kept_within ways new lefts new_lefts lie all within states has b among = reopened_within ways lefts states b lie (AllByRecursion-contains _ new states all has) (within b among)

-- epochs that were reopened, with what may be left of the bounds
pub left_within : (old : EpochStates) (ways : List EpochStates) (lefts new_lefts : List Bounds) → ((b : Bounds) → Contains lefts b → LieWithin old b) → AllByRecursion (λ left. (k : ℕ) → left k ≡ left_of_epoch (old k)) ways → Within new_lefts lefts → AllLieWithin ways new_lefts
left_within old ways lefts new_lefts lie all within states has b among = within_fallen old states b (AllByRecursion-contains _ ways states all has) (lie b (within b among))

-- A CALL OF THE METADATA THAT FAILED

pub still_quiet : {S W : Type 0} (now : S → Watch) (left : W → Watch) (old : Watch) (l : Lost W) → IsCalm now left old (Err l) → (left (wreck_of l)).due ≡ old.due
still_quiet now left old (Fault w) calm = ap (λ x. x.due) calm.2
still_quiet now left old (Memory w) calm = ap (λ x. x.due) calm
