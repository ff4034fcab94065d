-- What puts, prunes and openings make of a cache that is seen as one list of entries.
use Rattle.std.proofs.Common.{◌≡◌, ◌⊎◌, inl, inr, ◌≤◌, ◌<◌, ◌==◌, ◌&&◌, ◌||◌, nat_lt, not, ℕ, zero, suc, List, [], ◌∷◌, Bool, true, false, IsTrue, Contains, Option, cond, filter, length, max, refl, ap, ap₂, sym, subst, arith, ◌∙◌}
use Rattle.std.specs.List.{AllByRecursion}
use Rattle.std.proofs.lemmas.Bool.{cases_eq, cases_lt, eq-eqb, le-ltb, lt-ltb}
use Rattle.mar_types.specs.Round.{Round}
use Rattle.mar_store.specs.Changes.{Left, Within, left_of}
use Rattle.mar_store.specs.Alarms.{fresh_watch}
use Rattle.mar_store.specs.Watch.{Follows, Watch}
use Rattle.mar_store.specs.declared.Alarm.{Alarm}
use Rattle.mar_store.proofs.Lookups.{AllByRecursion-contains}
use Rattle.mar_model.specs.AllEntries.{FirstsStay, LoadsEntries, PrunesEntries, PutsEntry, PutsEntryNow, soonest}
use Rattle.mar_model.specs.Cache.{is_below, is_certified_below}
use Rattle.mar_model.specs.CacheCalls.{FinishesEntries, GoesOn, PutsAndStarts, PutsAndSyncs, ReopensCache, StartsSync, UnopensCache, is_of_archive, none_goes}
use Rattle.mar_model.specs.Cached.{Cached, epoch_of}
use Rattle.mar_model.specs.Sections.{first_found, section_of}
use Rattle.mar_model.specs.declared.CacheTicket.{CacheTicket}
use Rattle.mar_model.specs.declared.Section.{Section}
use Rattle.mar_model.specs.declared.Started.{Started}
use Rattle.mar_model.specs.declared.Started.TheVariants.{Ready}
use Rattle.mar_epochs.specs.EpochStates.{ChangesEpoch, EpochState, EpochStates, HasSome, IsBare, IsNestedEpoch, IsNewest, KeepsOtherEpochs, MightBe, OpensEpoch, held_in, is_opened, left_of_epoch, may_in, opened, shut, sure_in}
use Rattle.mar_epochs.specs.declared.Change.{Change}
use Rattle.mar_epochs.specs.declared.Change.TheVariants.{PruneBelow, Put, Sync}
use Rattle.mar_cache.specs.AsOne.{IsLoaded, covers_of, greatest_highest, kept_of, left_of_ways, lowests_of, up_to}
use Rattle.mar_cache.specs.Bounds.{Bounds}
use Rattle.mar_cache.specs.Calls.{IsPut, IsPutAndSynced}
use Rattle.mar_cache.specs.Laws.{PrunesByView}
use Rattle.mar_cache.specs.Nested.{in_nothing, in_up_to, may_some, of_up_to}
use Rattle.mar_cache.specs.Shelved.{AllChanges, AllLieWithin, DoesAt, GrowsEpoch, IsClear, IsStarted, LieWithin, OpensOrStays, ThinsEpoch, at_epoch, finishes, is_pruned_by, pruned_bounds, raised, shelf_watch}
use Rattle.mar_cache.specs.Stages.{IsAtStage, after_put, is_fresh, is_loaded}
use Rattle.mar_cache.specs.declared.stage.Stage.{Stage}
use Rattle.mar_cache.specs.declared.stage.Stage.TheVariants.{Begun, Fresh, Loaded}
use Rattle.mar_cache.proofs.AllEpochs.{at_each, finish_goes_on, finishes_all, goes_as, goes_on}
use Rattle.mar_cache.proofs.BoundsKept.{within_map}
use Rattle.mar_cache.proofs.EpochLists.{filter_up_to, up_to_none, up_to_same}
use Rattle.mar_model.proofs.EntryLists.{firsts_stay}
use Rattle.mar_cache.proofs.ListPrunes.{older_below}
use Rattle.mar_cache.proofs.Shelving.{changes_grows, grows_itself, grows_then, opens_grows, stays_grow}
use Rattle.mar_cache.proofs.StateLoads.{loads_all}
use Rattle.mar_cache.proofs.StateLosses.{found_soonest, in_all, in_some, newest_soonest, of_all, of_some, one_of_some, prunes_all_epochs, reaches, up_to_greatest}
use Rattle.mar_cache.proofs.StatePuts.{nothing_in, puts_flat, puts_now_flat, still_open, sure_some, to_highest}
use Rattle.mar_cache.proofs.Ticketing.{Keeping, TicketsStay, covered_held, gives, grow_all, nested_last, stay_changed, starts, stay_opened_all, stay_or_opened, stay_thinned}

-- HOW FAR A CACHE HAS COME

bare_of : (t : EpochState) → IsNestedEpoch t → is_opened t ≡ false → ((x : Cached) → Contains (may_in t) x → ⊥) → IsBare t
bare_of (opened b) nested is none = absurd cc
bare_of (shut l) nested is none = ap₂ {C = Left Cached} (λ s m. record { sure = s; may = m }) (nothing_in l.sure (λ x has. none x (nested x has))) (nothing_in l.may none)

pub loaded_all : (stage : Stage) (states : EpochStates) → ((k : ℕ) → IsNestedEpoch (states k)) → IsAtStage stage states → is_loaded stage ≡ true → IsLoaded states
loaded_all stage states nested staged is k closed = bare_of (states k) (nested k) closed (staged.loaded is k closed)

-- an epoch is as far as it was: it is opened by no call, and where it isn't open, nothing else may be left of it
pub record StaysShut (t u : EpochState) : Type 0 where
  pub opened : is_opened u ≡ true → is_opened t ≡ true
  pub may : is_opened u ≡ false → (x : Cached) → Contains (may_in u) x → (is_opened t ≡ false) × Contains (may_in t) x

pub shut_as : (t u : EpochState) → u ≡ t → StaysShut t u
shut_as t u same = subst (StaysShut t) (sym same) (record { opened = λ is. is; may = λ is x has. (is, has) })

shut_then : (t u v : EpochState) → StaysShut t u → StaysShut u v → StaysShut t v
shut_then t u v first second = record { opened = λ is. first.opened (second.opened is); may = λ is x has. let (closed, there) = second.may is x has in first.may closed x there }

pub shut_changed : {E : Type 0} (plain : E → Cached) (change : Change E) (t u : EpochState) → ChangesEpoch plain change t u → StaysShut t u
shut_changed plain change (opened b) u (c, does, is) = subst (StaysShut (opened b)) (sym is) (record { opened = λ open_now. refl; may = λ closed x has. absurd cc })
shut_changed plain change (shut l) u is = shut_as (shut l) u is

pub shut_all : {E : Type 0} (plain : E → Cached) (changes : List (Change E)) (t u : EpochState) → AllChanges plain changes t u → StaysShut t u
shut_all plain [] t u same = shut_as t u same
shut_all plain (change ∷ changes) t u (v, does, rest) = shut_then t v u (shut_changed plain change t v does) (shut_all plain changes v u rest)

pub shut_thinned : (test : Cached → Bool) (t u : EpochState) → ThinsEpoch test t u → StaysShut t u
shut_thinned test t u thins = record {
  opened = λ is. sym thins.opened ∙ is;
  may = λ is x has. (sym thins.opened ∙ is, elim (thins.grows.may x has) [ inl before ↦ before | inr none ↦ in_nothing x none ]);
}

shut_bare : (t u : EpochState) → IsBare u → StaysShut t u
shut_bare t (opened b) bare = absurd bare
shut_bare t (shut l) bare = record { opened = λ is. absurd cc; may = λ is x has. in_nothing x (subst (λ m. Contains m.may x) bare has) }

pub staged_as : (stage : Stage) (old new : EpochStates) → IsAtStage stage old → ((k : ℕ) → StaysShut (old k) (new k)) → IsAtStage stage new
staged_as stage old new staged each = record {
  fresh = λ is k. by (is_opened (new k)) refl (λ open_now. (sym (staged.fresh is k) ∙ (each k).opened open_now));
  loaded = λ is k closed x has. let (was, there) = (each k).may closed x has in staged.loaded is k was x there;
}
  where
    by : (c : Bool) {d : Bool} → d ≡ c → (d ≡ true → false ≡ true) → d ≡ false
    by true is clash = absurd (let no : false ≡ true = clash is in cc)
    by false is clash = is

pub staged_put : (stage : Stage) (e : ℕ) (old new : EpochStates) → IsAtStage stage old → (new ≡ old) ⊎ ((is_opened (new e) ≡ true) × KeepsOtherEpochs e old new) → IsAtStage (after_put stage) new
staged_put stage e old new staged how = record { fresh = λ is. absurd (not_fresh stage is); loaded = λ is k closed x has. still (was_loaded stage is) k closed x has how }
  where
    not_fresh : (s : Stage) → is_fresh (after_put s) ≡ true → ⊥
    not_fresh Fresh is = absurd cc
    not_fresh Begun is = absurd cc
    not_fresh Loaded is = absurd cc

    was_loaded : (s : Stage) → is_loaded (after_put s) ≡ true → is_loaded s ≡ true
    was_loaded Fresh is = is
    was_loaded Begun is = is
    was_loaded Loaded is = is

    still : is_loaded stage ≡ true → (k : ℕ) → is_opened (new k) ≡ false → (x : Cached) → Contains (may_in (new k)) x → (new ≡ old) ⊎ ((is_opened (new e) ≡ true) × KeepsOtherEpochs e old new) → ⊥
    still is k closed x has (inl same) = staged.loaded is k (subst (λ s. is_opened (s k) ≡ false) same closed) x (subst (λ s. Contains (may_in (s k)) x) same has)
    still is k closed x has (inr (open_now, others)) = elim (cases_eq k e) [
      | inl here ↦ absurd (let clash : true ≡ false = sym open_now ∙ subst (λ j. is_opened (new j) ≡ false) here closed in cc)
      | inr other ↦ staged.loaded is k (subst (λ t. is_opened t ≡ false) (others k other) closed) x (subst (λ t. Contains (may_in t) x) (others k other) has)
    ]

-- nothing is left that would be taken up
pub staged_bare : (states : EpochStates) → ((k : ℕ) → IsBare (states k)) → IsAtStage Loaded states
staged_bare states bare = record { fresh = λ is. absurd cc; loaded = λ is k closed x has. none (states k) (bare k) x has }
  where
    none : (t : EpochState) → IsBare t → (x : Cached) → Contains (may_in t) x → ⊥
    none (opened b) bare' x has = bare'
    none (shut l) bare' x has = in_nothing x (subst (λ m. Contains m.may x) bare' has)

pub still_loaded : (stage : Stage) → is_loaded (after_put stage) ≡ is_loaded stage
still_loaded Fresh = refl
still_loaded Begun = refl
still_loaded Loaded = refl

opened_then : (t u : EpochState) → OpensEpoch t u → is_opened u ≡ true
opened_then (opened b) u is = ap is_opened is
opened_then (shut l) u (b, found, is) = ap is_opened is

pub staged_loaded : (old new : EpochStates) → ((k : ℕ) → OpensOrStays (old k) (new k)) → ((k : ℕ) → HasSome (old k) → is_opened (new k) ≡ true) → IsAtStage Loaded new
staged_loaded old new opens opened_now = record { fresh = λ is. absurd cc; loaded = λ is k closed x has. by k closed x has (opens k) }
  where
    by : (k : ℕ) → is_opened (new k) ≡ false → (x : Cached) → Contains (may_in (new k)) x → OpensOrStays (old k) (new k) → ⊥
    by k closed x has (inl same) = absurd (let clash : false ≡ true = sym closed ∙ opened_now k (may_some (old k) x (subst (λ t. Contains (may_in t) x) same has)) in cc)
    by k closed x has (inr opens') = absurd (let clash : false ≡ true = sym closed ∙ opened_then (old k) (new k) opens' in cc)

-- A PUT

pub at_epoch_within : (e : ℕ) (xs : List Cached) (k : ℕ) → Within (at_epoch e xs k) xs
at_epoch_within e xs k x has = by (k == e) has
  where
    by : (c : Bool) → Contains (cond c xs []) x → Contains xs x
    by true has' = has'
    by false has' = in_nothing x has'

module _ (x : Cached) (old new : EpochStates) (b c : Bounds) (lie : LieWithin old b) (lie_new : LieWithin new c) (nested : (k : ℕ) → IsNestedEpoch (old k)) (nested_new : (k : ℕ) → IsNestedEpoch (new k)) where
  abbrev e : ℕ
  e = epoch_of x

  put_grows : (changes : List (Change Cached)) → AllByRecursion (Keeping (λ y. y) (x ∷ []) none_goes) changes → DoesAt (λ y. y) e changes old new → (k : ℕ) → GrowsEpoch (at_epoch e (x ∷ []) k) none_goes (old k) (new k)
  put_grows changes keeping does = at_each (λ k t u. GrowsEpoch (at_epoch e (x ∷ []) k) none_goes t u) e old new does.others
      (subst (λ put. GrowsEpoch put none_goes (old e) (new e)) (sym (ap (λ q. cond q (x ∷ []) []) (eq-eqb e e refl))) (grows_then (x ∷ []) none_goes (old e) does.mid (new e) (opens_grows (x ∷ []) none_goes (old e) does.mid does.opens) (grow_all (λ y. y) (x ∷ []) none_goes changes does.mid (new e) keeping does.done)))
      (λ k. grows_itself (at_epoch e (x ∷ []) k) none_goes (old k))

  pub put_goes_on : (changes : List (Change Cached)) → AllByRecursion (Keeping (λ y. y) (x ∷ []) none_goes) changes → (e < b.lowest → (new ≡ old) × (c ≡ b)) → (b.lowest ≤ e → DoesAt (λ y. y) e changes old new) → GoesOn (x ∷ []) none_goes (kept_of old b.highest) (kept_of new c.highest) (covers_of old) (covers_of new)
  put_goes_on changes keeping ready done = elim (cases_lt e b.lowest) [
    | inl less ↦ let (same, bounds) = ready less in goes_as (x ∷ []) none_goes old new b c lie nested same bounds
    | inr low ↦ let does = done low in goes_on (at_epoch e (x ∷ [])) (λ k. none_goes) (x ∷ []) none_goes old new b c lie lie_new nested_new (at_epoch_within e (x ∷ [])) (λ k y own stays. stays) (put_grows changes keeping does)
        (at_each (λ k t u. TicketsStay none_goes t u) e old new does.others (stay_opened_all (λ y. y) (x ∷ []) none_goes changes (old e) does.mid (new e) (nested_last (old e) (nested e)) does.opens keeping does.done) (λ k p y has stays. has))
  ]

  pub one_put : AllByRecursion (Keeping (λ y. y) (x ∷ []) none_goes) (Put x ∷ [])
  one_put = (((λ y has. has), λ y stays. refl), tt)

  pub put_and_sync : AllByRecursion (Keeping (λ y. y) (x ∷ []) none_goes) (Put x ∷ Sync (section_of x) ∷ [])
  put_and_sync = (((λ y has. has), λ y stays. refl), (((λ y has. in_nothing y has), λ y stays. refl), tt))

  opened_put : IsPut x old new → is_opened (new e) ≡ true
  opened_put does = let (m, put, is) = does.done in ap is_opened is ∙ still_open x (old e) does.mid m does.opens put

  pub puts_and_starts : (stage : Stage) (started : Started) → IsAtStage stage old → (e < b.lowest → (started ≡ Ready) × (new ≡ old) × (c ≡ b)) → (b.lowest ≤ e → IsPut x old new × IsStarted (new e) e (section_of x) started) → (b.lowest ≤ e → c ≡ raised e b)
      → PutsAndStarts x b.lowest (is_loaded stage) (kept_of old b.highest) (kept_of new c.highest) (covers_of new) started
  puts_and_starts stage started staged ready done raises = record {
    ready = λ less. let (none, same, bounds) = ready less in (none, ap₂ (λ s d. kept_of s d.highest) same bounds);
    done = λ is low. let (does, gave) = done low in (
      subst (λ d. PutsEntry x (kept_of old b.highest) (kept_of new d.highest)) (sym (raises low)) (puts_flat x old new b lie (loaded_all stage old nested staged is) does),
      gives x new c lie_new (opened_put does) started gave,
    );
  }

  pub staged_after : (stage : Stage) → IsAtStage stage old → (e < b.lowest → new ≡ old) → (b.lowest ≤ e → (is_opened (new e) ≡ true) × KeepsOtherEpochs e old new) → IsAtStage (after_put stage) new
  staged_after stage staged ready done = elim (cases_lt e b.lowest) [ inl less ↦ staged_put stage e old new staged (inl (ready less)) | inr low ↦ staged_put stage e old new staged (inr (done low)) ]

  pub staged_start : (stage : Stage) → IsAtStage stage old → (e < b.lowest → new ≡ old) → (b.lowest ≤ e → IsPut x old new) → IsAtStage (after_put stage) new
  staged_start stage staged ready done = staged_after stage staged ready (λ low. let does = done low in (opened_put does, does.others))

  opened_synced : IsPutAndSynced x old new → is_opened (new e) ≡ true
  opened_synced does = let (m, put, rest) = does.done in let (n, sync, is) = rest in ap is_opened is ∙ synced m n (still_open x (old e) does.mid m does.opens put) sync
    where
      synced : (m n : EpochState) → is_opened m ≡ true → ChangesEpoch (λ y. y) (Sync (section_of x)) m n → is_opened n ≡ true
      synced (opened d) n open_now (f, changes, is) = ap is_opened is
      synced (shut l) n open_now is = absurd cc

  pub staged_synced : (stage : Stage) → IsAtStage stage old → (e < b.lowest → new ≡ old) → (b.lowest ≤ e → IsPutAndSynced x old new) → IsAtStage (after_put stage) new
  staged_synced stage staged ready done = staged_after stage staged ready (λ low. let does = done low in (opened_synced does, does.others))

  pub puts_and_syncs : (stage : Stage) → IsAtStage stage old → (e < b.lowest → (new ≡ old) × (c ≡ b)) → (b.lowest ≤ e → IsPutAndSynced x old new) → (b.lowest ≤ e → c ≡ raised e b) → PutsAndSyncs x b.lowest (is_loaded stage) (kept_of old b.highest) (kept_of new c.highest)
  puts_and_syncs stage staged ready done raises = record {
    ready = λ less. let (same, bounds) = ready less in ap₂ (λ s d. kept_of s d.highest) same bounds;
    done = λ is low. subst (λ d. PutsEntryNow x (kept_of old b.highest) (kept_of new d.highest)) (sym (raises low)) (puts_now_flat x old new b lie (subst (LieWithin new) (raises low) lie_new) (loaded_all stage old nested staged is) (done low));
  }

  pub put_lowest : (e < b.lowest → c ≡ b) → (b.lowest ≤ e → c ≡ raised e b) → c.lowest ≡ b.lowest
  put_lowest ready raises = elim (cases_lt e b.lowest) [ inl less ↦ ap (λ d. d.lowest) (ready less) | inr low ↦ ap (λ d. d.lowest) (raises low) ]

-- A START OF A SYNC

pub start_all : (e : ℕ) (s : Section) (old new : EpochStates) (b c : Bounds) → LieWithin old b → new ≡ old → c ≡ b → (started : Started) → IsStarted (old e) e s started → (kept_of new c.highest ≡ kept_of old b.highest) × StartsSync (covers_of new) e (is_of_archive e s) (kept_of old b.highest).held started
start_all e s old new b c lie same bounds started given = (ap₂ (λ t d. kept_of t d.highest) same bounds, subst (λ t. StartsSync (covers_of t) e (is_of_archive e s) (kept_of old b.highest).held started) (sym same) (starts e s old b lie (old e) refl started given))

-- PRUNES

module _ (height : ℕ) (old new : EpochStates) (b : Bounds) (lie : LieWithin old b) (lie_new : LieWithin new b) (nested : (k : ℕ) → IsNestedEpoch (old k)) (nested_new : (k : ℕ) → IsNestedEpoch (new k)) (thins : (k : ℕ) → ThinsEpoch (is_certified_below height) (old k) (new k)) where
  kept_passes : (p : Cached → Bool) (xs : List Cached) → ((x : Cached) → Contains xs x → p x ≡ true) → filter p xs ≡ xs
  kept_passes p [] all = refl
  kept_passes p (x ∷ xs) all = ap (λ c. cond c (x ∷ filter p xs) (filter p xs)) (all x (zero, omega arith, refl)) ∙ ap (λ ys. x ∷ ys) (kept_passes p xs (λ y (k, lt, is). all y (suc k, omega (arith, lt), is)))

  pub prunes_certified : ((k : ℕ) → IsClear (is_certified_below height) (new k)) → PrunesEntries (is_certified_below height) (kept_of old b.highest) (kept_of new b.highest) × FirstsStay (kept_of old b.highest).held (kept_of new b.highest).held
  prunes_certified clear = (
    record {
      held = held;
      sure = λ x has stays. let (k, within, found) = of_up_to (λ k. sure_in (old k)) b.highest x has in in_up_to (λ k. sure_in (new k)) b.highest k x within ((thins k).grows.sure x found stays);
      may = λ x has. let (k, within, found) = of_up_to (λ k. may_in (new k)) b.highest x has in in_up_to (λ k. may_in (old k)) b.highest k x within (elim ((thins k).grows.may x found) [ inl before ↦ before | inr none ↦ in_nothing x none ]);
    },
    subst (FirstsStay (kept_of old b.highest).held) (sym held) (firsts_stay (λ x. not (is_certified_below height x)) (λ s. true) (λ c s. refl) (kept_of old b.highest).held),
  )
    where
      held : (kept_of new b.highest).held ≡ filter (λ x. not (is_certified_below height x)) (kept_of old b.highest).held
      held = up_to_same (λ k. held_in (new k)) (λ k. filter (λ x. not (is_certified_below height x)) (held_in (old k))) b.highest (λ k within. sym (kept_passes (λ x. not (is_certified_below height x)) (held_in (new k)) (λ x has. ap not (clear k x has))) ∙ (thins k).rest)
          ∙ sym (filter_up_to (λ x. not (is_certified_below height x)) (λ k. held_in (old k)) b.highest)

  pub certified_goes_on : GoesOn [] (is_certified_below height) (kept_of old b.highest) (kept_of new b.highest) (covers_of old) (covers_of new)
  certified_goes_on = goes_on (λ k. []) (λ k. is_certified_below height) [] (is_certified_below height) old new b b lie lie_new nested_new (λ k y has. has) (λ k y own stays. stays) (λ k. (thins k).grows) (λ k. stay_thinned (is_certified_below height) (old k) (new k) (nested_last (old k) (nested k)) (nested_last (new k) (nested_new k)) (thins k))

-- what isn't below the round isn't pruned
pub view_lets : (r : Round) (k : ℕ) (x : Cached) → epoch_of x ≡ k → is_below r x ≡ false → is_pruned_by r k x ≡ false
view_lets r k x own stays = elim (cases_lt k r.epoch) [
  | inl under ↦ absurd (let clash : false ≡ true = sym stays ∙ older_below r x (omega (arith, own, under)) in cc)
  | inr over ↦ ap₂ (λ p q. p || (k == r.epoch && q)) (le-ltb k r.epoch over) stays ∙ and_nothing (k == r.epoch)
]
  where
    and_nothing : (a : Bool) → (a && false) ≡ false
    and_nothing true = refl
    and_nothing false = refl

module _ (r : Round) (old new : EpochStates) (b c : Bounds) (lie : LieWithin old b) (lie_new : LieWithin new c) (nested : (k : ℕ) → IsNestedEpoch (old k)) (nested_new : (k : ℕ) → IsNestedEpoch (new k)) (prunes : PrunesByView r old new) (bounds : c ≡ pruned_bounds r b) where
  pub prunes_view : (stage : Stage) → IsAtStage stage old → is_loaded stage ≡ true → PrunesEntries (is_below r) (kept_of old b.highest) (kept_of new c.highest) × FirstsStay (kept_of old b.highest).held (kept_of new c.highest).held
  prunes_view stage staged is = subst (λ d. PrunesEntries (is_below r) (kept_of old b.highest) (kept_of new d.highest) × FirstsStay (kept_of old b.highest).held (kept_of new d.highest).held) (sym bounds)
      (prunes_all_epochs r old new b lie (subst (LieWithin new) bounds lie_new) (loaded_all stage old nested staged is) prunes)

  below_older : (k : ℕ) (x : Cached) → epoch_of x ≡ k → k < r.epoch → is_below r x ≡ true
  below_older k x own under = older_below r x (omega (arith, own, under))

  older_pruned : (k : ℕ) → k < r.epoch → (x : Cached) → is_pruned_by r k x ≡ true
  older_pruned k under x = ap (λ q. q || (k == r.epoch && is_below r x)) (lt-ltb k r.epoch under)

  own_stays : (x : Cached) → is_pruned_by r r.epoch x ≡ false → IsTrue (not (is_below r x))
  own_stays x stays = by (is_below r x) refl
    where
      by : (q : Bool) → is_below r x ≡ q → not q ≡ true
      by true is = absurd (let clash : true ≡ false = sym (ap₂ (λ p q. p || (q && true)) (le-ltb r.epoch r.epoch (omega arith)) (eq-eqb r.epoch r.epoch refl)) ∙ sym (ap (λ q. nat_lt r.epoch r.epoch || (r.epoch == r.epoch && q)) is) ∙ stays in cc)
      by false is = refl

  below_stays : (x : Cached) → is_below r x ≡ false → IsTrue (not (is_below r x))
  below_stays x stays = ap not stays

  view_each : (P : ℕ → EpochState → EpochState → Type 0) → ((k : ℕ) → k < r.epoch → IsBare (new k) → P k (old k) (new k)) → P r.epoch (old r.epoch) (new r.epoch) → ((k : ℕ) → P k (old k) (old k)) → (k : ℕ) → P k (old k) (new k)
  view_each P older own newer k = elim (cases_lt k r.epoch) [
    | inl under ↦ older k under (prunes.older k under)
    | inr over ↦ elim (cases_eq k r.epoch) [
      | inl same ↦ subst (λ j. P j (old j) (new j)) (sym same) own
      | inr other ↦ subst (P k (old k)) (sym (prunes.newer k (omega (arith, over, other)))) (newer k)
    ]
  ]

  bare_grows : (k : ℕ) → k < r.epoch → (t u : EpochState) → IsBare u → GrowsEpoch [] (is_pruned_by r k) t u
  bare_grows k under t (opened d) bare = absurd bare
  bare_grows k under t (shut l) bare = record {
    sure = λ x has stays. absurd (let clash : false ≡ true = sym stays ∙ older_pruned k under x in cc);
    held = λ x has stays. absurd (let clash : false ≡ true = sym stays ∙ older_pruned k under x in cc);
    may = λ x has. in_nothing x (subst (λ m. Contains m.may x) bare has);
  }

  pub view_goes_on : GoesOn [] (is_below r) (kept_of old b.highest) (kept_of new c.highest) (covers_of old) (covers_of new)
  view_goes_on = goes_on (λ k. []) (is_pruned_by r) [] (is_below r) old new b c lie lie_new nested_new (λ k y has. has) (view_lets r)
      (view_each (λ k t u. GrowsEpoch [] (is_pruned_by r k) t u) (λ k under bare. bare_grows k under (old k) (new k) bare) (changes_grows (λ y. y) (PruneBelow r) [] (is_pruned_by r r.epoch) (old r.epoch) (new r.epoch) (λ x has. has) own_stays prunes.own) (λ k. grows_itself [] (is_pruned_by r k) (old k)))
      (view_each (λ k t u. TicketsStay (is_below r) t u) (λ k under bare p x has stays. absurd (let clash : false ≡ true = sym stays ∙ below_older k x ((lie k).held x (covered_held (old k) p (nested k) x has)) under in cc)) (stay_changed (λ y. y) (PruneBelow r) (is_below r) (old r.epoch) (new r.epoch) (nested_last (old r.epoch) (nested r.epoch)) below_stays prunes.own) (λ k p x has stays. has))

  pub view_staged : (stage : Stage) → IsAtStage stage old → IsAtStage stage new
  view_staged stage staged = staged_as stage old new staged (view_each (λ k t u. StaysShut t u) (λ k under bare. shut_bare (old k) (new k) bare) (shut_changed (λ y. y) (PruneBelow r) (old r.epoch) (new r.epoch) prunes.own) (λ k. shut_as (old k) (old k) refl))

-- WHAT A CRASH LEFT IS TAKEN UP

pub loads_entries : (stage : Stage) (old new : EpochStates) (b : Bounds) → LieWithin new b → ((k : ℕ) → IsNestedEpoch (new k)) → IsAtStage stage old → ((k : ℕ) → OpensOrStays (old k) (new k)) → ((k : ℕ) → HasSome (old k) → is_opened (new k) ≡ true) → is_fresh stage ≡ true → LoadsEntries (kept_of old b.highest) (kept_of new b.highest)
loads_entries stage old new b lie nested staged opens opened_now is = (loads_all old new b lie nested (record { shut = staged.fresh is; opens = opens; opened = opened_now })).0

pub load_goes_on : (old new : EpochStates) (b : Bounds) → LieWithin old b → LieWithin new b → ((k : ℕ) → IsNestedEpoch (new k)) → ((k : ℕ) → OpensOrStays (old k) (new k)) → GoesOn [] none_goes (kept_of old b.highest) (kept_of new b.highest) (covers_of old) (covers_of new)
load_goes_on old new b lie lie_new nested opens = goes_on (λ k. []) (λ k. none_goes) [] none_goes old new b b lie lie_new nested (λ k y has. has) (λ k y own stays. stays) (λ k. stays_grow [] none_goes (old k) (new k) (opens k)) (λ k. stay_or_opened none_goes (old k) (new k) (opens k))

-- A CRASH, AND AN OPENING

held_shut : (t : EpochState) → is_opened t ≡ false → held_in t ≡ []
held_shut (opened b) is = absurd cc
held_shut (shut l) is = refl

pub left_is : (states : EpochStates) (ways : List EpochStates) (b : Bounds) (lefts : List Bounds) → AllByRecursion (λ left. (k : ℕ) → left k ≡ left_of_epoch (states k)) ways → length ways ≡ 1 → lefts ≡ b ∷ [] → left_of_ways ways lefts ≡ left_of (kept_of states b.highest)
left_is states [] b lefts same one is = absurd (omega (arith, one))
left_is states (way ∷ []) b lefts same one is = ap (left_of_ways (way ∷ [])) is
    ∙ ap₂ {C = Left Cached} (λ s m. record { sure = s; may = m }) (ap (up_to (λ k. sure_in (way k))) top ∙ up_to_same (λ k. sure_in (way k)) (λ k. sure_in (states k)) b.highest (λ k within. ap sure_in (same.0 k) ∙ sure_left (states k)))
    (ap (up_to (λ k. may_in (way k))) top ∙ up_to_same (λ k. may_in (way k)) (λ k. may_in (states k)) b.highest (λ k within. ap may_in (same.0 k) ∙ may_left (states k)))
  where
    top : max b.highest 0 ≡ b.highest
    top = omega arith

    sure_left : (t : EpochState) → sure_in (left_of_epoch t) ≡ sure_in t
    sure_left (opened c) = refl
    sure_left (shut l) = refl

    may_left : (t : EpochState) → may_in (left_of_epoch t) ≡ may_in t
    may_left (opened c) = refl
    may_left (shut l) = refl
left_is states (way ∷ other ∷ ways) b lefts same one is = absurd (omega (arith, one))

pub reopens : (ways : List EpochStates) (lefts : List Bounds) (new : EpochStates) (c : Bounds) → AllLieWithin ways lefts → MightBe ways new → ((k : ℕ) → is_opened (new k) ≡ false) → Contains lefts c → ReopensCache (left_of_ways ways lefts) (kept_of new c.highest)
reopens ways lefts new c within (way, among, same) closed one = record {
  held = up_to_none (λ k. held_in (new k)) c.highest (λ k under. held_shut (new k) (closed k));
  sure = λ x has. let (k, under, found) = of_up_to (λ k. sure_in (way k)) (greatest_highest lefts) x (of_all ways (greatest_highest lefts) x has way among) in
      in_up_to (λ k. sure_in (new k)) c.highest k x (to_highest c k ((within way among c one k).inside (sure_some (way k) x found))) (subst (λ t. Contains (sure_in t) x) (sym (same k)) found);
  may = λ x has. let (k, under, found) = of_up_to (λ k. may_in (new k)) c.highest x has in
      let top = up_to_greatest lefts c one in
      in_some ways (greatest_highest lefts) x way among (in_up_to (λ k. may_in (way k)) (greatest_highest lefts) k x (omega (arith, under, top)) (subst (λ t. Contains (may_in t) x) (same k) found));
}

pub fresh_cache : (states : EpochStates) → ((k : ℕ) → is_opened (states k) ≡ false) → IsAtStage Fresh states
fresh_cache states closed = record { fresh = λ is. closed; loaded = λ is. absurd cc }

pub unopens : (ways : List EpochStates) (lefts : List Bounds) (ways_left : List EpochStates) (lefts_left : List Bounds) → AllLieWithin ways lefts → 0 < length ways_left → 0 < length lefts_left → AllByRecursion (MightBe ways) ways_left → Within lefts_left lefts → UnopensCache (left_of_ways ways lefts) (lowests_of lefts) (left_of_ways ways_left lefts_left) (lowests_of lefts_left)
unopens ways lefts ways_left lefts_left within some some_bounds all fewer = record {
  sure = λ x has. in_all ways_left (greatest_highest lefts_left) x some (λ way_left among_left.
      let (way, among, same) = AllByRecursion-contains (MightBe ways) ways_left way_left all among_left in
      let (k, under, found) = of_up_to (λ k. sure_in (way k)) (greatest_highest lefts) x (of_all ways (greatest_highest lefts) x has way among) in
      in_up_to (λ k. sure_in (way_left k)) (greatest_highest lefts_left) k x (top way among k (sure_some (way k) x found)) (subst (λ t. Contains (sure_in t) x) (sym (same k)) found));
  may = λ x has.
      let (way_left, among_left, there) = of_some ways_left (greatest_highest lefts_left) x has in
      let (way, among, same) = AllByRecursion-contains (MightBe ways) ways_left way_left all among_left in
      let (k, under, found) = of_up_to (λ k. may_in (way_left k)) (greatest_highest lefts_left) x there in
      let before : Contains (may_in (way k)) x = subst (λ t. Contains (may_in t) x) (same k) found in
      in_some ways (greatest_highest lefts) x way among (in_up_to (λ k. may_in (way k)) (greatest_highest lefts) k x (reaches ways lefts within some_before way among k (may_some (way k) x before)) before);
  lowests = within_map (λ b. b.lowest) lefts_left lefts fewer;
}
  where
    top : (way : EpochStates) → Contains ways way → (k : ℕ) → HasSome (way k) → k ≤ greatest_highest lefts_left
    top way among k has = let (c, one) = one_of_some lefts_left some_bounds in let high = to_highest c k ((within way among c (fewer c one) k).inside has) in let greatest = up_to_greatest lefts_left c one in omega (arith, high, greatest)

    some_before : 0 < length lefts
    some_before = let (c, one) = one_of_some lefts_left some_bounds in let (k, lt, is) = fewer c one in omega (arith, lt)

-- CALLS THAT LEAVE THE BOUNDS

module _ (old new : EpochStates) (b c : Bounds) (lie : LieWithin old b) (lie_new : LieWithin new c) (nested : (k : ℕ) → IsNestedEpoch (old k)) (nested_new : (k : ℕ) → IsNestedEpoch (new k)) (bounds : c ≡ b) where
  lie_now : LieWithin new b
  lie_now = subst (LieWithin new) bounds lie_new

  pub finish_done : {E : Type 0} (plain : E → Cached) (t : CacheTicket) → AllChanges plain (finishes t) (old t.epoch) (new t.epoch) × KeepsOtherEpochs t.epoch old new
      → FinishesEntries (covers_of old t) (kept_of old b.highest) (kept_of new c.highest) × GoesOn [] none_goes (kept_of old b.highest) (kept_of new c.highest) (covers_of old) (covers_of new)
  finish_done plain t does = subst (λ d. FinishesEntries (covers_of old t) (kept_of old b.highest) (kept_of new d.highest) × GoesOn [] none_goes (kept_of old b.highest) (kept_of new d.highest) (covers_of old) (covers_of new)) (sym bounds)
      (finishes_all plain t old new b lie lie_now nested nested_new does.0 does.1, finish_goes_on plain t old new b lie lie_now nested nested_new does.0 does.1)

  pub height_done : (height : ℕ) → ((k : ℕ) → ThinsEpoch (is_certified_below height) (old k) (new k)) → ((k : ℕ) → IsClear (is_certified_below height) (new k))
      → (PrunesEntries (is_certified_below height) (kept_of old b.highest) (kept_of new c.highest) × FirstsStay (kept_of old b.highest).held (kept_of new c.highest).held) × GoesOn [] (is_certified_below height) (kept_of old b.highest) (kept_of new c.highest) (covers_of old) (covers_of new)
  height_done height thins clear = subst (λ d. (PrunesEntries (is_certified_below height) (kept_of old b.highest) (kept_of new d.highest) × FirstsStay (kept_of old b.highest).held (kept_of new d.highest).held) × GoesOn [] (is_certified_below height) (kept_of old b.highest) (kept_of new d.highest) (covers_of old) (covers_of new)) (sym bounds)
      (prunes_certified height old new b lie lie_now nested nested_new thins clear, certified_goes_on height old new b lie lie_now nested nested_new thins)

  pub load_done : (stage : Stage) → IsAtStage stage old → ((k : ℕ) → OpensOrStays (old k) (new k)) → ((k : ℕ) → HasSome (old k) → is_opened (new k) ≡ true)
      → (is_fresh stage ≡ true → LoadsEntries (kept_of old b.highest) (kept_of new c.highest)) × GoesOn [] none_goes (kept_of old b.highest) (kept_of new c.highest) (covers_of old) (covers_of new)
  load_done stage staged opens opened_now = subst (λ d. (is_fresh stage ≡ true → LoadsEntries (kept_of old b.highest) (kept_of new d.highest)) × GoesOn [] none_goes (kept_of old b.highest) (kept_of new d.highest) (covers_of old) (covers_of new)) (sym bounds)
      (loads_entries stage old new b lie_now nested_new staged opens opened_now, load_goes_on old new b lie lie_now nested_new opens)

pub finish_staged : {E : Type 0} (plain : E → Cached) (stage : Stage) (t : CacheTicket) (old new : EpochStates) → IsAtStage stage old → AllChanges plain (finishes t) (old t.epoch) (new t.epoch) × KeepsOtherEpochs t.epoch old new → IsAtStage stage new
finish_staged plain stage t old new staged does = staged_as stage old new staged (at_each (λ k v w. StaysShut v w) t.epoch old new does.1 (shut_all plain (finishes t) (old t.epoch) (new t.epoch) does.0) (λ k. shut_as (old k) (old k) refl))

pub height_staged : (stage : Stage) (height : ℕ) (old new : EpochStates) → IsAtStage stage old → ((k : ℕ) → ThinsEpoch (is_certified_below height) (old k) (new k)) → IsAtStage stage new
height_staged stage height old new staged thins = staged_as stage old new staged (λ k. shut_thinned (is_certified_below height) (old k) (new k) (thins k))

-- what a cache tells of which nothing was called yet
pub fresh_shelf : (keeps : Option Follows) (alarm : Alarm) (calm only : Bool) → alarm.due.items ≡ [] → alarm.faults ≡ 0 → calm ≡ true → only ≡ true → shelf_watch keeps alarm (calm && only) ≡ fresh_watch keeps
fresh_shelf keeps alarm calm only due faults is_calm is_only = ap₂ {C = Watch} (λ f d. record { faults = f; due = d; armable = true; only_armed = calm && only; keeps = keeps }) faults due ∙ ap₂ {C = Watch} (λ p q. record { faults = 0; due = []; armable = true; only_armed = p && q; keeps = keeps }) is_calm is_only

-- LOOK-UPS

pub look_found : (states : EpochStates) (b : Bounds) → LieWithin states b → (e k : ℕ) (p q : Cached → Bool) (o : Option Cached) → k ≡ e → q ≡ p → o ≡ first_found q (held_in (states k)) → o ≡ soonest (λ y. epoch_of y == e && p y) (kept_of states b.highest).held
look_found states b lie e k p q o at same is = is ∙ ap (λ j. first_found q (held_in (states j))) at ∙ found_soonest e q states b lie ∙ ap (λ f. soonest (λ y. epoch_of y == e && f y) (kept_of states b.highest).held) same

pub look_newest : (states : EpochStates) (b : Bounds) → LieWithin states b → (p q : Cached → Bool) (o : Option Cached) → q ≡ p → IsNewest q states o → o ≡ soonest p (kept_of states b.highest).held
look_newest states b lie p q o same newest = newest_soonest q states b lie o newest ∙ ap (λ f. soonest f (kept_of states b.highest).held) same
