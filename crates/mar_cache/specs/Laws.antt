-- What calls that change single epochs make of all entries together, as laws.
use Rattle.std.specs.List.{AllByRecursion}
use Rattle.std.specs.Prelude.{Bool, List, Option, false, true, filter, length, ℕ, ◌&&◌, ◌<◌, ◌==◌, ◌≡◌}
use Rattle.mar_types.specs.Round.{Round}
use Rattle.mar_store.specs.Changes.{Within}
use Rattle.mar_model.specs.Cached.{Cached, epoch_of}
use Rattle.mar_model.specs.Cache.{is_below}
use Rattle.mar_epochs.specs.EpochStates.{ChangesEpoch, EpochStates, HasSome, IsBare, IsNestedEpoch, IsNewest, held_in, is_opened}
use Rattle.mar_model.specs.Sections.{is_in}
use Rattle.mar_epochs.specs.declared.Change.TheVariants.{PruneBelow}
use Rattle.mar_model.specs.declared.Section.{Section}
use Rattle.mar_model.specs.AllEntries.{FirstsStay, LeavesEntries, LoadsEntries, PrunesEntries, PutsEntry, PutsEntryNow, soonest}
use Rattle.mar_cache.specs.AsOne.{IsLoaded, greatest_highest, kept_of, may_of_some, sure_of_all}
use Rattle.mar_cache.specs.Bounds.{Bounds}
use Rattle.mar_cache.specs.Calls.{IsPut, IsPutAndSynced}
use Rattle.mar_cache.specs.Shelved.{AllLieWithin, LeavesEpochs, LieWithin, OpensOrStays, pruned_bounds, raised}

-- a put, of which `new` has the epochs, and where it rose the highest, seen over all
abbrev pub PutsOverAll : Type 0
PutsOverAll = (x : Cached) (old new : EpochStates) (b : Bounds) → LieWithin old b → IsLoaded old → IsPut x old new → PutsEntry x (kept_of old b.highest) (kept_of new (raised (epoch_of x) b).highest)

-- the same of a put whose archive is synced
abbrev pub PutsNowOverAll : Type 0
PutsNowOverAll = (x : Cached) (old new : EpochStates) (b : Bounds) → LieWithin old b → LieWithin new (raised (epoch_of x) b) → IsLoaded old → IsPutAndSynced x old new → PutsEntryNow x (kept_of old b.highest) (kept_of new (raised (epoch_of x) b).highest)

-- what a prune by view makes of the epochs: its own, newer ones, older ones
pub record PrunesByView (r : Round) (old new : EpochStates) : Type 0 where
  pub own : ChangesEpoch (λ y. y) (PruneBelow r) (old r.epoch) (new r.epoch)
  pub newer : (k : ℕ) → r.epoch < k → new k ≡ old k
  pub older : (k : ℕ) → k < r.epoch → IsBare (new k)

-- what lies below the round is gone; of a round whose first verified block is still held, that is still the first
abbrev pub PrunesOverAll : Type 0
PrunesOverAll =
    (r : Round) (old new : EpochStates) (b : Bounds) → LieWithin old b → LieWithin new (pruned_bounds r b) → IsLoaded old → PrunesByView r old new
    → PrunesEntries (is_below r) (kept_of old b.highest) (kept_of new (pruned_bounds r b).highest) × FirstsStay (kept_of old b.highest).held (kept_of new (pruned_bounds r b).highest).held

-- what the newest epoch has that passes is the soonest of all
abbrev pub FindsOverAll : Type 0
FindsOverAll = (passes : Cached → Bool) (states : EpochStates) (b : Bounds) → LieWithin states b → (o : Option Cached) → IsNewest passes states o → o ≡ soonest passes (kept_of states b.highest).held

-- what an archive of an epoch holds, among all
abbrev pub HoldsOverAll : Type 0
HoldsOverAll = (e : ℕ) (s : Section) (states : EpochStates) (b : Bounds) → LieWithin states b → filter (λ x. epoch_of x == e && is_in s x) (kept_of states b.highest).held ≡ filter (is_in s) (held_in (states e))

-- what a start takes up of the epochs, where none is open
pub record LoadsAll (old new : EpochStates) : Type 0 where
  pub shut : (k : ℕ) → is_opened (old k) ≡ false
  pub opens : (k : ℕ) → OpensOrStays (old k) (new k)
  pub opened : (k : ℕ) → HasSome (old k) → is_opened (new k) ≡ true

abbrev pub LoadsOverAll : Type 0
LoadsOverAll = (old new : EpochStates) (b : Bounds) → LieWithin new b → ((k : ℕ) → IsNestedEpoch (new k)) → LoadsAll old new → LoadsEntries (kept_of old b.highest) (kept_of new b.highest) × IsLoaded new

-- What a call that failed leaves: in each way in which epochs may be left what was sure is sure, and in some of them may be
-- left what was held.
abbrev pub LeavesOverAll : Type 0
LeavesOverAll =
    (put : ℕ → List Cached) (gone : ℕ → Cached → Bool) (all : List Cached) (lets : Cached → Bool) (old : EpochStates) (b : Bounds) (ways : List EpochStates) (lefts : List Bounds)
    → LieWithin old b → AllLieWithin ways lefts → 0 < length ways → 0 < length lefts → ((k : ℕ) → Within (put k) all) → ((k : ℕ) (y : Cached) → epoch_of y ≡ k → lets y ≡ false → gone k y ≡ false) → AllByRecursion (LeavesEpochs put gone old) ways
    → LeavesEntries all lets (kept_of old b.highest) (sure_of_all ways (greatest_highest lefts)) (may_of_some ways (greatest_highest lefts))
