-- What a life's cache keeps in its place, and what its calls come to.
use Rattle.std.specs.Prelude.{Bool, Contains, List, None, Option, [], false, max, option_map, true, ℕ, ◌++◌, ◌≡◌, ◌≤◌, ◌∷◌}
use Rattle.std.proofs.Common.{arith, refl}
use Rattle.mar_store.specs.Changes.{Left, Within, left_of}
use Rattle.mar_store.specs.Kept.{Kept}
use Rattle.mar_store.specs.Luck.{keeps_by}
use Rattle.mar_store.specs.Watch.{Watch}
use Rattle.mar_types.specs.Round.{Round}
use Rattle.mar_model.specs.AllEntries.{LeavesEntries, PrunesEntries}
use Rattle.mar_model.specs.Cache.{is_below}
use Rattle.mar_model.specs.CacheCalls.{FinishesEntries, IsNestedCache, JoinsTickets, KeepsTickets, LosesCache, PutsAndStarts, PutsAndSyncs, ReopensCache, StartsSync, is_of_archive, none_goes}
use Rattle.mar_model.specs.Cached.{Cached, epoch_of}
use Rattle.mar_model.specs.Faults.{Fault, cache_store}
use Rattle.mar_model.specs.Held.{HeldCache, LeavesUnloaded, Passes}
use Rattle.mar_model.specs.OpenSyncs.{syncs_by}
use Rattle.mar_model.specs.LuckyEntries.{lucky_entries}
use Rattle.mar_model.specs.SmallEntries.{AreSmallEntries}
use Rattle.mar_model.specs.Places.{is_open, kept_at}
use Rattle.mar_model.specs.declared.OpenTicket.{OpenTicket}
use Rattle.mar_model.specs.declared.Place.{Place}
use Rattle.mar_model.specs.declared.Place.TheVariants.{Away, Lost, Open}
use Rattle.mar_model.specs.declared.CacheTicket.{CacheTicket}
use Rattle.mar_model.specs.declared.Section.{Section}
use Rattle.mar_model.specs.declared.Started.{Started}
use Rattle.mar_life.specs.Pooling.{IsFaultOf}

-- What a life's cache keeps beside its open syncs: its entries, whether what a crash left was taken up, whether nothing was put
-- since the opening and nothing taken up, and what luck picked.
pub record LifeEntries : Type 0 where
  pub kept : Kept Cached
  pub loaded : Bool
  pub fresh : Bool
  pub finds : Option (List Cached)

-- with its open syncs, by what its tickets cover
abbrev pub with_syncs : LifeEntries → (CacheTicket → List Cached) → List OpenTicket → HeldCache
with_syncs e covers tickets = record { kept = e.kept; loaded = e.loaded; fresh = e.fresh; finds = e.finds; syncs = syncs_by covers tickets }

-- IN ITS PLACE

-- the lowest epoch of a cache that is there
abbrev pub lowest_at : {S W : Type 0} → (S → ℕ) → Place S W → ℕ
lowest_at lowest (Open s) = lowest s
lowest_at lowest _ = 0

-- those that a crash now may leave
abbrev pub lowests_at : {S W : Type 0} → (S → ℕ) → (W → List ℕ) → Place S W → List ℕ
lowests_at lowest left (Open s) = lowest s ∷ []
lowests_at lowest left (Lost w) = left w
lowests_at lowest left Away = []

-- it is there and so
abbrev pub is_so_at : {S W : Type 0} → (S → Bool) → Place S W → Bool
is_so_at is (Open s) = is s
is_so_at is _ = false

-- what it finds, where it is there
abbrev pub finds_at : {S W : Type 0} → (S → Option (List Cached)) → Place S W → Option (List Cached)
finds_at finds (Open s) = finds s
finds_at finds _ = None

-- what a life's stores see of it
abbrev pub held_at : {S W : Type 0} → (S → Kept Cached) → (S → Bool) → (S → Bool) → (S → Option (List Cached)) → (W → Left Cached) → Place S W → LifeEntries
held_at kept loaded fresh finds left place = record { kept = kept_at kept left place; loaded = is_so_at loaded place; fresh = is_so_at fresh place; finds = finds_at finds place }

-- what a ticket covers of one that is there
abbrev pub covers_at : {S W : Type 0} → (S → CacheTicket → List Cached) → Place S W → CacheTicket → List Cached
covers_at covers (Open s) = covers s
covers_at covers _ = λ ticket. []

from_zero : (n : ℕ) → 0 ≤ n
from_zero n = omega arith

none_in : {A P : Type 0} (x : A) → Contains [] x → P
none_in x (k, lt, is) = absurd (omega (arith, lt))

-- what may be left of a cache in its place is small
pub small_at : {S W : Type 0} (kept : S → Kept Cached) (left : W → Left Cached) → ((s : S) → AreSmallEntries (kept s).may) → ((w : W) → AreSmallEntries (left w).may) → (place : Place S W) → AreSmallEntries (kept_at kept left place).may
small_at kept left small small_left (Open s) = small s
small_at kept left small small_left (Lost w) = small_left w
small_at kept left small small_left Away = λ x has. none_in x has

-- a ticket of two archives covers what one of each covers
pub joins_at : {S W : Type 0} (covers : S → CacheTicket → List Cached) → ((s : S) → JoinsTickets (covers s)) → (place : Place S W) → JoinsTickets (covers_at covers place)
joins_at covers joins (Open s) = joins s
joins_at covers joins (Lost w) = λ e p q. refl
joins_at covers joins Away = λ e p q. refl

module _ {S W : Type 0} (kept : S → Kept Cached) (lowest : S → ℕ) (loaded : S → Bool) (left : W → Left Cached) (lowests : W → List ℕ) where
  -- what a cache keeps it keeps in its place
  pub nested_at : ((s : S) → IsNestedCache (kept s) (lowest s) (loaded s)) → ((w : W) → Within (left w).sure (left w).may) → (place : Place S W) → IsNestedCache (kept_at kept left place) (lowest_at lowest place) (is_so_at loaded place)
  nested_at nested within (Open s) = nested s
  nested_at nested within (Lost w) = record { sure_held = λ is. absurd cc; held_may = λ x has. none_in x has; sure_may = within w; above = λ x has. from_zero (epoch_of x) }
  nested_at nested within Away = record { sure_held = λ is. absurd cc; held_may = λ x has. has; sure_may = λ x has. has; above = λ x has. from_zero (epoch_of x) }

  -- a crash may leave the lowest epoch of one that is there, and no other
  pub only_lowest_at : (place : Place S W) → is_open place ≡ true → lowests_at lowest lowests place ≡ lowest_at lowest place ∷ []
  only_lowest_at (Open s) there = refl
  only_lowest_at (Lost w) there = absurd cc
  only_lowest_at Away there = absurd cc

  -- of one that is lost nothing is held
  pub nothing_at : (place : Place S W) → is_open place ≡ false → ((kept_at kept left place).held ≡ []) × (is_so_at loaded place ≡ false)
  nothing_at (Open s) gone = absurd cc
  nothing_at (Lost w) gone = (refl, refl)
  nothing_at Away gone = (refl, refl)

-- CALLS

-- A call failed that was to put these and to prune what the test passes, or there was no cache to call: what was there is
-- left, and the fault has its cause.
pub record FailsCache (put : List Cached) (gone : Cached → Bool) (old : Kept Cached) (were : List ℕ) (before : Watch) (new : Kept Cached) (now : List ℕ) (after : Watch) (fault : Fault) : Type 0 where
  pub loses : LosesCache put gone old were (left_of new) now
  pub cause : IsFaultOf cache_store before fault after

-- A finalization was put, or another entry whose archive is synced: it is there, and the rest of what a life sees is as it was.
pub record PutsInLife (x : Cached) (old new : LifeEntries) (lowest : ℕ) : Type 0 where
  pub puts : PutsAndSyncs x lowest old.loaded old.kept new.kept
  pub leaves : LeavesEntries (x ∷ []) none_goes old.kept new.kept.sure new.kept.may
  pub loaded : new.loaded ≡ old.loaded

-- An entry was put, and a sync of its archive started, unless its epoch is below the lowest.
pub record StartsInLife (x : Cached) (old new : LifeEntries) (lowest : ℕ) (covers now : CacheTicket → List Cached) (started : Started) : Type 0 where
  pub puts : PutsAndStarts x lowest old.loaded old.kept new.kept now started
  pub leaves : LeavesEntries (x ∷ []) none_goes old.kept new.kept.sure new.kept.may
  pub loaded : new.loaded ≡ old.loaded
  pub tickets : KeepsTickets none_goes covers now

-- A sync of an archive was started, or there is nothing to wait for.
pub record SyncsInLife (epoch : ℕ) (section : Section) (old new : LifeEntries) (covers now : CacheTicket → List Cached) (started : Started) : Type 0 where
  pub starts : StartsSync now epoch (is_of_archive epoch section) old.kept.held started
  pub kept : new.kept ≡ old.kept
  pub leaves : LeavesEntries [] none_goes old.kept new.kept.sure new.kept.may
  pub loaded : new.loaded ≡ old.loaded
  pub fresh : new.fresh ≡ old.fresh
  pub tickets : KeepsTickets none_goes covers now

-- A sync that covers these has finished.
pub record FinishesInLife (covered : List Cached) (old new : LifeEntries) (covers now : CacheTicket → List Cached) : Type 0 where
  pub finishes : FinishesEntries covered old.kept new.kept
  pub leaves : LeavesEntries [] none_goes old.kept new.kept.sure new.kept.may
  pub loaded : new.loaded ≡ old.loaded
  pub fresh : new.fresh ≡ old.fresh
  pub tickets : KeepsTickets none_goes covers now

-- What is cached below a round was pruned.
pub record PrunesInLife (round : Round) (old new : LifeEntries) (lowest now : ℕ) (were lowests : List ℕ) : Type 0 where
  pub prunes : old.loaded ≡ true → PrunesEntries (is_below round) old.kept new.kept
  pub leaves : LeavesEntries [] (is_below round) old.kept new.kept.sure new.kept.may
  pub loaded : new.loaded ≡ old.loaded
  pub lowest_is : now ≡ max lowest round.epoch
  pub own_lowest : lowests ≡ now ∷ []
  pub within : Within lowests (were ++ round.epoch ∷ [])

-- OPENINGS

-- The cache was opened: it holds nothing yet, and what a crash left of it waits, of which luck picked where it goes by that.
pub record OpensCache {H Z : Type 0} (held : H → LifeEntries) (lowest : H → ℕ) (lowests : H → List ℕ) (intact : H → Bool) (left : Z → Left Cached) (were : Z → List ℕ) (watch : H → Watch) (watch_left : Z → Watch) (luck : ℕ) (ruin : Z) (cache : H) : Type 0 where
  pub found : ReopensCache (left ruin) (held cache).kept
  pub nested : Within (held cache).kept.sure (held cache).kept.may
  pub lowest_was : Contains (were ruin) (lowest cache)
  pub lowest_is : lowests cache ≡ lowest cache ∷ []
  pub fresh_is : (held cache).fresh ≡ true
  pub picked : (held cache).finds ≡ option_map (λ keeps. lucky_entries (keeps_by keeps luck) (left ruin)) (watch_left ruin).keeps
  pub intact_is : intact cache ≡ true
  pub passed : Passes (watch_left ruin) (watch cache)

-- it failed to open
pub record ClosesCache {Z : Type 0} (left : Z → Left Cached) (lowests : Z → List ℕ) (watch : Z → Watch) (old new : Z) (fault : Fault) : Type 0 where
  pub leaves : LeavesUnloaded (left old) (left new) (lowests old) (lowests new)
  pub cause : IsFaultOf cache_store (watch old) fault (watch new)
