-- As each entry is small enough for a store, so are those that may be left of epochs.
use Rattle.std.specs.Coded.{le_prop}
use Rattle.std.specs.Ordering.{nat_cmp}
use Rattle.std.specs.BTreeMap.{BTreeMap, get}
use Rattle.std.specs.Prelude.{Bool, Contains, List, None, Option, Some, [], false, if◌then◌else◌, map, suc, true, zero, ℕ, ◌==◌, ◌∷◌}
use Rattle.std.proofs.Common.{arith, subst}
use Rattle.mar_store.specs.Changes.{Left, left_of}
use Rattle.mar_store.specs.Names.{Names}
use Rattle.mar_model.specs.Cached.{Cached, certified_entry, finalization_entry, notarization_entry, notarized_entry, verified_entry}
use Rattle.mar_model.specs.SmallEntries.{AreSmallEntries, IsSmallEntry}
use Rattle.mar_epochs.specs.EntryLogs.{entries, log_of}
use Rattle.mar_epochs.specs.EpochArchives.{Book}
use Rattle.mar_epochs.specs.EpochStates.{EpochState, EpochStates, left_of_epoch, may_in, opened, shut, state_at, state_under, states_of}
use Rattle.mar_epochs.specs.declared.logged_entry.LoggedEntry.{LoggedEntry}
use Rattle.mar_epochs.specs.declared.slot.Slot.{Slot}
use Rattle.mar_epochs.specs.declared.slot.Slot.TheVariants.{Away, Leftover, Standing}

pub IsSmallEntry-prop : (x : Cached) → IsProp (IsSmallEntry x)
IsSmallEntry-prop (finalization_entry f) = le_prop
IsSmallEntry-prop (verified_entry r b) = le_prop
IsSmallEntry-prop (notarized_entry r b) = le_prop
IsSmallEntry-prop (certified_entry e b) = le_prop
IsSmallEntry-prop (notarization_entry n) = le_prop

pub small_none : AreSmallEntries []
small_none x (k, less, is) = absurd (omega (arith, less))

pub small_log : {E : Type 0} (plain : E → Cached) → ((e : E) → IsSmallEntry (plain e)) → (items : List (LoggedEntry E)) → AreSmallEntries (entries (log_of plain items))
small_log plain small [] x has = small_none x has
small_log plain small (f ∷ items) x (zero, less, is) = subst IsSmallEntry is (small f.entry)
small_log plain small (f ∷ items) x (suc k, less, is) = small_log plain small items x (k, omega (arith, less), is)

-- what may be left of each epoch
abbrev pub AreSmallEpochs : EpochStates → Type 0
AreSmallEpochs states = (k : ℕ) → AreSmallEntries (may_in (states k))

-- as that of each epoch's archives is small, and what is left of them
module _ {A W : Type 0} (book : A → Book) (left : W → Left Cached) (small : (v : A) → AreSmallEntries (book v).kept.may) (small_left : (w : W) → AreSmallEntries (left w).may) (opening : ℕ) (slots : BTreeMap ℕ (Slot A W)) where
  pub small_states : (names : Names W) → AreSmallEpochs (states_of book left opening slots names)
  small_states names k = at_slot (get nat_cmp slots k) (names k)
    where
      by : (v : A) (b : Bool) → AreSmallEntries (may_in (if b then opened (book v) else shut (left_of (book v).kept)))
      by v true = small v
      by v false = small v

      under : (name : Option W) → AreSmallEntries (may_in (state_under left name))
      under None = small_none
      under (Some w) = small_left w

      at_slot : (slot : Option (Slot A W)) (name : Option W) → AreSmallEntries (may_in (state_at book left opening slot name))
      at_slot (Some (Standing v o)) name = by v (o == opening)
      at_slot (Some (Leftover w)) name = small_left w
      at_slot (Some Away) name = under name
      at_slot None name = under name

  -- the same after a crash, whatever a depot is left with
  pub small_ways : (ways : List (Names W)) (states : EpochStates) → Contains (map (λ names k. left_of_epoch (states_of book left opening slots names k)) ways) states → AreSmallEpochs states
  small_ways [] states (n, less, is) k = absurd (omega (arith, less))
  small_ways (names ∷ ways) states (zero, less, is) k = subst (λ t. AreSmallEntries (may_in (t k))) is (after (states_of book left opening slots names k) (small_states names k))
    where
      after : (t : EpochState) → AreSmallEntries (may_in t) → AreSmallEntries (may_in (left_of_epoch t))
      after (opened b) small_may = small_may
      after (shut l) small_may = small_may
  small_ways (names ∷ ways) states (suc n, less, is) k = small_ways ways states (n, omega (arith, less), is) k
