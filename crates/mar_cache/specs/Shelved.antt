-- The epochs of a cache as plain data, and what its calls make of them.
use Rattle.std.specs.List.{AllByRecursion}
use Rattle.std.specs.Prelude.{Bool, Contains, List, None, Option, Some, [], false, filter, if◌then◌else◌, is_some, length, max, min, nat_le, nat_lt, not, true, ℕ, ⊤, ◌&&◌, ◌-◌, ◌^◌, ◌<◌, ◌==◌, ◌||◌, ◌∷◌, ◌≡◌, ◌≢◌, ◌≤◌, ◌⊎◌}
use Rattle.mar_types.specs.Round.{Round}
use Rattle.mar_store.specs.Changes.{Within}
use Rattle.mar_store.specs.Tickets.{last_number}
use Rattle.mar_store.specs.Watch.{Follows, Watch}
use Rattle.mar_store.specs.declared.Alarm.{Alarm}
use Rattle.mar_model.specs.Cached.{Cached, epoch_of}
use Rattle.mar_model.specs.Cache.{is_below}
use Rattle.mar_cache.specs.Bounds.{Bounds, includes}
use Rattle.mar_epochs.specs.EpochStates.{ChangesEpoch, EpochState, EpochStates, HasSome, IsBare, IsWholeEpoch, KeepsOtherEpochs, LeavesEpoch, OpensEpoch, held_in, is_opened, left_of_epoch, may_in, opened, sure_in}
use Rattle.mar_epochs.specs.declared.Change.{Change}
use Rattle.mar_epochs.specs.declared.Change.TheVariants.{Finish, Put}
use Rattle.mar_model.specs.declared.Section.{Section}
use Rattle.mar_model.specs.declared.Started.{Started}
use Rattle.mar_model.specs.declared.Started.TheVariants.{Ready, Ticket}
use Rattle.mar_model.specs.declared.CacheTicket.{CacheTicket}
use Rattle.mar_model.specs.declared.SectionSync.{SectionSync}
use Rattle.mar_model.specs.Sections.{is_in}

-- what an alarm tells; other calls than armed ones fail unless the stores below are calm
abbrev pub shelf_watch : Option Follows → Alarm → Bool → Watch
shelf_watch keeps alarm calm = record { faults = alarm.faults; due = alarm.due.items; armable = true; only_armed = calm; keeps = keeps }

-- each of these entries is of that epoch
abbrev pub AreOf : ℕ → List Cached → Type 0
AreOf k xs = (x : Cached) → Contains xs x → epoch_of x ≡ k

-- What there is of an epoch: where something is open or left, it lies from the lowest to the highest; and each entry that is
-- held, is sure or may be left there is of that epoch.
pub record LiesWithin (b : Bounds) (k : ℕ) (t : EpochState) : Type 0 where
  pub inside : HasSome t → includes b k ≡ true
  pub held : AreOf k (held_in t)
  pub sure : AreOf k (sure_in t)
  pub may : AreOf k (may_in t)

-- the same of each epoch
abbrev pub LieWithin : EpochStates → Bounds → Type 0
LieWithin states b = (k : ℕ) → LiesWithin b k (states k)

-- the same in each way in which epochs may be left, with each of the bounds that may be left
abbrev pub AllLieWithin : List EpochStates → List Bounds → Type 0
AllLieWithin ways bounds = (states : EpochStates) → Contains ways states → (b : Bounds) → Contains bounds b → LieWithin states b

-- what is put in one epoch
abbrev pub at_epoch : ℕ → List Cached → ℕ → List Cached
at_epoch e put k = if k == e then put else []

-- What is left of each epoch, since some start.
abbrev pub LeavesEpochs : (ℕ → List Cached) → (ℕ → Cached → Bool) → EpochStates → EpochStates → Type 0
LeavesEpochs put gone old left = (k : ℕ) → LeavesEpoch (put k) (gone k) (old k) (left k)

abbrev pub nothing_gone : ℕ → Cached → Bool
nothing_gone k x = false

-- What there is of an epoch after calls that went well: what was sure is sure, what was held is held, and nothing else may
-- be left but what might be and what was put.
pub record GrowsEpoch (put : List Cached) (gone : Cached → Bool) (old new : EpochState) : Type 0 where
  pub sure : (x : Cached) → Contains (sure_in old) x → gone x ≡ false → Contains (sure_in new) x
  pub held : (x : Cached) → Contains (held_in old) x → gone x ≡ false → Contains (held_in new) x
  pub may : (x : Cached) → Contains (may_in new) x → Contains (may_in old) x ⊎ Contains put x

-- the bounds with an epoch: the highest rises to it
abbrev pub raised : ℕ → Bounds → Bounds
raised e b = record b { highest = max b.highest e }

abbrev pub GrowsEpochs : (ℕ → List Cached) → (ℕ → Cached → Bool) → EpochStates → EpochStates → Type 0
GrowsEpochs put gone old new = (k : ℕ) → GrowsEpoch (put k) (gone k) (old k) (new k)

-- changes of an epoch, one after another
abbrev pub AllChanges : {E : Type 0} → (E → Cached) → List (Change E) → EpochState → EpochState → Type 0
AllChanges plain [] old new = new ≡ old
AllChanges plain (change ∷ changes) old new = (mid : EpochState) × ChangesEpoch plain change old mid × AllChanges plain changes mid new

-- An epoch is opened where it isn't open, and changed.
pub record DoesAt {E : Type 0} (plain : E → Cached) (e : ℕ) (changes : List (Change E)) (old new : EpochStates) : Type 0 where
  pub mid : EpochState
  pub opens : OpensEpoch (old e) mid
  pub done : AllChanges plain changes mid (new e)
  pub others : KeepsOtherEpochs e old new

-- the epochs are left as they are, in each way
abbrev pub AllLeft : EpochStates → List EpochStates → Type 0
AllLeft states ways = AllByRecursion (λ left. (k : ℕ) → left k ≡ left_of_epoch (states k)) ways

-- What an armed put leaves, which is done but for its sync; nothing is done where its epoch is below the lowest.
pub record IsDoneInPart {E : Type 0} (plain : E → Cached) (entry : E) (keeps : Option Follows) (b : Bounds) (old : EpochStates) (ways : List EpochStates) (lefts : List Bounds) : Type 0 where
  pub new : EpochStates
  pub ready : epoch_of (plain entry) < b.lowest → (new ≡ old) × (lefts ≡ b ∷ [])
  pub done : b.lowest ≤ epoch_of (plain entry) → DoesAt plain (epoch_of (plain entry)) (Put entry ∷ []) old new × (lefts ≡ raised (epoch_of (plain entry)) b ∷ [])
  pub whole : is_some keeps ≡ true → (k : ℕ) → IsWholeEpoch (new k)
  pub left : AllLeft new ways
  pub one : length ways ≡ 1

-- What is told after a call that was counted may have failed once more.
pub record FailsAgain (old new : Watch) : Type 0 where
  pub later : min old.faults (2 ^ 64 - 1) ≤ new.faults
  pub same : new ≡ record old { faults = new.faults }

-- What a start of a sync answers: a ticket that covers all that the archive holds, where the epoch is open.
abbrev pub IsStarted : EpochState → ℕ → Section → Started → Type 0
IsStarted (opened b) e s (Ticket t) = (t.epoch ≡ e) × (t.first.section ≡ s) × (t.first.number ≤ b.number) × (b.covers s t.first.number ≡ filter (is_in s) b.kept.held) × (t.second ≡ None)
IsStarted (opened b) e s Ready = ⊥
IsStarted _ e s (Ticket t) = ⊥
IsStarted _ e s Ready = ⊤

-- the changes that finish what a ticket names
abbrev pub finishes_second : {E : Type 0} → Option SectionSync → List (Change E)
finishes_second None = []
finishes_second (Some part) = Finish part.section part.number ∷ []

abbrev pub finishes : {E : Type 0} → CacheTicket → List (Change E)
finishes t = Finish t.first.section t.first.number ∷ finishes_second t.second

-- An epoch is opened, or it stays as it is.
abbrev pub OpensOrStays : EpochState → EpochState → Type 0
OpensOrStays old new = (new ≡ old) ⊎ OpensEpoch old new

-- What tickets cover stays, unless a prune covers it.
abbrev pub KeepsTickets : (Cached → Bool) → EpochState → EpochState → Type 0
KeepsTickets test (opened b) (opened c) = (b.number ≤ c.number) × ((s : Section) (t : ℕ) → t ≤ b.number → t ≢ last_number → (x : Cached) → Contains (b.covers s t) x → test x ≡ false → Contains (c.covers s t) x)
KeepsTickets test (opened b) _ = ⊥
KeepsTickets test _ new = ⊤

-- An epoch in which what passes the test may be gone, and nothing else.
pub record ThinsEpoch (test : Cached → Bool) (old new : EpochState) : Type 0 where
  pub grows : GrowsEpoch [] test old new
  pub within : Within (held_in new) (held_in old)
  pub rest : filter (λ x. not (test x)) (held_in new) ≡ filter (λ x. not (test x)) (held_in old)
  pub opened : is_opened new ≡ is_opened old
  pub tickets : KeepsTickets test old new

-- nothing is held that passes the test
abbrev pub IsClear : (Cached → Bool) → EpochState → Type 0
IsClear test t = (x : Cached) → Contains (held_in t) x → test x ≡ false

-- some epochs below another are destroyed, all else stays
abbrev pub DropsOlder : ℕ → EpochStates → EpochStates → Type 0
DropsOlder below old new = (k : ℕ) → (new k ≡ old k) ⊎ ((k < below) × IsBare (new k))

-- what a prune by view below a round takes: older epochs, and what is below the view in its own
abbrev pub is_pruned_by : Round → ℕ → Cached → Bool
is_pruned_by r k x = nat_lt k r.epoch || (k == r.epoch && is_below r x)

-- the bounds after a prune by view: the lowest epoch is at least the round's, and the highest too
abbrev pub pruned_bounds : Round → Bounds → Bounds
pruned_bounds r b = if nat_le r.epoch b.lowest then b else record { lowest = r.epoch; highest = max b.highest r.epoch }
