-- What a shelf has of each epoch, and what its calls make of that.
use Rattle.std.specs.List.{AllByRecursion}
use Rattle.std.specs.Ordering.{nat_cmp}
use Rattle.std.specs.BTreeMap.{BTreeMap, get}
use Rattle.std.specs.Prelude.{Bool, Contains, Err, List, None, Ok, Option, Result, Some, [], false, filter, if◌then◌else◌, is_some, length, map, nat_le, suc, true, zero, ℕ, ⊤, ◌||◌, ◌<◌, ◌==◌, ◌∷◌, ◌≡◌, ◌≢◌, ◌≤◌, ◌⊎◌}
use Rattle.std.proofs.Common.{arith, subst}
use Rattle.mar_store.specs.Changes.{Left, Within, left_of}
use Rattle.mar_store.specs.Lost.{wreck_of}
use Rattle.mar_store.specs.declared.Lost.{Lost}
use Rattle.mar_store.specs.Names.{Names}
use Rattle.mar_model.specs.Cached.{Cached}
use Rattle.mar_model.specs.Sections.{first_found, is_in}
use Rattle.mar_epochs.specs.EpochArchives.{AreNestedArchives, Book, ChangesArchives, FindsArchives, IsSettled, is_fault, nothing_left}
use Rattle.mar_model.specs.declared.Section.{Section}
use Rattle.mar_epochs.specs.declared.change.Change.{Change}
use Rattle.mar_epochs.specs.declared.slot.Slot.{Slot}
use Rattle.mar_epochs.specs.declared.slot.Slot.TheVariants.{Away, Leftover, Standing}

-- An epoch is open, or this is left of it, which may be nothing.
pub data EpochState : Type 0 where
  opened : Book → EpochState
  shut : Left Cached → EpochState

-- what a shelf has of each epoch
abbrev pub EpochStates : Type 0
EpochStates = ℕ → EpochState

-- what a crash leaves of it
abbrev pub left_of_epoch : EpochState → EpochState
left_of_epoch (opened b) = shut (left_of b.kept)
left_of_epoch (shut l) = shut l

abbrev pub is_opened : EpochState → Bool
is_opened (opened b) = true
is_opened _ = false

-- what is sure is held, where the epoch is open, and what is held or sure may be left
abbrev pub IsNestedEpoch : EpochState → Type 0
IsNestedEpoch (opened b) = AreNestedArchives b
IsNestedEpoch (shut l) = Within l.sure l.may

-- a crash can leave all that is held of it, in the order of the puts, and nothing else, where it is open
abbrev pub IsWholeEpoch : EpochState → Type 0
IsWholeEpoch (opened b) = b.kept.may ≡ b.kept.held
IsWholeEpoch (shut l) = ⊤

-- what is held, what is sure and what may be left of an epoch
abbrev pub held_in : EpochState → List Cached
held_in (opened b) = b.kept.held
held_in _ = []

abbrev pub sure_in : EpochState → List Cached
sure_in (opened b) = b.kept.sure
sure_in (shut l) = l.sure

abbrev pub may_in : EpochState → List Cached
may_in (opened b) = b.kept.may
may_in (shut l) = l.may

-- each epoch but one is as it was
abbrev pub KeepsOtherEpochs : ℕ → EpochStates → EpochStates → Type 0
KeepsOtherEpochs e old new = (k : ℕ) → k ≢ e → new k ≡ old k

-- each epoch but one is as a crash leaves it
abbrev pub LeavesOtherEpochs : ℕ → EpochStates → EpochStates → Type 0
LeavesOtherEpochs e old left = (k : ℕ) → k ≢ e → left k ≡ left_of_epoch (old k)

-- An epoch is opened on what may be left of it; one that is open stays as it is.
abbrev pub OpensEpoch : EpochState → EpochState → Type 0
OpensEpoch (opened b) new = new ≡ opened b
OpensEpoch (shut l) new = (b : Book) × FindsArchives l b.kept × (new ≡ opened b)

-- What may be left of an epoch, since some start: what was sure is sure, what was held may be left, and nothing else but
-- what might be and what was put.
pub record LeavesEpoch (put : List Cached) (gone : Cached → Bool) (old left : EpochState) : Type 0 where
  pub sure : (x : Cached) → Contains (sure_in old) x → gone x ≡ false → Contains (sure_in left) x
  pub held : (x : Cached) → Contains (held_in old) x → gone x ≡ false → Contains (may_in left) x
  pub may : (x : Cached) → Contains (may_in left) x → Contains (may_in old) x ⊎ Contains put x

-- what passes no test
abbrev pub none_gone : Cached → Bool
none_gone x = false

-- What a call that failed keeps of an epoch: what might be left may be left, but for what the call takes, and nothing is sure
-- that wasn't.
pub record StaysEpoch (gone : Cached → Bool) (old left : EpochState) : Type 0 where
  pub may : (x : Cached) → Contains (may_in old) x → gone x ≡ false → Contains (may_in left) x
  pub only : Within (sure_in left) (sure_in old)

-- What is left where a call failed that opens an epoch or changes it, of which there was this before.
pub record LosesEpoch (e : ℕ) (was : EpochState) (put : List Cached) (gone : Cached → Bool) (old left : EpochStates) : Type 0 where
  pub here : LeavesEpoch put gone was (left e)
  pub stays : StaysEpoch gone was (left e)
  pub others : LeavesOtherEpochs e old left

-- A change of an epoch that is open; of another nothing changes.
abbrev pub ChangesEpoch : {E : Type 0} → (E → Cached) → Change E → EpochState → EpochState → Type 0
ChangesEpoch plain change (opened b) new = (c : Book) × ChangesArchives plain change b c × (new ≡ opened c)
ChangesEpoch plain change old new = new ≡ old

-- what a ticket covers is sure already, where a change finishes one of an epoch that is open
abbrev pub IsSettledEpoch : {E : Type 0} → Change E → EpochState → Type 0
IsSettledEpoch change (opened b) = IsSettled change b
IsSettledEpoch change _ = ⊤

-- nothing is open or left of it
abbrev pub IsBare : EpochState → Type 0
IsBare (opened b) = ⊥
IsBare (shut l) = l ≡ nothing_left

-- An epoch that was to be destroyed is left as it was, or nothing is left of it.
abbrev pub IsLeftOrBare : EpochState → EpochState → Type 0
IsLeftOrBare old left = (left ≡ left_of_epoch old) ⊎ IsBare left

-- What is left where an epoch could not be destroyed.
pub record DestroysOrNot (e : ℕ) (old left : EpochStates) : Type 0 where
  pub here : IsLeftOrBare (old e) (left e)
  pub others : LeavesOtherEpochs e old left

-- whether something stands under an epoch's name, or is at hand of it
abbrev pub is_there : {A W : Type 0} → BTreeMap ℕ (Slot A W) → Names W → ℕ → Bool
is_there slots names k = is_some (names k) || is_some (get nat_cmp slots k)

-- something is open or left of it
abbrev pub HasSome : EpochState → Type 0
HasSome (opened b) = ⊤
HasSome (shut l) = l ≢ nothing_left

-- the number of a sync that starts now, where the epoch is open: its ticket covers all that an archive holds
abbrev pub IsTicket : EpochState → Option ℕ → Type 0
IsTicket (opened b) (Some n) = (n ≤ b.number) × ((s : Section) → b.covers s n ≡ filter (is_in s) b.kept.held)
IsTicket (opened b) None = ⊥
IsTicket _ (Some n) = ⊥
IsTicket _ None = ⊤

-- what is found in the newest epoch that has what passes
abbrev pub IsNewest : (Cached → Bool) → EpochStates → Option Cached → Type 0
IsNewest passes states None = (k : ℕ) → first_found passes (held_in (states k)) ≡ None
IsNewest passes states (Some x) = (e : ℕ) × (first_found passes (held_in (states e)) ≡ Some x) × ((k : ℕ) → e < k → first_found passes (held_in (states k)) ≡ None)

abbrev pub SameEpochs : EpochStates → EpochStates → Type 0
SameEpochs old new = (k : ℕ) → new k ≡ old k

-- it is what may be left, in one of the ways in which that may be
abbrev pub MightBe : List EpochStates → EpochStates → Type 0
MightBe lefts states = (left : EpochStates) × Contains lefts left × SameEpochs left states

-- an epoch, where it has what is looked for and is newer than another, else that
abbrev pub newer_of : ℕ → Bool → Option ℕ → Option ℕ
newer_of e false other = other
newer_of e true None = Some e
newer_of e true (Some other) = if nat_le e other then Some other else Some e

-- IN THE CODE

-- what a depot has under a name
abbrev pub state_under : {W : Type 0} → (W → Left Cached) → Option W → EpochState
state_under left None = shut nothing_left
state_under left (Some w) = shut (left w)

-- What a slot has of an epoch, of which a depot has this under its name. It is open where the opening that goes on opened it.
abbrev pub state_of_slot : {A W : Type 0} → (A → Book) → (W → Left Cached) → ℕ → Option W → Slot A W → EpochState
state_of_slot book left opening name (Standing v o) = if o == opening then opened (book v) else shut (left_of (book v).kept)
state_of_slot book left opening name (Leftover w) = shut (left w)
state_of_slot book left opening name Away = state_under left name

abbrev pub state_at : {A W : Type 0} → (A → Book) → (W → Left Cached) → ℕ → Option (Slot A W) → Option W → EpochState
state_at book left opening (Some slot) name = state_of_slot book left opening name slot
state_at book left opening None name = state_under left name

abbrev pub states_of : {A W : Type 0} → (A → Book) → (W → Left Cached) → ℕ → BTreeMap ℕ (Slot A W) → Names W → EpochStates
states_of book left opening slots names k = state_at book left opening (get nat_cmp slots k) (names k)

-- Archives stand in the slot of their epoch as a call of them answered: open, or as what is left of them.
abbrev pub PutsBack : {A W S L : Type 0} → (A → Book) → (W → Left Cached) → (S → EpochStates) → (L → List EpochStates) → ℕ → EpochStates → Result A (Lost W) → Result S (Lost L) → Type 0
PutsBack book left states lefts e old (Ok v) (Ok s) = (states s e ≡ opened (book v)) × KeepsOtherEpochs e old (states s)
PutsBack book left states lefts e old (Ok v) (Err m) = ⊥
PutsBack book left states lefts e old (Err l) (Ok s) = ⊥
PutsBack book left states lefts e old (Err l) (Err m) = (is_fault m ≡ is_fault l) × AllByRecursion (λ x. (x e ≡ shut (left (wreck_of l))) × LeavesOtherEpochs e old x) (lefts (wreck_of m))

-- of some ways in which names may be left there are some
pub some_ways : {A B : Type 0} (f : A → B) (ways : List A) → 0 < length ways → 0 < length (map f ways)
some_ways f [] some = some
some_ways f (way ∷ ways) some = omega arith

-- no slot is of a later opening
abbrev pub is_upto : {A W : Type 0} → ℕ → Option (Slot A W) → Bool
is_upto opening (Some (Standing v o)) = nat_le o opening
is_upto opening _ = true

-- as those of each epoch's archives are nested, and what is left of them
module _ {A W : Type 0} (book : A → Book) (left : W → Left Cached) (nested : (v : A) → AreNestedArchives (book v)) (nested_left : (w : W) → Within (left w).sure (left w).may) (opening : ℕ) (slots : BTreeMap ℕ (Slot A W)) where
  pub nested_states : (names : Names W) (k : ℕ) → IsNestedEpoch (states_of book left opening slots names k)
  nested_states names k = at_slot (get nat_cmp slots k) (names k)
    where
      by : (v : A) (b : Bool) → IsNestedEpoch (if b then opened (book v) else shut (left_of (book v).kept))
      by v true = nested v
      by v false = λ x has. (nested v).held_may x ((nested v).sure_held x has)

      under : (name : Option W) → IsNestedEpoch (state_under left name)
      under None = λ x has. has
      under (Some w) = nested_left w

      at_slot : (slot : Option (Slot A W)) (name : Option W) → IsNestedEpoch (state_at book left opening slot name)
      at_slot (Some (Standing v o)) name = by v (o == opening)
      at_slot (Some (Leftover w)) name = nested_left w
      at_slot (Some Away) name = under name
      at_slot None name = under name

  -- the same after a crash, whatever a depot is left with
  pub nested_ways : (ways : List (Names W)) (states : EpochStates) → Contains (map (λ names k. left_of_epoch (states_of book left opening slots names k)) ways) states → (k : ℕ) → IsNestedEpoch (states k)
  nested_ways [] states (n, less, is) k = absurd (omega (arith, less))
  nested_ways (names ∷ ways) states (zero, less, is) k = subst (λ t. IsNestedEpoch (t k)) is (after (states_of book left opening slots names k) (nested_states names k))
    where
      after : (t : EpochState) → IsNestedEpoch t → IsNestedEpoch (left_of_epoch t)
      after (opened b) both = λ x has. both.held_may x (both.sure_held x has)
      after (shut l) both = both
  nested_ways (names ∷ ways) states (suc n, less, is) k = nested_ways ways states (n, omega (arith, less), is) k

-- as each epoch's archives are whole
pub whole_states : {A W : Type 0} (book : A → Book) (left : W → Left Cached) (whole : (v : A) → (book v).kept.may ≡ (book v).kept.held) (opening : ℕ) (slots : BTreeMap ℕ (Slot A W)) (names : Names W) (k : ℕ) → IsWholeEpoch (states_of book left opening slots names k)
whole_states {A} {W} book left whole opening slots names k = at_slot (get nat_cmp slots k) (names k)
  where
    by : (v : A) (b : Bool) → IsWholeEpoch (if b then opened (book v) else shut (left_of (book v).kept))
    by v true = whole v
    by v false = tt

    under : (name : Option W) → IsWholeEpoch (state_under left name)
    under None = tt
    under (Some w) = tt

    at_slot : (slot : Option (Slot A W)) (name : Option W) → IsWholeEpoch (state_at book left opening slot name)
    at_slot (Some (Standing v o)) name = by v (o == opening)
    at_slot (Some (Leftover w)) name = tt
    at_slot (Some Away) name = under name
    at_slot None name = under name
