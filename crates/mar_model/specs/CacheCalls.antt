-- What the calls of a cache make of it: of its entries, those of all epochs together, and of what its tickets cover.
use Rattle.std.specs.List.{list_any}
use Rattle.std.specs.Prelude.{Bool, Contains, List, None, Some, [], false, filter, if◌then◌else◌, is_some, nat_le, nat_lt, true, ℕ, ⊤, ◌&&◌, ◌++◌, ◌<◌, ◌==◌, ◌||◌, ◌∷◌, ◌≡◌, ◌≤◌}
use Rattle.mar_store.specs.Changes.{Left, Within}
use Rattle.mar_store.specs.Kept.{Kept}
use Rattle.mar_store.specs.Watch.{Watch}
use Rattle.mar_store.specs.declared.lost.Lost.{Lost}
use Rattle.mar_store.specs.declared.lost.Lost.TheVariants.{Fault as Broke, Memory as NoRoom}
use Rattle.mar_model.specs.AllEntries.{LeavesEntries, PutsEntry, PutsEntryNow, is_in_place}
use Rattle.mar_model.specs.Cache.{same_archive}
use Rattle.mar_model.specs.Cached.{Cached, epoch_of}
use Rattle.mar_model.specs.Sections.{is_in}
use Rattle.mar_model.specs.declared.section.Section.{Section}
use Rattle.mar_model.specs.declared.started.CacheTicket.{CacheTicket}
use Rattle.mar_model.specs.declared.started.SectionSync.{SectionSync}
use Rattle.mar_model.specs.declared.started.Started.{Started}
use Rattle.mar_model.specs.declared.started.Started.TheVariants.{Ready, Ticket}

-- what a call takes that prunes nothing
abbrev pub none_goes : Cached → Bool
none_goes x = false

-- an entry of that archive of that epoch
abbrev pub is_of_archive : ℕ → Section → Cached → Bool
is_of_archive e s x = epoch_of x == e && is_in s x

-- A put's answer: a ticket of one archive of that epoch, which covers what passes of what is held, and nothing else.
abbrev pub GivesTicket : (CacheTicket → List Cached) → ℕ → (Cached → Bool) → List Cached → Started → Type 0
GivesTicket covers e passes held (Ticket t) = (t.epoch ≡ e) × (t.second ≡ None) × (covers t ≡ filter passes held)
GivesTicket covers e passes held Ready = ⊥

-- there is nothing to wait for
abbrev pub is_ready : Started → Bool
is_ready Ready = true
is_ready (Ticket t) = false

-- A put that starts a sync of its archive. Nothing is done where its epoch is below the lowest; what a put makes of a cache
-- that isn't loaded is said by `GoesOn` alone.
pub record PutsAndStarts (x : Cached) (lowest : ℕ) (loaded : Bool) (old new : Kept Cached) (covers : CacheTicket → List Cached) (started : Started) : Type 0 where
  pub ready : epoch_of x < lowest → (started ≡ Ready) × (new ≡ old)
  pub done : loaded ≡ true → lowest ≤ epoch_of x → PutsEntry x old new × GivesTicket covers (epoch_of x) (same_archive x) new.held started

-- The same of a put whose archive is synced.
pub record PutsAndSyncs (x : Cached) (lowest : ℕ) (loaded : Bool) (old new : Kept Cached) : Type 0 where
  pub ready : epoch_of x < lowest → new ≡ old
  pub done : loaded ≡ true → lowest ≤ epoch_of x → PutsEntryNow x old new

-- What a start of a sync answers: such a ticket, or that there is nothing to wait for, where nothing passes.
abbrev pub StartsSync : (CacheTicket → List Cached) → ℕ → (Cached → Bool) → List Cached → Started → Type 0
StartsSync covers e passes held (Ticket t) = (t.epoch ≡ e) × (t.second ≡ None) × (covers t ≡ filter passes held)
StartsSync covers e passes held Ready = (x : Cached) → Contains held x → passes x ≡ false

-- what each ticket covers stays, but for what the test passes
abbrev pub KeepsTickets : (Cached → Bool) → (CacheTicket → List Cached) → (CacheTicket → List Cached) → Type 0
KeepsTickets gone old new = (t : CacheTicket) (x : Cached) → Contains (old t) x → gone x ≡ false → Contains (new t) x

-- a ticket of two archives covers what one of each covers
abbrev pub JoinsTickets : (CacheTicket → List Cached) → Type 0
JoinsTickets covers = (e : ℕ) (p q : SectionSync)
    → covers (record { epoch = e; first = p; second = Some q }) ≡ covers (record { epoch = e; first = p; second = None }) ++ covers (record { epoch = e; first = q; second = None })

-- A call that went well: what was sure is sure, but for what the test passes, and no more may be left but what was put;
-- what tickets cover stays.
pub record GoesOn (put : List Cached) (gone : Cached → Bool) (old new : Kept Cached) (covers now : CacheTicket → List Cached) : Type 0 where
  pub leaves : LeavesEntries put gone old new.sure new.may
  pub tickets : KeepsTickets gone covers now

-- A call that failed: the same of what it leaves. Its lowest epoch is left as it was, or as it was to be.
pub record LosesCache (put : List Cached) (gone : Cached → Bool) (old : Kept Cached) (were : List ℕ) (left : Left Cached) (now : List ℕ) : Type 0 where
  pub leaves : LeavesEntries put gone old left.sure left.may
  pub lowests : Within now were

-- where an entry comes that is put: behind those of its epoch and of older ones
abbrev pub put_behind : Cached → List Cached → List Cached
put_behind x xs = filter (λ y. nat_le (epoch_of y) (epoch_of x)) xs ++ x ∷ filter (λ y. nat_lt (epoch_of x) (epoch_of y)) xs

-- nothing is done of a put whose epoch is below the lowest, or whose place is taken
abbrev pub is_ignored : Cached → ℕ → Kept Cached → Bool
is_ignored x lowest kept = nat_lt (epoch_of x) lowest || list_any (is_in_place x) kept.held

-- What an armed put leaves, which is done but for its sync: what might be left may be left, and the entry; what was sure is
-- sure, and nothing else.
pub record LeavesPut (x : Cached) (lowest : ℕ) (old : Kept Cached) (left : Left Cached) : Type 0 where
  pub may : left.may ≡ (if is_ignored x lowest old then old.may else put_behind x old.may)
  pub sure : Within left.sure old.sure

-- A put that failed leaves just that, where it answers a fault: of a loaded cache that goes by luck and in which only armed
-- calls fail, unless memory ran out for it.
abbrev pub LeavesFailedPut : {W : Type 0} → (W → Left Cached) → (W → Bool) → Cached → ℕ → Bool → Watch → Kept Cached → Lost W → Type 0
LeavesFailedPut left short x lowest loaded watch old (Broke w) = loaded ≡ true → watch.only_armed ≡ true → is_some watch.keeps ≡ true → short w ≡ false → LeavesPut x lowest old (left w)
LeavesFailedPut left short x lowest loaded watch old (NoRoom w) = ⊤

-- A ticket was finished: what it covers is sure.
pub record FinishesEntries (covered : List Cached) (old new : Kept Cached) : Type 0 where
  pub held : new.held ≡ old.held
  pub sure : Within old.sure new.sure
  pub finished : Within covered new.sure
  pub may : Within new.may old.may

-- A cache was reopened, and isn't loaded: nothing is held yet. What was sure is sure, and no more may be left.
pub record ReopensCache (old : Left Cached) (new : Kept Cached) : Type 0 where
  pub held : new.held ≡ []
  pub sure : Within old.sure new.sure
  pub may : Within new.may old.may

-- A reopening failed: what was sure is sure, and no more may be left.
pub record UnopensCache (old : Left Cached) (were : List ℕ) (left : Left Cached) (now : List ℕ) : Type 0 where
  pub sure : Within old.sure left.sure
  pub may : Within left.may old.may
  pub lowests : Within now were

-- What is held may be left, and so may what is sure, which is held once the cache is loaded. No entry is of an epoch below
-- the lowest.
pub record IsNestedCache (kept : Kept Cached) (lowest : ℕ) (loaded : Bool) : Type 0 where
  pub sure_held : loaded ≡ true → Within kept.sure kept.held
  pub held_may : Within kept.held kept.may
  pub sure_may : Within kept.sure kept.may
  pub above : (x : Cached) → Contains kept.may x → lowest ≤ epoch_of x
