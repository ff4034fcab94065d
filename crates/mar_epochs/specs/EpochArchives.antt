-- What a change of an epoch's archives makes of what they hold, what is sure and what a crash can leave.
use Rattle.std.specs.Prelude.{Bool, Contains, IsTrue, List, [], filter, false, if◌then◌else◌, nat_le, not, true, ℕ, ◌++◌, ◌∷◌, ◌≡◌, ◌≢◌, ◌≤◌, ◌⊎◌}
use Rattle.mar_store.specs.Kept.{Kept, reopened_store}
use Rattle.mar_store.specs.Changes.{Left, Within}
use Rattle.mar_store.specs.Tickets.{last_number}
use Rattle.mar_store.specs.declared.Lost.{Lost}
use Rattle.mar_store.specs.declared.Lost.TheVariants.{Fault, Memory}
use Rattle.mar_model.specs.Cached.{CacheReopens, Cached, EachPlaceOnce, with_entry}
use Rattle.mar_model.specs.Cache.{is_below, is_certified_below}
use Rattle.mar_model.specs.Sections.{is_in}
use Rattle.mar_model.specs.declared.Section.{Section}
use Rattle.mar_epochs.specs.declared.change.Change.{Change}
use Rattle.mar_epochs.specs.declared.change.Change.TheVariants.{Finish, PruneBelow, PruneCertified, Put, Sync}

-- whether a change keeps an entry that is held
abbrev pub is_kept : {E : Type 0} → Change E → Cached → Bool
is_kept (PruneBelow r) x = not (is_below r x)
is_kept (PruneCertified h) x = not (is_certified_below h x)
is_kept _ x = true

-- what is put
abbrev pub puts_of : {E : Type 0} → (E → Cached) → Change E → List Cached
puts_of plain (Put x) = plain x ∷ []
puts_of plain _ = []

abbrev pub held_after : {E : Type 0} → (E → Cached) → Change E → List Cached → List Cached
held_after plain (Put x) held = with_entry held (plain x)
held_after plain (PruneBelow r) held = filter (λ x. not (is_below r x)) held
held_after plain (PruneCertified h) held = filter (λ x. not (is_certified_below h x)) held
held_after plain _ held = held

-- What a sync makes sure, or the end of one that was started, by what its ticket covers. A ticket above the greatest number
-- that this life has given is none of its own, and makes nothing sure.
abbrev pub newly_sure : {E : Type 0} → ℕ → (Section → ℕ → List Cached) → Change E → List Cached → List Cached
newly_sure number covers (Sync s) held = filter (is_in s) held
newly_sure number covers (Finish s n) held = if nat_le n number then covers s n else []
newly_sure number covers _ held = []

-- What is seen of the archives of an epoch: what they hold, what is sure and what a crash can leave; the greatest number
-- that a ticket of this life has; and what the ticket of a number makes sure in an archive.
pub record Book : Type 0 where
  pub kept : Kept Cached
  pub number : ℕ
  pub covers : Section → ℕ → List Cached

-- the last number covers all that an archive holds
abbrev pub CoversAllLast : Book → Type 0
CoversAllLast book = (s : Section) → book.covers s last_number ≡ filter (is_in s) book.kept.held

-- What each ticket covers stays, unless a prune covers it.
abbrev pub KeepsCovered : {E : Type 0} → Change E → ℕ → (Section → ℕ → List Cached) → (Section → ℕ → List Cached) → Type 0
KeepsCovered change number old new = (s : Section) (t : ℕ) → t ≤ number → t ≢ last_number → new s t ≡ filter (is_kept change) (old s t)

-- A change that went well. What was sure is sure, unless a prune covers it, and what a sync covers; nothing else is.
pub record ChangesArchives {E : Type 0} (plain : E → Cached) (change : Change E) (old new : Book) : Type 0 where
  pub held : new.kept.held ≡ held_after plain change old.kept.held
  pub sure : (x : Cached) → Contains old.kept.sure x → IsTrue (is_kept change x) → Contains new.kept.sure x
  pub made_sure : Within (newly_sure old.number old.covers change old.kept.held) new.kept.sure
  pub only : (x : Cached) → Contains new.kept.sure x → Contains old.kept.sure x ⊎ Contains (newly_sure old.number old.covers change old.kept.held) x
  pub may : Within new.kept.may (old.kept.may ++ puts_of plain change)
  pub number : old.number ≤ new.number
  pub covers : KeepsCovered change old.number old.covers new.covers
  pub last : CoversAllLast new

-- A change that failed: what was sure is sure and nothing else, what might be left may be left, and nothing else but what was
-- to be put. A prune may have let go what it covers.
pub record LosesArchives {E : Type 0} (plain : E → Cached) (change : Change E) (old : Kept Cached) (left : Left Cached) : Type 0 where
  pub sure : (x : Cached) → Contains old.sure x → IsTrue (is_kept change x) → Contains left.sure x
  pub only : Within left.sure old.sure
  pub stays : (x : Cached) → Contains old.may x → IsTrue (is_kept change x) → Contains left.may x
  pub may : Within left.may (old.may ++ puts_of plain change)

-- what a ticket covers is sure already, where a change finishes one
abbrev pub IsSettled : {E : Type 0} → Change E → Book → Type 0
IsSettled (Finish s n) book = Within (if nat_le n book.number then book.covers s n else []) book.kept.sure
IsSettled _ book = ⊥

-- A reopening finds one list with all that was sure, of what might be left.
pub record FindsArchives (old : Left Cached) (new : Kept Cached) : Type 0 where
  pub found : List Cached
  pub reopens : CacheReopens old.sure old.may found
  pub is : new ≡ reopened_store found

-- A reopening that failed leaves what was left.
pub record KeepsArchives (old left : Left Cached) : Type 0 where
  pub sure : Within old.sure left.sure
  pub only : Within left.sure old.sure
  pub kept : Within old.may left.may
  pub may : Within left.may old.may

-- No archive holds two entries of one place; what is sure is held, and what is held may be left. What tickets cover is held,
-- and the last number covers all that an archive holds.
pub record AreNestedArchives (book : Book) : Type 0 where
  pub once : EachPlaceOnce book.kept.held
  pub sure_held : Within book.kept.sure book.kept.held
  pub held_may : Within book.kept.held book.kept.may
  pub covered : (s : Section) (t : ℕ) → Within (book.covers s t) book.kept.held
  pub last : CoversAllLast book

-- whether a store failed, or memory ran out
abbrev pub is_fault : {W : Type 0} → Lost W → Bool
is_fault (Fault w) = true
is_fault (Memory w) = false

-- only memory ran out
abbrev pub IsOfMemory : {W : Type 0} → Lost W → Type 0
IsOfMemory l = is_fault l ≡ false

abbrev pub nothing_left : Left Cached
nothing_left = record { sure = []; may = [] }
