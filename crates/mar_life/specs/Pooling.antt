-- What the archives, what is staged and the open syncs of the cache keep, for the writes that wait and the syncs that are open.
use Rattle.std.specs.List.{AllByRecursion}
use Rattle.std.specs.Prelude.{Contains, Err, IfSome, IsTrue, List, Ok, Result, Some, [], drop, false, map, ℕ, ⊤, ◌-◌, ◌<◌, ◌≡◌, ◌≤◌, ◌⊎◌, ◌∷◌}
use Rattle.mar_cert.specs.Block.{Block}
use Rattle.mar_store.specs.Gaps.{AscendAbove}
use Rattle.mar_store.specs.Changes.{Fails, Finishes, IsNested, IsReopened, KeepsValues, Left, left_of}
use Rattle.mar_store.specs.Kept.{At, Kept, has_height, value_at}
use Rattle.mar_store.specs.Luck.{keeps_by, lucky_found, lucky_values}
use Rattle.mar_store.specs.Tickets.{KeepsCovers, last_number}
use Rattle.mar_store.specs.Values.{LeavesValues, Values}
use Rattle.mar_store.specs.Watch.{Watch}
use Rattle.mar_store.specs.declared.Miss.{Miss}
use Rattle.mar_model.specs.Faults.{Fault, StoreName, block_store, cert_store, meta_store, store_fault, want_of_memory}
use Rattle.mar_model.specs.Held.{Breaks, MakesSure, Passes, Progress, missed_fault, progress_of}
use Rattle.mar_model.specs.Metadata.{pair_at}
use Rattle.mar_model.specs.Node.{SureOrWritten}
use Rattle.mar_model.specs.Places.{is_open, kept_at, watch_at}
use Rattle.mar_model.specs.Pool.{Pool, Pooled}
use Rattle.mar_model.specs.Writing.{Writing, is_open_sync}
use Rattle.mar_model.specs.declared.OpenTicket.{OpenTicket}
use Rattle.mar_model.specs.declared.Place.{Place}
use Rattle.mar_model.specs.declared.Place.TheVariants.{Away, Lost, Open}

-- the heights of the writes behind a position that no finished sync covers
abbrev pub writes_behind : ℕ → Pool → List ℕ
writes_behind position pool = drop (position - pool.covered) pool.uncovered

-- What an archive keeps for the open syncs, to each of which it gave a ticket. A held height is sure or its write waits. Of
-- each open sync: a held height is sure, its ticket covers it, or it was written behind the sync's position.
pub record AwaitsSyncs {T : Type 0} (ticket_of : Pooled → ℕ) (kept : Kept (At T)) (number : ℕ) (covers : ℕ → List (At T)) (pool : Pool) : Type 0 where
  pub written : SureOrWritten kept pool.uncovered
  pub given : (p : Pooled) → Contains pool.pooled p → (ticket_of p ≤ number) × (ticket_of p ≤ last_number)
  pub covered : (p : Pooled) → Contains pool.pooled p
      → (h : ℕ) → IsTrue (has_height kept.held h) → IsTrue (has_height kept.sure h) ⊎ IsTrue (has_height (covers (ticket_of p)) h) ⊎ Contains (writes_behind p.sync.position pool) h

-- Open syncs of the cache have numbers that were given out, each later than the one before, and no open sync of both archives
-- has one of them.
pub record OwnNumbers (w : Writing) (tickets : List OpenTicket) : Type 0 where
  pub own : AllByRecursion (λ o. (o.number < w.next_sync) × (is_open_sync w.syncs o.number ≡ false)) tickets
  pub ascend : AscendAbove 0 (map (λ o. o.number) tickets)

-- each staged block is the one that is held at its height
abbrev pub AreHeld : {B : Type 0} → (B → Block) → List (At Block) → List (ℕ × B) → Type 0
AreHeld plain held staged = AllByRecursion (λ e. value_at held e.0 ≡ Some (plain e.1)) staged

-- The same of a store in its place: of what is lost nothing is said, and it is away between no two calls.
abbrev pub AwaitsIn : {S T W : Type 0} → (Pooled → ℕ) → (S → Kept (At T)) → (S → ℕ) → (S → ℕ → List (At T)) → Place S W → Pool → Type 0
AwaitsIn ticket_of stored number covers (Open s) pool = AwaitsSyncs ticket_of (stored s) (number s) (covers s) pool
AwaitsIn ticket_of stored number covers (Lost w) pool = ⊤
AwaitsIn ticket_of stored number covers Away pool = ⊥

-- the tickets that the blocks and the finalizations gave for an open sync
abbrev pub of_blocks : Pooled → ℕ
of_blocks p = p.blocks

abbrev pub of_certs : Pooled → ℕ
of_certs p = p.certs

-- where the blocks are there, what is staged is held
abbrev pub AreHeldIn : {B S W : Type 0} → (B → Block) → (S → Kept (At Block)) → Place S W → List (ℕ × B) → Type 0
AreHeldIn plain stored (Open s) staged = AreHeld plain (stored s).held staged
AreHeldIn plain stored _ staged = ⊤

-- what is held stays where the store is still there
abbrev pub HoldsIn : {S T W : Type 0} → (S → Kept (At T)) → Place S W → Place S W → Type 0
HoldsIn stored (Open s) (Open t) = KeepsValues (stored s).held (stored t).held
HoldsIn stored old (Open t) = ⊥
HoldsIn stored old new = ⊤

-- CALLS OF A STORE IN ITS PLACE

-- A call took no ticket back: an earlier one covers what it covered, and the last one all that is held.
pub record KeepsTickets {T : Type 0} (number : ℕ) (covers : ℕ → List (At T)) (new_number : ℕ) (new_covers : ℕ → List (At T)) (held : List (At T)) : Type 0 where
  pub more : number ≤ new_number
  pub keeps : KeepsCovers number covers new_covers
  pub last : new_covers last_number ≡ held

-- the store is there before a call that took no ticket back, and after it
abbrev pub StaysIn : {S T W : Type 0} → (S → Kept (At T)) → (S → ℕ) → (S → ℕ → List (At T)) → Place S W → Place S W → Type 0
StaysIn stored number covers (Open s) (Open t) = KeepsTickets (number s) (covers s) (number t) (covers t) (stored t).held
StaysIn stored number covers _ _ = ⊥

-- a read changes nothing but what is told of failures, nor does it where a call is armed
abbrev pub IsReadIn : {S T W : Type 0} → (S → Kept (At T)) → (S → ℕ) → (S → ℕ → List (At T)) → (W → Left (At T)) → Place S W → Place S W → Type 0
IsReadIn stored number covers left (Open s) (Open t) = (stored t ≡ stored s) × KeepsTickets (number s) (covers s) (number t) (covers t) (stored t).held
IsReadIn stored number covers left (Lost v) (Lost w) = left w ≡ left v
IsReadIn stored number covers left Away Away = ⊤
IsReadIn stored number covers left _ _ = ⊥

-- the store that is there gave this ticket
abbrev pub IsGivenIn : {S W : Type 0} → (S → ℕ) → ℕ → Place S W → Type 0
IsGivenIn number ticket (Open s) = ticket ≤ number s
IsGivenIn number ticket _ = ⊤

-- a sync is started under a ticket that covers all that is held, and nothing else changes
abbrev pub StartsIn : {S T W : Type 0} → (S → Kept (At T)) → (S → ℕ) → (S → ℕ → List (At T)) → ℕ → Place S W → Place S W → Type 0
StartsIn stored number covers ticket (Open s) (Open t) = (stored t ≡ stored s) × (ticket ≤ number t) × (covers t ticket ≡ (stored s).held)
StartsIn stored number covers ticket _ _ = ⊥

-- the sync of a ticket is finished
abbrev pub FinishesIn : {S T W : Type 0} → (S → Kept (At T)) → (S → ℕ → List (At T)) → ℕ → Place S W → Place S W → Type 0
FinishesIn stored covers ticket (Open s) (Open t) = Finishes (covers s ticket) (stored s) (stored t)
FinishesIn stored covers ticket _ _ = ⊥

-- what a read has for an answer: the store's, or the fault of a miss
abbrev pub IsAnswer : {X C : Type 0} → (C → Fault) → StoreName → Result X Miss → Result X C → Type 0
IsAnswer fault s (Ok x) (Ok y) = y ≡ x
IsAnswer fault s (Err m) (Err e) = fault e ≡ missed_fault s m
IsAnswer fault s _ _ = ⊥

-- what is left of a store stands in its place, unless it was away
abbrev pub IsLeftIn : {S W : Type 0} → Place S W → Place S W → Type 0
IsLeftIn Away new = ⊤
IsLeftIn old (Lost w) = ⊤
IsLeftIn old _ = ⊥

-- why a call of a store failed: the store did, or memory ran out
abbrev pub IsFaultOf : StoreName → Watch → Fault → Watch → Type 0
IsFaultOf s before fault now = (fault ≡ store_fault s) × Breaks before now ⊎ ((fault ≡ want_of_memory) × Passes before now)

-- A call failed that was to write this, or there was no store to call: what was there is left, and the fault has its cause.
pub record FailsIn {S T W : Type 0} (s : StoreName) (stored : S → Kept (At T)) (left : W → Left (At T)) (watch : S → Watch) (watch_left : W → Watch)
    (put : List (At T)) (old new : Place S W) (fault : Fault) : Type 0 where
  pub fails : Fails (left_of (kept_at stored left old)) put (left_of (kept_at stored left new))
  pub cause : IsFaultOf s (watch_at watch watch_left old) fault (watch_at watch watch_left new)

-- A store that is there made more sure: nothing else is held, and none of its calls failed.
pub record SurerIn {S T W : Type 0} (stored : S → Kept (At T)) (left : W → Left (At T)) (watch : S → Watch) (watch_left : W → Watch)
    (old new : Place S W) : Type 0 where
  pub surer : MakesSure (kept_at stored left old) (kept_at stored left new)
  pub nested : IsNested (kept_at stored left new)
  pub still : is_open new ≡ is_open old
  pub passed : Passes (watch_at watch watch_left old) (watch_at watch watch_left new)

-- A sync of both archives failed: that of the blocks, or that of the finalizations behind it.
abbrev pub FailsBoth : {S T W R U X : Type 0} → (S → Kept (At T)) → (W → Left (At T)) → (S → Watch) → (W → Watch) → (R → Kept (At U)) → (X → Left (At U))
    → (R → Watch) → (X → Watch) → Place S W → Place S W → Place R X → Place R X → Fault → Type 0
FailsBoth stored left watch watch_left stored_2 left_2 watch_2 watch_left_2 old new old_2 new_2 fault =
    FailsIn block_store stored left watch watch_left [] old new fault × (new_2 ≡ old_2)
    ⊎ SurerIn stored left watch watch_left old new × FailsIn cert_store stored_2 left_2 watch_2 watch_left_2 [] old_2 new_2 fault

-- OPENINGS

-- A store was opened: it found what may be left, by its luck where it tells how, and one call of it was counted.
pub record Opens {S T W : Type 0} (stored : S → Kept (At T)) (left : W → Left (At T)) (watch : S → Watch) (watch_left : W → Watch) (luck : ℕ)
    (wreck : W) (store : S) : Type 0 where
  pub found : IsReopened (left wreck) (stored store)
  pub passed : Passes (watch_left wreck) (watch store)
  pub lucky : IfSome (watch_left wreck).keeps (λ keeps. (stored store).held ≡ lucky_found (keeps_by keeps luck) (left wreck))

-- it failed to open
pub record Unopens {T W : Type 0} (s : StoreName) (left : W → Left (At T)) (watch : W → Watch) (old new : W) (fault : Fault) : Type 0 where
  pub fails : Fails (left old) [] (left new)
  pub cause : IsFaultOf s (watch old) fault (watch new)

-- it was opened, and nothing was called before it was closed again
pub record Closes {T W : Type 0} (left : W → Left (At T)) (watch : W → Watch) (old new : W) : Type 0 where
  pub kept : Kept (At T)
  pub found : IsReopened (left old) kept
  pub is : left new ≡ left_of kept
  pub passed : Passes (watch old) (watch new)

-- the same of the metadata: it was opened, as the node reads it
pub record OpensPairs (left : List Values) (before : Watch) (luck : ℕ) (progress : Progress) : Type 0 where
  pub values : Values
  pub may : Contains left values
  pub now : Watch
  pub is : progress ≡ progress_of (pair_at values) now
  pub passed : Passes before now
  pub lucky : IfSome before.keeps (λ keeps. values ≡ lucky_values (keeps_by keeps luck 0) left)

pub record UnopensPairs {W : Type 0} (left : W → List Values) (watch : W → Watch) (old new : W) (fault : Fault) : Type 0 where
  pub leaves : LeavesValues (left old) [] (left new)
  pub cause : IsFaultOf meta_store (watch old) fault (watch new)

pub record ClosesPairs {W : Type 0} (left : W → List Values) (watch : W → Watch) (old new : W) : Type 0 where
  pub values : Values
  pub may : Contains (left old) values
  pub is : map pair_at (left new) ≡ pair_at values ∷ []
  pub passed : Passes (watch old) (watch new)
