-- The queue policy of the inbox, and the legal logs.
use Rattle.std.specs.BTreeSet.{insert_key}
use Rattle.std.specs.List.{list_any}
use Rattle.std.specs.Ordering.{nat_cmp}
use Rattle.std.specs.Prelude.{Bool, List, None, Option, Some, [], false, filter, if◌then◌else◌, is_some, length, nat_le, nat_lt, not, set, slice_get, true, ℕ, ⊤, ◌&&◌, ◌||◌, ◌++◌, ◌+◌, ◌-◌, ◌==◌, ◌∷◌, ◌≡◌}
use Rattle.mar_types.specs.Round.{round_le}
use Rattle.mar_cert.specs.Finalization.{Finalization}
use Rattle.mar_key.specs.Places.{filled, next_kept}
use Rattle.mar_key.specs.Places as places
use Rattle.mar_model.specs.Messages.{Inbox, Message, Queued, close_ticket, get_anchor, get_block, get_finalization, get_info, get_processed, get_verified, hint_finalized, of_height, prune_below, set_floor, subscribe_commitment, subscribe_digest}

-- what an enqueue is answered
pub data Feedback : Type 0 where
  feedback_accepted : Feedback
  feedback_overflowed : Feedback
  feedback_refused : Feedback  -- shut

-- MESSAGES

-- kinds that are dropped from the overflow where their ticket is closed
abbrev pub drops_closed : Message → Bool
drops_closed (get_info id) = true
drops_closed (get_block id) = true
drops_closed (get_finalization h) = true
drops_closed get_processed = true
drops_closed get_anchor = true
drops_closed (get_verified r) = true
drops_closed (subscribe_digest d fallback) = true
drops_closed (subscribe_commitment c fallback) = true
drops_closed _ = false

abbrev pub is_in : List ℕ → Option ℕ → Bool
is_in tickets None = false
is_in tickets (Some t) = list_any (λ k. k == t) tickets

-- the ticket whose closing drops it, if there is one
abbrev pub waits_for : Queued → Option ℕ
waits_for q = if drops_closed q.message then q.ticket else None

abbrev pub is_closed : List ℕ → Queued → Bool
is_closed closed q = is_in closed (waits_for q)

-- the height by which it reads
abbrev pub read_of : Message → Option ℕ
read_of (get_info (of_height h)) = Some h
read_of (get_block (of_height h)) = Some h
read_of (get_finalization h) = Some h
read_of _ = None

abbrev pub hint_of : Message → Option ℕ
hint_of (hint_finalized h peers) = Some h
hint_of _ = None

-- the ticket that it closes
abbrev pub closing_of : Message → Option ℕ
closing_of (close_ticket t) = Some t
closing_of _ = None

-- there is a number, and it passes
abbrev pub passes : (ℕ → Bool) → Option ℕ → Bool
passes test None = false
passes test (Some n) = test n

-- a prune drops reads by a height below it, and hints at or below it
abbrev pub is_stale : ℕ → Message → Bool
is_stale p m = passes (λ h. nat_lt h p) (read_of m) || passes (λ h. nat_le h p) (hint_of m)

abbrev pub stale_by : Option ℕ → Message → Bool
stale_by None m = false
stale_by (Some p) m = is_stale p m

abbrev pub later_floor : Option Finalization → Finalization → Finalization
later_floor None f = f
later_floor (Some g) f = if round_le f.round g.round then g else f

abbrev pub covers_prune : Option ℕ → ℕ → Bool
covers_prune None h = false
covers_prune (Some p) h = nat_le h p

-- new targets are appended
abbrev pub with_targets : List ℕ → List ℕ → List ℕ
with_targets targets [] = targets
with_targets targets (p ∷ peers) = with_targets (if list_any (λ q. q == p) targets then targets else targets ++ p ∷ []) peers

abbrev pub is_hint : ℕ → Queued → Bool
is_hint h q = passes (λ k. k == h) (hint_of q.message)

abbrev pub with_hint_targets : List ℕ → Queued → Queued
with_hint_targets peers q = record q { message = merged q.message }
  where
    merged : Message → Message
    merged (hint_finalized h targets) = hint_finalized h (with_targets targets peers)
    merged m = m

-- a message without a ticket
abbrev pub told : Message → Queued
told m = record { ticket = None; message = m }

-- one hint a height
abbrev pub with_hint : ℕ → List ℕ → List Queued → List Queued
with_hint h peers [] = told (hint_finalized h (with_targets [] peers)) ∷ []
with_hint h peers (q ∷ others) = if is_hint h q then with_hint_targets peers q ∷ others else q ∷ with_hint h peers others

-- WHAT WAITS

-- behind the ready list: the newest floor, the highest prune, all others in order, and the closed tickets
pub record Backlog : Type 0 where
  pub floor : Option Finalization
  pub prune : Option ℕ
  pub others : List Queued
  pub closed : List ℕ

abbrev pub nothing_waits : Backlog → Bool
nothing_waits b = not (is_some b.floor) && (not (is_some b.prune) && length b.others == 0)

abbrev pub joined_by : Backlog → Queued → Message → Backlog
joined_by b q (set_floor f) = record b { floor = Some (later_floor b.floor f) }
joined_by b q (prune_below h) = if covers_prune b.prune h then b else record b { prune = Some h; others = filter (λ x. not (is_stale h x.message)) b.others }
joined_by b q (hint_finalized h peers) = if covers_prune b.prune h then b else record b { others = with_hint h peers b.others }
joined_by b q m = if stale_by b.prune m then b else record b { others = b.others ++ q ∷ [] }

-- with one more message
abbrev pub joined : Backlog → Queued → Backlog
joined b q = joined_by b q q.message

abbrev pub closed_by : List ℕ → Option ℕ → List ℕ
closed_by closed None = closed
closed_by closed (Some t) = insert_key nat_cmp closed t

abbrev pub next_other : Backlog → Option Queued × Backlog
next_other b = let given = next_kept (λ q. not (is_closed b.closed q)) b.others in (given.0, record b { others = given.1 })

abbrev pub next_prune : Backlog → Option ℕ → Option Queued × Backlog
next_prune b (Some h) = (Some (told (prune_below h)), record b { prune = None })
next_prune b None = next_other b

abbrev pub next_floor : Backlog → Option Finalization → Option Queued × Backlog
next_floor b (Some f) = (Some (told (set_floor f)), record b { floor = None })
next_floor b None = next_prune b b.prune

-- what comes into a free place: floor, prune, then the others in order, without those whose ticket is closed
abbrev pub next_waiting : Backlog → Option Queued × Backlog
next_waiting b = next_floor b b.floor

-- INBOX

abbrev pub backlog_of : Inbox → Backlog
backlog_of i = record { floor = i.floor; prune = i.prune; others = i.overflow; closed = i.closed }

abbrev pub with_backlog : Inbox → List Queued × Backlog → Inbox
with_backlog i parts = record i { ready = parts.0; floor = parts.1.floor; prune = parts.1.prune; overflow = parts.1.others; closed = parts.1.closed }

abbrev pub has_room : Inbox → Bool
has_room i = places.has_room (nothing_waits (backlog_of i)) i.capacity i.ready

-- each enqueued `close_ticket` adds its ticket as it comes
abbrev pub with_closed : Inbox → Message → Inbox
with_closed i m = record i { closed = closed_by i.closed (closing_of m) }

-- a message is ready at once where there is room, else it joins what waits
abbrev pub after_open_enqueue : Inbox → Queued → Inbox
after_open_enqueue i q = if has_room i then record i { ready = i.ready ++ q ∷ [] } else with_backlog i (i.ready, joined (backlog_of i) q)

abbrev pub after_enqueue : Inbox → Queued → Inbox
after_enqueue i q = if i.shut then i else after_open_enqueue (with_closed i q.message) q

abbrev pub feedback : Inbox → Feedback
feedback i = if i.shut then feedback_refused else if has_room i then feedback_accepted else feedback_overflowed

-- what a take gives, and the inbox after it: the free places are filled
abbrev pub after_take_from : Inbox → List Queued → Option Queued × Inbox
after_take_from i [] = (None, i)
after_take_from i (q ∷ ready) = (Some q, with_backlog i (filled next_waiting (i.capacity - length ready) ready (backlog_of i)))

abbrev pub after_take : Inbox → Option Queued × Inbox
after_take i = after_take_from i i.ready

-- what the driver is answered
pub data Taken : Type 0 where
  message_taken : Queued → Taken
  queue_empty : Taken
  seats_gone : Taken

abbrev pub take_answer : Inbox → Taken
take_answer i = by (after_take i).0
  where
    by : Option Queued → Taken
    by (Some q) = message_taken q
    by None = if i.seats == 0 then seats_gone else queue_empty

-- LOG

-- what one hold of the lock did
pub data Entry : Type 0 where
  entry_enqueued : ℕ → ℕ → Queued → Feedback → Entry  -- caller, number, message
  entry_taken : Queued → Entry
  seat_made : Entry
  seat_ended : ℕ → Entry
  inbox_shut : Entry

-- an inbox with, for each seat that was made, the number of its next enqueue, None once it ended
pub record Shared : Type 0 where
  pub inbox : Inbox
  pub callers : List (Option ℕ)

-- an entry may stand next
abbrev pub MayFollow : Shared → Entry → Type 0
MayFollow s (entry_enqueued caller number q f) = (slice_get s.callers caller ≡ Some (Some number)) × (f ≡ feedback s.inbox)
MayFollow s (entry_taken q) = (after_take s.inbox).0 ≡ Some q
MayFollow s seat_made = ⊤
MayFollow s (seat_ended caller) = (number : ℕ) × (slice_get s.callers caller ≡ Some (Some number))
MayFollow s inbox_shut = s.inbox.shut ≡ false

abbrev pub after_entry : Shared → Entry → Shared
after_entry s (entry_enqueued caller number q f) = record { inbox = after_enqueue s.inbox q; callers = set s.callers caller (Some (number + 1)) }
after_entry s (entry_taken q) = record s { inbox = (after_take s.inbox).1 }
after_entry s seat_made = record { inbox = record (s.inbox) { seats = s.inbox.seats + 1 }; callers = s.callers ++ Some 0 ∷ [] }
after_entry s (seat_ended caller) = record { inbox = record (s.inbox) { seats = s.inbox.seats - 1 }; callers = set s.callers caller None }
after_entry s inbox_shut = record s { inbox = record (s.inbox) { shut = true } }

abbrev pub LegalFrom : Shared → List Entry → Type 0
LegalFrom s [] = ⊤
LegalFrom s (e ∷ log) = MayFollow s e × LegalFrom (after_entry s e) log

abbrev pub new_inbox : ℕ → Inbox
new_inbox capacity = record { ready = []; capacity = capacity; floor = None; prune = None; overflow = []; closed = []; seats = 0; shut = false }

-- each feedback and each taken message is what the policy gives after the entries before it
abbrev pub Legal : ℕ → List Entry → Type 0
Legal capacity log = LegalFrom (record { inbox = new_inbox capacity; callers = [] }) log
