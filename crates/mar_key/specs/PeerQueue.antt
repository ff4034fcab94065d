-- The queue of what peers send and ask for.
use Rattle.std.specs.BTreeSet.{insert_key}
use Rattle.std.specs.List.{list_any}
use Rattle.std.specs.Ordering.{nat_cmp}
use Rattle.std.specs.Prelude.{Bool, IfSome, List, None, Option, Some, [], if◌then◌else◌, length, not, suc, zero, ℕ, ◌++◌, ◌-◌, ◌==◌, ◌∷◌, ◌≡◌}
use Rattle.mar_key.specs.Keys.{Annotation, Key}
use Rattle.mar_key.specs.Places.{filled, has_room, next_kept}

-- bytes that came for a key, with the annotations open then; or a key that a peer asks for
pub data PeerMessage : Type 0 where
  deliver : ℕ → Key → List ℕ → List Annotation → PeerMessage
  produce : ℕ → Key → PeerMessage

-- the ready list, of so many places; behind it those that wait, in order; the closed tickets, each once, the lowest first
pub record PeerQueue : Type 0 where
  pub ready : List PeerMessage
  pub capacity : ℕ
  pub overflow : List PeerMessage
  pub closed : List ℕ

abbrev pub new_peer_queue : ℕ → PeerQueue
new_peer_queue capacity = record { ready = []; capacity = capacity; overflow = []; closed = [] }

abbrev pub ticket_of : PeerMessage → ℕ
ticket_of (deliver t key bytes annotations) = t
ticket_of (produce t key) = t

abbrev pub is_open : List ℕ → PeerMessage → Bool
is_open closed m = not (list_any (λ t. t == ticket_of m) closed)

abbrev pub peer_room : PeerQueue → Bool
peer_room q = has_room (length q.overflow == 0) q.capacity q.ready

-- past the ready list `deliver` is kept and `produce` dropped
abbrev pub overflowed : List PeerMessage → PeerMessage → List PeerMessage
overflowed others (deliver t key bytes annotations) = others ++ deliver t key bytes annotations ∷ []
overflowed others (produce t key) = others

abbrev pub after_peer_enqueue : PeerQueue → PeerMessage → PeerQueue
after_peer_enqueue q m = if peer_room q then record q { ready = q.ready ++ m ∷ [] } else record q { overflow = overflowed q.overflow m }

-- where it tells what it has queued, that is the queue with this message now
abbrev pub Enqueues : Option PeerQueue → PeerMessage → Option PeerQueue → Type 0
Enqueues old message new = IfSome old (λ q. new ≡ Some (after_peer_enqueue q message))

abbrev pub after_peer_close : PeerQueue → ℕ → PeerQueue
after_peer_close q t = record q { closed = insert_key nat_cmp q.closed t }

-- WHAT WAITS

-- messages that wait, in order, and the closed tickets
pub record Backlog : Type 0 where
  pub others : List PeerMessage
  pub closed : List ℕ

-- what comes into a free place: what waits for a closed ticket is dropped as its turn comes
abbrev pub next_open : Backlog → Option PeerMessage × Backlog
next_open b = let given = next_kept (is_open b.closed) b.others in (given.0, record b { others = given.1 })

abbrev pub with_backlog : PeerQueue → List PeerMessage × Backlog → PeerQueue
with_backlog q parts = record q { ready = parts.0; overflow = parts.1.others; closed = parts.1.closed }

-- the queue once its first message left these: those that wait come into the free places, in order
abbrev pub peer_after : PeerQueue → List PeerMessage → PeerQueue
peer_after q ready = with_backlog q (filled next_open (q.capacity - length ready) ready (record { others = q.overflow; closed = q.closed }))

-- the first message, and the queue without it
abbrev pub peer_taken_from : PeerQueue → List PeerMessage → Option PeerMessage × PeerQueue
peer_taken_from q [] = (None, q)
peer_taken_from q (m ∷ ready) = (Some m, peer_after q ready)

abbrev pub peer_taken : PeerQueue → Option PeerMessage × PeerQueue
peer_taken q = peer_taken_from q q.ready

abbrev pub take_with : Option PeerMessage × PeerQueue → (PeerQueue → List PeerMessage × PeerQueue) → List PeerMessage × PeerQueue
take_with taken others = elim taken.0 [ None ↦ ([], taken.1) | Some m ↦ (m ∷ (others taken.1).0, (others taken.1).1) ]

-- the first messages, at most so many, and the queue without them
abbrev pub after_peer_take : ℕ → PeerQueue → List PeerMessage × PeerQueue
after_peer_take zero q = ([], q)
after_peer_take (suc k) q = take_with (peer_taken q) (λ rest. after_peer_take k rest)
