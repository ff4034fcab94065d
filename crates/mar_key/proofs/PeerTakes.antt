-- Taking messages of peers, one after another.
use Rattle.std.proofs.Common.{Bool, List, None, Option, Some, [], ap, arith, cond, false, length, map, refl, suc, sym, true, zero, ℕ, ◌+◌, ◌++◌, ◌-◌, ◌<◌, ◌∙◌, ◌∷◌, ◌≡◌, ◌≤◌}
use Rattle.std.proofs.lemmas.List.{append_assoc, append-nil, length-map, length_push}
use Rattle.std.specs.Prelude.{MatchOption, option_map}
use Rattle.mar_key.specs.Places.{Fills, fill_with, filled, next_kept}
use Rattle.mar_key.specs.PeerQueue.{Backlog, PeerMessage, PeerQueue, after_peer_take, is_open, next_open, peer_taken, peer_taken_from, with_backlog}
use Rattle.mar_key.proofs.Filling.{filled_so}

-- ONE

abbrev pub queue_of : ℕ → List PeerMessage → Backlog → PeerQueue
queue_of capacity ready w = record { ready = ready; capacity = capacity; overflow = w.others; closed = w.closed }

-- what a take of the code's queue gives is what the definitions give
took_one : {T : Type 0} (plain : T → PeerMessage) (capacity : ℕ) (ready rest ready' : List T) (x : T) (w w' : Backlog) → ready ≡ x ∷ rest
    → Fills (λ w given v. next_open w ≡ (option_map plain given, v)) (capacity - length rest) rest w ready' w'
    → peer_taken (queue_of capacity (map plain ready) w) ≡ (Some (plain x), queue_of capacity (map plain ready') w')
took_one plain capacity ready rest ready' x w w' is fills =
    let q : PeerQueue = queue_of capacity (map plain (x ∷ rest)) w in
    let f = filled_so (λ w given v. next_open w ≡ (option_map plain given, v)) plain (λ w. w) next_open (λ w given v h. h) (capacity - length rest) rest w ready' w' fills in
    ap (λ (xs : List _). peer_taken (queue_of capacity (map plain xs) w)) is
    ∙ (ap (λ (n : ℕ). (Some (plain x), with_backlog q (filled next_open (capacity - n) (map plain rest) w))) (length-map rest plain)
    ∙ ap (λ (parts : List PeerMessage × Backlog). (Some (plain x), with_backlog q parts)) f)

took_none : {T : Type 0} (plain : T → PeerMessage) (capacity : ℕ) (ready ready' : List T) (w w' : Backlog) → ready ≡ [] → ready' ≡ [] → w' ≡ w
    → peer_taken (queue_of capacity (map plain ready) w) ≡ (None, queue_of capacity (map plain ready') w')
took_none plain capacity ready ready' w w' is is' same = rw (is, is', same) refl

pub took : {T : Type 0} (plain : T → PeerMessage) (capacity : ℕ) (ready ready' : List T) (w w' : Backlog) (result : Option T)
    → MatchOption result ((ready ≡ []) × (ready' ≡ []) × (w' ≡ w))
    (λ x. (rest : List T) × (ready ≡ x ∷ rest) × Fills (λ w given v. next_open w ≡ (option_map plain given, v)) (capacity - length rest) rest w ready' w')
    → peer_taken (queue_of capacity (map plain ready) w) ≡ (option_map plain result, queue_of capacity (map plain ready') w')
took plain capacity ready ready' w w' None h = took_none plain capacity ready ready' w w' h.0 h.1 h.2
took plain capacity ready ready' w w' (Some x) h = took_one plain capacity ready h.0 ready' x w w' h.1 h.2

-- HOW MANY

abbrev one_if_some : {T : Type 0} → Option T → ℕ
one_if_some None = 0
one_if_some (Some x) = 1

kept_length : {T : Type 0} (keeps : T → Bool) (xs : List T) → length (next_kept keeps xs).1 + one_if_some (next_kept keeps xs).0 ≤ length xs
kept_length keeps [] = omega arith
kept_length keeps (x ∷ xs) = by (keeps x) (kept_length keeps xs)
  where
    by : (b : Bool) → length (next_kept keeps xs).1 + one_if_some (next_kept keeps xs).0 ≤ length xs
        → length (cond b (Some x, xs) (next_kept keeps xs)).1 + one_if_some (cond b (Some x, xs) (next_kept keeps xs)).0 ≤ length (x ∷ xs)
    by true rest = omega arith
    by false rest = omega (arith, rest)

filled_length : (room : ℕ) (ready : List PeerMessage) (w : Backlog)
    → length (filled next_open room ready w).0 + length (filled next_open room ready w).1.others ≤ length ready + length w.others
filled_length zero ready w = omega arith
filled_length (suc room) ready w =
    by (next_kept (is_open w.closed) w.others) (kept_length (is_open w.closed) w.others) (λ x others. filled_length room (ready ++ x ∷ []) (record w { others = others }))
  where
    by : (given : Option PeerMessage × List PeerMessage) → length given.1 + one_if_some given.0 ≤ length w.others
        → ((x : PeerMessage) (others : List PeerMessage) → let parts = filled next_open room (ready ++ x ∷ []) (record w { others = others }) in length parts.0 + length parts.1.others ≤ length (ready ++ x ∷ []) + length others)
        → let parts = fill_with ready (given.0, record w { others = given.1 }) (λ more rest. filled next_open room more rest) in length parts.0 + length parts.1.others ≤ length ready + length w.others
    by (None, others) fits more = omega (arith, fits)
    by (Some x, others) fits more = omega (arith, fits, more x others, length_push ready x)

fewer_from : (q : PeerQueue) (ready : List PeerMessage) (m : PeerMessage) → (peer_taken_from q ready).0 ≡ Some m
    → length (peer_taken_from q ready).1.ready + length (peer_taken_from q ready).1.overflow + 1 ≤ length ready + length q.overflow
fewer_from q [] m some = absurd cc
fewer_from q (x ∷ ready) m some = omega (arith, filled_length (q.capacity - length ready) ready (record { others = q.overflow; closed = q.closed }))

-- a message that is taken is one fewer
pub fewer : (q q' : PeerQueue) (m : PeerMessage) → peer_taken q ≡ (Some m, q') → length q'.ready + length q'.overflow + 1 ≤ length q.ready + length q.overflow
fewer q q' m is =
    let by = fewer_from q q.ready m (ap (λ (t : Option PeerMessage × PeerQueue). t.0) is) in
    let same : length (peer_taken q).1.ready + length (peer_taken q).1.overflow ≡ length q'.ready + length q'.overflow = ap (λ (t : Option PeerMessage × PeerQueue). length t.1.ready + length t.1.overflow) is in
    omega (arith, by, same)

-- SEVERAL

-- messages that were taken, and what the others come to
abbrev pub behind : List PeerMessage → List PeerMessage × PeerQueue → List PeerMessage × PeerQueue
behind front others = (front ++ others.0, others.1)

-- one more
pub take_more : (most n : ℕ) (front more : List PeerMessage) (m : PeerMessage) (q q' : PeerQueue) → n < most → more ≡ front ++ m ∷ [] → peer_taken q ≡ (Some m, q')
    → behind front (after_peer_take (most - n) q) ≡ behind more (after_peer_take (most - (n + 1)) q')
take_more most n front more m q q' some is taken = by (most - n) (omega (arith, some))
  where
    by : (left : ℕ) → left ≡ suc (most - (n + 1)) → behind front (after_peer_take left q) ≡ behind more (after_peer_take (most - (n + 1)) q')
    by left one = rw (one, taken, is) (ap (λ (xs : List PeerMessage). (xs, (after_peer_take (most - (n + 1)) q').1)) (sym (append_assoc front (m ∷ []) (after_peer_take (most - (n + 1)) q').0)))

-- as many as were asked for
pub take_all : (most n : ℕ) (front : List PeerMessage) (q : PeerQueue) → most ≤ n → behind front (after_peer_take (most - n) q) ≡ (front, q)
take_all most n front q whole = by (most - n) (omega (arith, whole))
  where
    by : (left : ℕ) → left ≡ 0 → behind front (after_peer_take left q) ≡ (front, q)
    by zero none = ap (λ (xs : List PeerMessage). (xs, q)) (append-nil front)
    by (suc left) none = absurd (omega (arith, none))

-- no more is there
pub take_rest : (most n : ℕ) (front : List PeerMessage) (q q' : PeerQueue) → peer_taken q ≡ (None, q') → behind front (after_peer_take (most - n) q) ≡ (front, q')
take_rest most n front q q' taken = by (most - n)
  where
    not_none : {x : PeerMessage} → Some x ≡ None → ⊥
    not_none e = cc

    at_end : (ready : List PeerMessage) → peer_taken_from q ready ≡ (None, q') → q ≡ q'
    at_end [] is = ap (λ (t : Option PeerMessage × PeerQueue). t.1) is
    at_end (x ∷ ready) is = absurd (not_none (ap (λ (t : Option PeerMessage × PeerQueue). t.0) is))

    by : (left : ℕ) → behind front (after_peer_take left q) ≡ (front, q')
    by zero = λ i. (append-nil front i, at_end q.ready taken i)
    by (suc left) = rw taken (ap (λ (xs : List PeerMessage). (xs, q')) (append-nil front))
