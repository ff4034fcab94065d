-- Who waits for which block.
use Rattle.std.specs.List.{list_any}
use Rattle.std.specs.Map.{lookup}
use Rattle.std.specs.Prelude.{Bool, List, None, Option, Some, [], bytes_eq, false, filter, if◌then◌else◌, is_some, length, nat_lt, not, ℕ, ◌++◌, ◌==◌, ◌∷◌}

-- The tickets of those who wait for one block, in the order in which they came, and the name of which the buffer has
-- promised to tell, where it has.
pub record Wait : Type 0 where
  pub tickets : List ℕ
  pub promise : Option (List ℕ)

-- What contracts see of the subscriptions: the waits by digest and those by commitment, each under its name.
pub record Waits : Type 0 where
  pub digests : List (List ℕ × Wait)
  pub commitments : List (List ℕ × Wait)

-- the wait under a name
abbrev pub wait_for : List (List ℕ × Wait) → List ℕ → Option Wait
wait_for waits name = lookup (bytes_eq name) waits

-- the tickets that wait under a name
abbrev pub tickets_in : Option Wait → List ℕ
tickets_in None = []
tickets_in (Some w) = w.tickets

abbrev pub tickets_for : List (List ℕ × Wait) → List ℕ → List ℕ
tickets_for waits name = tickets_in (wait_for waits name)

-- the buffer has promised to tell of the block
abbrev pub is_promised : Option Wait → Bool
is_promised None = false
is_promised (Some w) = is_some w.promise

-- one more waits: behind those who do, under the promise that they have, or else as the first, under this one
abbrev pub joined : ℕ → Option (List ℕ) → Option Wait → Wait
joined ticket promise None = record { tickets = ticket ∷ []; promise = promise }
joined ticket promise (Some w) = record w { tickets = w.tickets ++ ticket ∷ [] }

-- the tickets that aren't among the closed ones
abbrev pub open_of : List ℕ → List ℕ → List ℕ
open_of closed tickets = filter (λ t. not (list_any (λ c. c == t) closed)) tickets

-- the wait of those whose ticket isn't closed, where there is one
abbrev pub still_open : List ℕ → Wait → Option Wait
still_open closed w = if nat_lt 0 (length (open_of closed w.tickets)) then Some (record w { tickets = open_of closed w.tickets }) else None
