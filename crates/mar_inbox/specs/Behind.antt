-- The floor and the prune that wait, by the messages that they came in.
use Rattle.std.specs.BTreeMap.{is_at}
use Rattle.std.specs.List.{list_any}
use Rattle.std.specs.Ordering.{nat_cmp}
use Rattle.std.specs.Set.{remove_key}
use Rattle.std.specs.Prelude.{Bool, List, None, Option, Some, not, true, ℕ, ⊤, ◌≡◌}
use Rattle.mar_types.specs.Round.{Round, round_le}
use Rattle.mar_cert.specs.Finalization.{Finalization}
use Rattle.mar_model.specs.Messages.{Message, Queued, prune_below, set_floor}
use Rattle.mar_inbox.specs.Policy.{told}

abbrev pub floor_in : Message → Option Finalization
floor_in (set_floor f) = Some f
floor_in _ = None

abbrev pub floor_of : Option Queued → Option Finalization
floor_of None = None
floor_of (Some q) = floor_in q.message

abbrev pub prune_in : Message → Option ℕ
prune_in (prune_below h) = Some h
prune_in _ = None

abbrev pub prune_of : Option Queued → Option ℕ
prune_of None = None
prune_of (Some q) = prune_in q.message

abbrev pub IsFloor : Option Queued → Type 0
IsFloor None = ⊤
IsFloor (Some q) = (f : Finalization) × (q ≡ told (set_floor f))

abbrev pub IsPrune : Option Queued → Type 0
IsPrune None = ⊤
IsPrune (Some q) = (h : ℕ) × (q ≡ told (prune_below h))

-- a floor of this round takes the place of this one
abbrev pub is_later : Option Finalization → Round → Bool
is_later None r = true
is_later (Some g) r = not (round_le r g.round)

-- the ticket is one of these
abbrev pub is_among : ℕ → List ℕ → Bool
is_among t tickets = list_any (is_at (nat_cmp t)) tickets

-- these without the ticket
abbrev pub without_ticket : ℕ → List ℕ → List ℕ
without_ticket t tickets = remove_key (is_at (nat_cmp t)) tickets
