-- How a life ends, and the faults that values call for. A finished step has none of these.
use Rattle.std.specs.Option.{option_or}
use Rattle.std.specs.Prelude.{Bool, List, None, Option, Some, [], bytes_eq, false, if◌then◌else◌, is_some, nat_lt, not, true, ℕ, ◌&&◌, ◌+◌, ◌-◌, ◌==◌, ◌^◌, ◌||◌, ◌∷◌}
use Rattle.mar_types.specs.Round.{Round}
use Rattle.mar_cert.specs.Block.{Block}
use Rattle.mar_cert.specs.Finalization.{Finalization}
use Rattle.mar_key.specs.Cutoff.{covers}
use Rattle.mar_key.specs.Processed.{height_of}
use Rattle.mar_store.specs.Kept.{At, has_height, value_at}
use Rattle.mar_model.specs.Stored.{block_of}
use Rattle.mar_model.specs.Messages.{set_floor}
use Rattle.mar_model.specs.Config.{Config}
use Rattle.mar_model.specs.Acks.{Mark, Outstanding, mark_dropped, mark_given, mark_waiting}
use Rattle.mar_model.specs.Node.{Node}
use Rattle.mar_model.specs.Metadata.{Pair}
use Rattle.mar_model.specs.Event.{Effect, Event, Storing, ack_marked, applies_floor, effect_of, is_above, life_started, message_told, storing_of, undrained_blocks}

-- the stores of a node, as a fault names them
pub data StoreName : Type 0 where
  block_store : StoreName
  cert_store : StoreName
  meta_store : StoreName
  cache_store : StoreName

pub data TicketKind : Type 0 where
  answer_kind : TicketKind
  sync_kind : TicketKind
  ack_kind : TicketKind

-- Why a life ended.
pub data Fault : Type 0 where
  store_fault : StoreName → Fault
  damaged : StoreName → ℕ → Fault
  dropped_ack : ℕ → Fault
  floor_epoch_unavailable : ℕ → Fault
  floor_invalid : Round → Fault
  floor_parent_mismatch : ℕ → List ℕ → List ℕ → Fault
  genesis_height : ℕ → Fault
  genesis_mismatch : List ℕ → List ℕ → Fault
  corrupt : ℕ → List ℕ → List ℕ → Fault
  unbacked : ℕ → Fault
  height_limit : ℕ → Fault
  ticket_limit : TicketKind → Fault
  want_of_memory : Fault

-- told by a count of faults, by damage, by a counter, or free
abbrev pub is_by_value : Fault → Bool
is_by_value (store_fault s) = false
is_by_value (damaged s at) = false
is_by_value (ticket_limit k) = false
is_by_value want_of_memory = false
is_by_value _ = true

-- no finalized block is stored at this height
abbrev pub last_height : ℕ
last_height = 2 ^ 64 - 1

-- the oldest block that is still outstanding was dropped
abbrev pub dropped_first : List Outstanding → Option Fault
dropped_first [] = None
dropped_first (a ∷ out) = by_mark a.mark
  where
    by_mark : Mark → Option Fault
    by_mark mark_waiting = None
    by_mark mark_given = None
    by_mark mark_dropped = Some (dropped_ack a.height)

-- a floor that is not covered must be of a scoped epoch and verify
abbrev pub floor_fault : Config → Node → Finalization → Option Fault
floor_fault config n f =
    if covers n.cutoff f.round then None
    else if not (config.scoped f.round.epoch) then Some (floor_epoch_unavailable f.round.epoch)
    else if config.verifies f then None
    else Some (floor_invalid f.round)

-- what would be stored stands at the last height
abbrev pub storing_fault : Node → Option Storing → Effect → Option Fault
storing_fault n s (applies_floor r b) = if is_above n b && b.height == last_height then Some (height_limit b.height) else None
storing_fault n (Some s) _ = if nat_lt (height_of n.processed) s.height && s.height == last_height then Some (height_limit s.height) else None
storing_fault n None _ = None

-- the fault that an event must end in, if any
abbrev pub event_fault : Config → Node → Event → Option Fault
event_fault config n (ack_marked t m) = dropped_first (undrained_blocks n (ack_marked t m))
event_fault config n (message_told t (set_floor f)) = option_or (floor_fault config n f) (storing_fault n None (effect_of config n (message_told t (set_floor f))))
event_fault config n (life_started (Some f)) = option_or (floor_fault config n f) (storing_fault n None (effect_of config n (life_started (Some f))))
event_fault config n e = storing_fault n (storing_of n e) (effect_of config n e)

-- what a node begins from
pub data Begin : Type 0 where
  from_genesis : Block → Begin
  from_floor : Finalization → Begin

abbrev pub floor_of : Begin → Option Finalization
floor_of (from_genesis b) = None
floor_of (from_floor f) = Some f

abbrev pub is_at_limit : Option ℕ → Bool
is_at_limit None = false
is_at_limit (Some h) = h == last_height

-- judged with the metadata: a processed or held height at the end of the numbers
abbrev pub limit_fault : List (At Block) → List (At Finalization) → Pair → Option Fault
limit_fault blocks certs pair = if is_at_limit pair.processed || (has_height blocks last_height || has_height certs last_height) then Some (height_limit last_height) else None

-- the first height that is not processed
abbrev pub next_after : Option ℕ → ℕ
next_after None = 0
next_after (Some h) = h + 1

-- block 0 is put where none is stored at its height or under its digest and the processed height is not above 0
abbrev pub with_genesis : Begin → Option ℕ → List (At Block) → List (At Block)
with_genesis (from_floor f) processed blocks = blocks
with_genesis (from_genesis g) processed blocks =
    if (has_height blocks 0 || is_some (block_of blocks g.digest)) || nat_lt 1 (next_after processed) then blocks
    else record { height = 0; value = g } ∷ blocks

abbrev pub stored_mismatch : Block → Option Block → Option Fault
stored_mismatch g None = None
stored_mismatch g (Some b) = if bytes_eq g.commitment b.commitment then None else Some (genesis_mismatch g.commitment b.commitment)

-- a genesis stands at height 0 and agrees with the stored block
abbrev pub genesis_fault : List (At Block) → Begin → Option Fault
genesis_fault blocks (from_genesis g) = if g.height == 0 then stored_mismatch g (value_at blocks 0) else Some (genesis_height g.height)
genesis_fault blocks (from_floor f) = None

-- the processed height has its own block or the next one
abbrev pub anchor_fault : List (At Block) → Option ℕ → Option Fault
anchor_fault blocks None = None
anchor_fault blocks (Some h) = if has_height blocks h || has_height blocks (h + 1) then None else Some (unbacked h)

-- the block above the processed height is the one that its certificate names
abbrev pub successor_fault : Option Block → Option Finalization → Option Fault
successor_fault (Some b) (Some f) = if bytes_eq b.commitment f.payload then None else Some (corrupt b.height b.commitment f.payload)
successor_fault _ _ = None

-- the fault that an opening must end in, if any, over what its stores reopened as
abbrev pub opening_fault : List (At Block) → List (At Finalization) → Pair → Begin → Option Fault
opening_fault found certs pair begin =
    let blocks = with_genesis begin pair.processed found in
    option_or (limit_fault found certs pair)
    (option_or (genesis_fault found begin)
    (option_or (anchor_fault blocks pair.processed)
    (successor_fault (value_at blocks (next_after pair.processed)) (value_at certs (next_after pair.processed)))))
