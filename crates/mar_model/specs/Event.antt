-- What one event of a node brings, meets, stores, drains and does to a floor: functions of the node before it.
use Rattle.std.specs.List.{filter_map, list_any}
use Rattle.std.specs.Prelude.{Bool, List, None, Option, Some, [], bytes_eq, false, filter, flat_map, if◌then◌else◌, map, min, nat_le, nat_lt, not, option_map, option_to_list, true, ℕ, ◌&&◌, ◌++◌, ◌-◌, ◌==◌, ◌||◌, ◌∷◌}
use Rattle.mar_types.specs.Round.{Round, round_le}
use Rattle.mar_cert.specs.Block.{Block}
use Rattle.mar_cert.specs.Finalization.{Finalization, Notarization}
use Rattle.mar_key.specs.Cutoff.{Cutoff, at_epoch, at_round, covers, greatest_of}
use Rattle.mar_key.specs.Processed.{Processed, at_absent, at_block, height_of}
use Rattle.mar_types.specs.Epochs.{Epochs, closed_epoch}
use Rattle.mar_store.specs.Kept.{At, has_height, newest_upto, value_at}
use Rattle.mar_key.specs.Keys.{Annotation, is_finalized}
use Rattle.mar_model.specs.Messages.{Message, certify, get_anchor, get_block, get_finalization, get_info, get_processed, get_verified, proposed, prune_below, report_finalization, report_notarization, set_floor, verified}
use Rattle.mar_model.specs.Config.{Config}
use Rattle.mar_model.specs.Acks.{Mark, Outstanding, after_given, given_front, mark_dropped, mark_given, with_mark}
use Rattle.mar_model.specs.Node.{Awaited, Node, at_hand}
use Rattle.mar_model.specs.Cached.{cached_finalization}

-- what a peer's bytes were judged to be
pub data Answer : Type 0 where
  gave_block : Block → List Annotation → Answer
  gave_finalized : Finalization → Block → Answer
  gave_notarized : Notarization → Block → Answer
  gave_nothing : Answer

-- What a node steps on. An answer ticket comes with a message that takes one and is not closed.
pub data Event : Type 0 where
  life_started : Option Finalization → Event  -- with the configured floor
  message_told : Option ℕ → Message → Event  -- with its answer ticket
  ack_marked : ℕ → Mark → Event  -- the acknowledgement of this ticket was given, or dropped
  sync_finished : ℕ → Event
  peer_answered : Answer → Event
  serve_ended : Event
  block_buffered : Block → Event
  buffer_ended : Event

abbrev pub ack_given : ℕ → Event
ack_given t = ack_marked t mark_given

abbrev pub ack_dropped : ℕ → Event
ack_dropped t = ack_marked t mark_dropped

-- the block that an event brings, if any
abbrev pub brought_block : Node → Event → Option Block
brought_block n (message_told t (report_finalization f)) = at_hand n f.payload
brought_block n (message_told t (report_notarization f)) = at_hand n f.payload
brought_block n (message_told t (verified r b)) = Some b
brought_block n (message_told t (proposed r peers b)) = Some b
brought_block n (message_told t (certify r b)) = Some b
brought_block n (peer_answered (gave_block b annotations)) = Some b
brought_block n (peer_answered (gave_finalized f b)) = Some b
brought_block n (peer_answered (gave_notarized f b)) = Some b
brought_block n (block_buffered b) = Some b
brought_block n _ = None

-- of the newest epoch, and there of the lowest view
abbrev pub first_found : Finalization → Option Finalization → Option Finalization
first_found f None = Some f
first_found f (Some g) = if nat_lt g.round.epoch f.round.epoch || (f.round.epoch == g.round.epoch && nat_le f.round.view g.round.view) then Some f else Some g

-- of several: the newest epoch, and there the lowest view
abbrev pub first_finalization : List Finalization → Option Finalization
first_finalization [] = None
first_finalization (f ∷ fs) = first_found f (first_finalization fs)

-- the cached finalization of a block
abbrev pub finalization_for : Node → Block → Option Finalization
finalization_for n b = first_finalization (filter (λ f. bytes_eq f.payload b.commitment) (filter_map cached_finalization n.cache.held))

-- a finalization's round, and its block
pub record Met : Type 0 where
  pub round : Round
  pub block : Block

abbrev pub met_of : Block → Finalization → Met
met_of b f = record { round = f.round; block = b }

-- the finalization that an event meets, if any
abbrev pub met_finalization : Node → Event → Option Met
met_finalization n (message_told t (report_finalization f)) = option_map (λ b. met_of b f) (at_hand n f.payload)
met_finalization n (peer_answered (gave_finalized f b)) = Some (met_of b f)
met_finalization n (peer_answered (gave_block b annotations)) = option_map (met_of b) (finalization_for n b)
met_finalization n (peer_answered (gave_notarized f b)) = option_map (met_of b) (finalization_for n b)
met_finalization n _ = None

-- a height that an event stores, and whether a certificate comes with it
pub record Storing : Type 0 where
  pub height : ℕ
  pub with_certificate : Bool

-- a block without a cached finalization is stored where it was asked for as finalized
abbrev pub storing_of_block : Option Finalization → Block → List Annotation → Option Storing
storing_of_block (Some f) b annotations = Some (record { height = b.height; with_certificate = true })
storing_of_block None b annotations = if list_any is_finalized annotations then Some (record { height = b.height; with_certificate = false }) else None

-- what an event stores above the processed height, or late at or below it; an applied floor is not among it
abbrev pub storing_of : Node → Event → Option Storing
storing_of n (peer_answered (gave_block b annotations)) = storing_of_block (finalization_for n b) b annotations
storing_of n e = option_map (λ m. record { height = m.block.height; with_certificate = true }) (met_finalization n e)

-- What becomes of a floor: it is applied, or its block is awaited.
pub data Effect : Type 0 where
  no_floor : Effect
  applies_floor : Round → Block → Effect
  awaits_floor : Awaited → Effect

abbrev pub is_awaited_from : Option Awaited → Round → Bool
is_awaited_from None r = false
is_awaited_from (Some a) r = round_le r a.round

-- its round is not covered, its epoch is scoped, its certificate verifies, and no equal or newer floor is awaited
abbrev pub is_admitted : Config → Node → Finalization → Bool
is_admitted config n f = not (covers n.cutoff f.round) && (config.scoped f.round.epoch && (config.verifies f && not (is_awaited_from n.awaited f.round)))

abbrev pub admitted_effect : Finalization → Option Block → Effect
admitted_effect f (Some b) = applies_floor f.round b
admitted_effect f None = awaits_floor (record { round = f.round; commitment = f.payload })

abbrev pub brought_effect : Option Awaited → Option Block → Effect
brought_effect (Some a) (Some b) = if bytes_eq b.commitment a.commitment then applies_floor a.round b else no_floor
brought_effect _ _ = no_floor

-- a floor's own line applies it or awaits its block; any event that brings the awaited block applies that floor
abbrev pub effect_of : Config → Node → Event → Effect
effect_of config n (message_told t (set_floor f)) = if is_admitted config n f then admitted_effect f (at_hand n f.payload) else no_floor
effect_of config n (life_started (Some f)) = if is_admitted config n f then admitted_effect f (at_hand n f.payload) else no_floor
effect_of config n e = brought_effect n.awaited (brought_block n e)

-- the finalization that an event tells, and that of the block which it brings
abbrev pub told_finalization : Node → Event → Option Finalization
told_finalization n (message_told t (report_finalization f)) = Some f
told_finalization n (message_told t (set_floor f)) = Some f
told_finalization n (life_started floor) = floor
told_finalization n (peer_answered (gave_finalized f b)) = Some f
told_finalization n (peer_answered (gave_block b annotations)) = finalization_for n b
told_finalization n (peer_answered (gave_notarized f b)) = finalization_for n b
told_finalization n _ = None

-- what an event drains of the outstanding blocks
abbrev pub drained_blocks : Node → Event → List Outstanding
drained_blocks n (ack_marked t m) = given_front (with_mark t m n.out)
drained_blocks n _ = []

-- what stays outstanding, with the mark that the event sets
abbrev pub undrained_blocks : Node → Event → List Outstanding
undrained_blocks n (ack_marked t m) = after_given (with_mark t m n.out)
undrained_blocks n _ = n.out

-- the outstanding blocks before any is drained, with the mark that the event sets
abbrev pub marked_blocks : Node → Event → List Outstanding
marked_blocks n (ack_marked t m) = with_mark t m n.out
marked_blocks n _ = n.out

-- the floor stands above the processed height
abbrev pub is_above : Node → Block → Bool
is_above n b = nat_lt (height_of n.processed) b.height

-- what is kept of the outstanding blocks
abbrev pub kept_blocks : Node → Event → Effect → List Outstanding
kept_blocks n e no_floor = undrained_blocks n e
kept_blocks n e (applies_floor r b) = if is_above n b then [] else undrained_blocks n e
kept_blocks n e (awaits_floor a) = []

-- the processed height after these are drained
abbrev pub acked_to : Option Processed → List Outstanding → Option Processed
acked_to p [] = p
acked_to p (a ∷ out) = acked_to (Some (at_block a.height)) out

-- the processed height after the event
abbrev pub processed_after : Node → Event → Effect → Option Processed
processed_after n e no_floor = acked_to n.processed (drained_blocks n e)
processed_after n e (awaits_floor a) = n.processed
processed_after n e (applies_floor r b) =
    if is_above n b
    then Some (if has_height n.blocks.held (b.height - 1) then at_block (b.height - 1) else at_absent (b.height - 1))
    else n.processed

-- the round of the held certificate at a height
abbrev pub round_at : List (At Finalization) → ℕ → Option Round
round_at certs height = option_map (λ f. f.round) (value_at certs height)

-- the epoch that is closed at this height
abbrev pub closed_at : Epochs → ℕ → List Cutoff
closed_at epochs height = option_to_list (option_map at_epoch (closed_epoch epochs height))

-- the cutoffs of a processed height: the round of its held certificate, and the epoch that is closed there
abbrev pub retired : Epochs → List (At Finalization) → ℕ → List Cutoff
retired epochs certs height = option_to_list (option_map at_round (round_at certs height)) ++ closed_at epochs height

-- those of all that are drained
abbrev pub all_retired : Epochs → List (At Finalization) → List Outstanding → List Cutoff
all_retired epochs certs out = flat_map (λ a. retired epochs certs a.height) out

-- the round that is met, where its block is not above the processed height
abbrev pub met_rounds : Node → Option Met → List Round
met_rounds n None = []
met_rounds n (Some m) = if is_above n m.block then [] else m.round ∷ []

abbrev pub met_cutoffs : Node → Option Met → Effect → List Cutoff
met_cutoffs n m no_floor = map at_round (met_rounds n m)
met_cutoffs n _ _ = []

-- an applied floor: its round, and above the processed height the epoch closed at its height
abbrev pub floor_cutoffs : Config → Node → Effect → List Cutoff
floor_cutoffs config n no_floor = []
floor_cutoffs config n (awaits_floor a) = []
floor_cutoffs config n (applies_floor r b) = at_round r ∷ (if is_above n b then closed_at config.epochs b.height else [])

-- the cutoff after the event
abbrev pub cutoff_after : Config → Node → Event → Effect → Cutoff
cutoff_after config n e fx = greatest_of n.cutoff (all_retired config.epochs n.certs.held (drained_blocks n e) ++ met_cutoffs n (met_finalization n e) fx ++ floor_cutoffs config n fx)

-- the floor that is awaited after the event, under the new cutoff
abbrev pub still_awaited : Option Awaited → Cutoff → Option Awaited
still_awaited None cutoff = None
still_awaited (Some a) cutoff = if covers cutoff a.round then None else Some a

abbrev pub awaited_after : Node → Effect → Cutoff → Option Awaited
awaited_after n no_floor cutoff = still_awaited n.awaited cutoff
awaited_after n (applies_floor r b) cutoff = None
awaited_after n (awaits_floor a) cutoff = Some a

-- the event's own write to the finalized archives above the processed height
abbrev pub own_writes : Node → Option Storing → Effect → List ℕ
own_writes n (Some s) no_floor = if nat_lt (height_of n.processed) s.height then s.height ∷ [] else []
own_writes n _ _ = []

-- blocks below this height may leave
abbrev pub blocks_from : Node → Event → Effect → ℕ
blocks_from n (message_told t (prune_below h)) no_floor = if nat_le h (height_of n.processed) then h else 0
blocks_from n e (applies_floor r b) = if is_above n b then b.height - 1 else 0
blocks_from n _ _ = 0

-- and certificates below this one: a prune keeps the newest at or below the processed height
abbrev pub certs_from : Node → Event → Effect → ℕ
certs_from n (message_told t (prune_below h)) no_floor = min (blocks_from n (message_told t (prune_below h)) no_floor) (newest_of (newest_upto n.certs.held (height_of n.processed)))
  where
    newest_of : Option (At Finalization) → ℕ
    newest_of None = 0
    newest_of (Some x) = x.height
certs_from n e fx = blocks_from n e fx

-- an answer from what stands, which changes nothing
abbrev pub is_query : Event → Bool
is_query (message_told t (get_info id)) = true
is_query (message_told t (get_block id)) = true
is_query (message_told t (get_finalization h)) = true
is_query (message_told t get_processed) = true
is_query (message_told t get_anchor) = true
is_query (message_told t (get_verified r)) = true
is_query _ = false
