-- Values of the definitions at small nodes, queues and epochs.
use Rattle.std.proofs.Common.{true, ◌≡◌, ℕ, ◌+◌, ◌-◌, List, [], ◌∷◌, Some, None, refl, map, replicate, lit<, lit≤}
use Rattle.mar_cert.specs.Block.{Block}
use Rattle.mar_cert.specs.Finalization.{Finalization}
use Rattle.mar_key.specs.Cutoff.{at_round, at_epoch}
use Rattle.mar_key.specs.Processed.{at_block, at_absent}
use Rattle.mar_store.specs.Kept.{At, reopened_store}
use Rattle.mar_key.specs.Keys.{block_key, finalized_by_round, above_height, above_round, fetch, retain}
use Rattle.mar_model.specs.Messages.{Message, get_processed, set_floor, prune_below, hint_finalized, Queued, Inbox}
use Rattle.mar_types.specs.Epochs.{fixed_epochs, closed_epoch}
use Rattle.mar_model.specs.Config.{Config}
use Rattle.mar_model.specs.Acks.{mark_waiting, mark_given, mark_dropped, Outstanding}
use Rattle.mar_model.specs.Node.{Node, Rest, write_uncovered}
use Rattle.mar_model.specs.Event.{message_told, ack_given, block_buffered, Effect, no_floor, applies_floor, awaits_floor, effect_of, kept_blocks, processed_after, cutoff_after}
use Rattle.mar_model.specs.Cache.{lowest_after}
use Rattle.mar_model.specs.Faults.{dropped_ack, event_fault}
use Rattle.mar_model.specs.Requests.{own_asks}
use Rattle.mar_inbox.specs.Policy.{Feedback, feedback_accepted, feedback_overflowed, feedback, after_enqueue, after_take, new_inbox}
use Rattle.mar_model_tests.proofs.SmallChain.{config}
use Rattle.mar_model_tests.proofs.DeliveryRun.{begun}

p : Finalization
p = record { round = record { epoch = 0; view = 3 }; parent = 2; payload = []; certificate = 1 ∷ [] }

q : Finalization
q = record { round = record { epoch = 0; view = 3 }; parent = 2; payload = []; certificate = 2 ∷ [] }

plain : Message → Queued
plain m = record { ticket = None; message = m }

sent : List Queued
sent = plain get_processed ∷ plain (set_floor p) ∷ plain (set_floor q) ∷ plain (prune_below 3) ∷ plain (hint_finalized 4 (1 ∷ [])) ∷ plain (hint_finalized 6 (1 ∷ [])) ∷ plain (prune_below 5) ∷ plain (hint_finalized 6 (2 ∷ 1 ∷ [])) ∷ []

feedbacks : Inbox → List Queued → List Feedback
feedbacks i [] = []
feedbacks i (m ∷ ms) = feedback i ∷ feedbacks (after_enqueue i m) ms

all_in : Inbox → List Queued → Inbox
all_in i [] = i
all_in i (m ∷ ms) = all_in (after_enqueue i m) ms

queue_feedback : feedbacks (record (new_inbox 1) { seats = 1 }) sent ≡ feedback_accepted ∷ feedback_overflowed ∷ feedback_overflowed ∷ feedback_overflowed ∷ feedback_overflowed ∷ feedback_overflowed ∷ feedback_overflowed ∷ feedback_overflowed ∷ []
unfolding feedbacks sent plain p q
queue_feedback = refl

i0 : Inbox
unfolding all_in sent plain p q
i0 = all_in (record (new_inbox 1) { seats = 1 }) sent

queue_takes : map (λ o. o) ((after_take i0).0 ∷ (after_take (after_take i0).1).0 ∷ (after_take (after_take (after_take i0).1).1).0 ∷ (after_take (after_take (after_take (after_take i0).1).1).1).0 ∷ (after_take (after_take (after_take (after_take (after_take i0).1).1).1).1).0 ∷ [])
    ≡ Some (plain get_processed) ∷ Some (plain (set_floor p)) ∷ Some (plain (prune_below 5)) ∷ Some (plain (hint_finalized 6 (1 ∷ 2 ∷ []))) ∷ None ∷ []
unfolding i0 all_in sent plain p q
queue_takes = refl

closed_epochs : map (closed_epoch (fixed_epochs 11)) (0 ∷ 9 ∷ 10 ∷ 11 ∷ 20 ∷ 21 ∷ []) ≡ None ∷ None ∷ Some 0 ∷ Some 0 ∷ Some 0 ∷ Some 1 ∷ []
closed_epochs = refl

-- BLOCKS AND NODES

block : ℕ → Block
block h = record { digest = replicate 32 (160 + h); commitment = replicate 32 (160 + h); height = h; parent = replicate 32 (159 + h); parent_commitment = replicate 32 (159 + h); encoded = h ∷ [] }

final : ℕ → ℕ → ℕ → Finalization
final e v h = record { round = record { epoch = e; view = v }; parent = v - 1; payload = replicate 32 (160 + h); certificate = 0 ∷ [] }

at : ℕ → At Block
at h = record { height = h; value = block h }

waiting_at : ℕ → Outstanding
waiting_at h = record { ticket = h; height = h; mark = mark_waiting }

dropping : Node
dropping = record begun { blocks = reopened_store (at 0 ∷ at 1 ∷ at 2 ∷ []); out = waiting_at 0 ∷ record (waiting_at 1) { mark = mark_given } ∷ record (waiting_at 2) { mark = mark_dropped } ∷ []; next_ack = 3 }

dropped_front_fault : event_fault config dropping (ack_given 0) ≡ Some (dropped_ack 2)
unfolding dropping waiting_at at block
dropped_front_fault = refl

dropped_front_asks : own_asks config dropping (ack_given 0) no_floor ≡ retain (above_height 0) ∷ retain (above_height 1) ∷ []
unfolding dropping waiting_at at block
dropped_front_asks = refl

dropped_later_waits : event_fault config (record dropping { out = waiting_at 0 ∷ waiting_at 1 ∷ record (waiting_at 2) { mark = mark_dropped } ∷ [] }) (ack_given 1) ≡ None
unfolding dropping waiting_at at block
dropped_later_waits = refl

opened_at_0 : Node
opened_at_0 = record begun { blocks = reopened_store (at 0 ∷ []); out = waiting_at 0 ∷ []; next_ack = 1 }

floor_awaits : effect_of (record config { verifies = λ f. true }) opened_at_0 (message_told None (set_floor (final 1 1 11))) ≡ awaits_floor (record { round = record { epoch = 1; view = 1 }; commitment = replicate 32 171 })
unfolding opened_at_0 waiting_at at block final
floor_awaits = refl

floor_asks : own_asks config opened_at_0 (message_told None (set_floor (final 1 1 11))) (awaits_floor (record { round = record { epoch = 1; view = 1 }; commitment = replicate 32 171 }))
    ≡ fetch (block_key (replicate 32 171)) (finalized_by_round (record { epoch = 1; view = 1 })) None ∷ []
unfolding opened_at_0 waiting_at at block
floor_asks = refl

floor_clears_window : kept_blocks opened_at_0 (message_told None (set_floor (final 1 1 11))) (awaits_floor (record { round = record { epoch = 1; view = 1 }; commitment = replicate 32 171 })) ≡ []
floor_clears_window = refl

waits : Node
waits = record begun { blocks = reopened_store (at 0 ∷ []); awaited = Some (record { round = record { epoch = 1; view = 1 }; commitment = replicate 32 171 }); next_ack = 1; buffer = block 11 ∷ [] }

applied : Effect
applied = applies_floor (record { epoch = 1; view = 1 }) (block 11)

floor_applies : effect_of config waits (block_buffered (block 11)) ≡ applied
unfolding waits at block applied
floor_applies = refl

floor_processed : processed_after waits (block_buffered (block 11)) applied ≡ Some (at_absent 10)
unfolding waits at block applied
floor_processed = refl

floor_cutoff : cutoff_after config waits (block_buffered (block 11)) applied ≡ at_round (record { epoch = 1; view = 1 })
unfolding waits at block applied
floor_cutoff = refl

floor_retains : own_asks config waits (block_buffered (block 11)) applied ≡ retain (above_height 10) ∷ retain (above_round (at_round (record { epoch = 1; view = 1 }))) ∷ []
unfolding waits at block applied
floor_retains = refl

rests_for_write : Rest 2 (record begun { blocks = reopened_store (at 0 ∷ at 1 ∷ at 2 ∷ []); processed = Some (at_block 0); out = waiting_at 1 ∷ []; covered = 2; uncovered = 1 ∷ [] })
rests_for_write = write_uncovered 1 (0, lit< tt, refl) (lit≤ tt)

short : Config
short = record config { epochs = fixed_epochs 2; retention = 0 }

third : Node
third = record begun {
  certs = reopened_store (record { height = 3; value = final 1 2 3 } ∷ []);
  processed = Some (at_block 2);
  cutoff = at_round (record { epoch = 1; view = 1 });
  out = waiting_at 3 ∷ [];
  witnessed = record { epoch = 1; view = 1 };
}

witness_lowest : lowest_after short third (ack_given 3) no_floor ≡ 1
unfolding short third waiting_at final
witness_lowest = refl

witness_cutoff : cutoff_after short third (ack_given 3) no_floor ≡ at_epoch 1
unfolding short third waiting_at final
witness_cutoff = refl
