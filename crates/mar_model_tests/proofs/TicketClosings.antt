-- Closed tickets, and the order of answers for one block.
use Rattle.std.proofs.Common.{◌≡◌, ℕ, List, [], ◌∷◌, Some, true, false, refl, replicate}
use Rattle.mar_types.specs.Round.{Round}
use Rattle.mar_model.specs.Messages.{get_processed, close_ticket, verified}
use Rattle.mar_model.specs.Node.{digest_wanted, commitment_wanted, Subscription, Node}
use Rattle.mar_model.specs.Event.{message_told, buffer_ended, block_buffered, no_floor, applies_floor}
use Rattle.mar_model.specs.Cache.{lowest_after}
use Rattle.mar_model.specs.Answers.{answers_of, to, true_value, bytes_value, closed_value}
use Rattle.mar_script.specs.Run.{queued_of, with_ticket, with_close, told_events, closes_nothing}
use Rattle.mar_inbox.specs.Policy.{after_enqueue, after_take}
use Rattle.mar_model_tests.proofs.SmallChain.{b1, d1, config}
use Rattle.mar_model_tests.proofs.DeliveryRun.{begun, n0}

-- `put processed; put close 0; take; take`: the query does nothing, and its closing is not ignored
abbrev queued : Node
queued = let n = with_ticket get_processed n0 in record n { inbox = after_enqueue (after_enqueue n.inbox (queued_of n0 get_processed)) (queued_of n (close_ticket 0)) }

abbrev first_taken : Node
first_taken = record queued { inbox = (after_take queued.inbox).1 }

query_does_nothing : told_events first_taken (queued_of n0 get_processed) ≡ []
query_does_nothing = refl

closing_is_done : closes_nothing first_taken (close_ticket 0) ≡ false
closing_is_done = refl

-- a second one is ignored
second_closing : closes_nothing (with_close (close_ticket 0) first_taken) (close_ticket 0) ≡ true
second_closing = refl

-- one block's callers: digest keys before commitment keys
abbrev by_commitment : ℕ → Subscription
by_commitment t = record { ticket = t; wanted = commitment_wanted d1; through_buffer = true }

abbrev by_digest : ℕ → List ℕ → Subscription
by_digest t d = record { ticket = t; wanted = digest_wanted d; through_buffer = true }

abbrev wanting : Node
wanting = record n0 { subscriptions = by_commitment 0 ∷ by_digest 1 (replicate 32 255) ∷ by_digest 2 d1 ∷ by_commitment 3 ∷ by_digest 4 d1 ∷ [] }

served_in_order : answers_of config wanting 0 (block_buffered b1) no_floor ≡ to 2 (bytes_value b1.encoded) ∷ to 4 (bytes_value b1.encoded) ∷ to 0 (bytes_value b1.encoded) ∷ to 3 (bytes_value b1.encoded) ∷ []
served_in_order = refl

-- at `bufclose` by key, and within a key in the order of subscribing
closed_in_order : answers_of config wanting 0 buffer_ended no_floor ≡ to 2 closed_value ∷ to 4 closed_value ∷ to 1 closed_value ∷ to 0 closed_value ∷ to 3 closed_value ∷ []
closed_in_order = refl

-- a block of an epoch that its own event's floor prunes is answered at once
abbrev old_witness : Node
old_witness = record begun { witnessed = record { epoch = 3; view = 9 } }

abbrev early : Round
early = record { epoch = 1; view = 1 }

raised : lowest_after config old_witness (message_told (Some 0) (verified early b1)) (applies_floor (record { epoch = 5; view = 1 }) b1) ≡ 3
raised = refl

answered_at_once : answers_of config old_witness 3 (message_told (Some 0) (verified early b1)) (applies_floor (record { epoch = 5; view = 1 }) b1) ≡ to 0 true_value ∷ []
answered_at_once = refl
