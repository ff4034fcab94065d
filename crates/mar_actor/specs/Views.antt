-- What a contract sees of the actor's types.
use Rattle.std.specs.Prelude.{ℕ, List, None, Some, [], ◌∷◌}
use Rattle.mar_cert.specs.Block.{Block}
use Rattle.mar_cert.specs.Finalization.{Finalization, Notarization}
use Rattle.mar_block.specs.Recipients.{named}
use Rattle.mar_block.specs.Sent.{Sending}
use Rattle.mar_inbox.specs.Views.{message_of, peers_of, query_of, ticket_of}
use Rattle.mar_types.specs.Round.{Round}
use Rattle.mar_block.specs.declared.recipients.Recipients.{Recipients}
use Rattle.mar_inbox.specs.declared.Message.{Message}
use Rattle.mar_inbox.specs.declared.Message.TheVariants as message
use Rattle.mar_model.specs.Messages.{certify, hint_finalized, prepared, proposed, report_certification, report_finalization, report_notarization, verified}
use Rattle.mar_model.specs.Event.{Event, ack_dropped, ack_given, life_started, message_told, sync_finished}
use Rattle.mar_model.specs.Faults.{Begin, from_genesis}
use Rattle.mar_model.specs.Step.{Report, new_tip, handed_over}
use Rattle.mar_actor.specs.declared.event.Event.{Event as EventCode}
use Rattle.mar_actor.specs.declared.event.Event.TheVariants as event
use Rattle.mar_actor.specs.declared.messages.Told.{Told}
use Rattle.mar_actor.specs.declared.messages.Told.TheVariants as told
use Rattle.mar_actor.specs.declared.reporter.Update.{Update}
use Rattle.mar_actor.specs.declared.reporter.Update.TheVariants as update
use Rattle.mar_model.specs.Held.{Sizes}
use Rattle.mar_actor.specs.declared.settings.Config.{Config}
use Rattle.mar_actor.specs.declared.settings.Limits.{Limits}
use Rattle.mar_actor.specs.declared.settings.Start.{Start}
use Rattle.mar_actor.specs.declared.settings.Start.TheVariants as start

-- an event, by what a digest is as bytes, and a block, a notarization and a finalization as plain data
abbrev pub event_of : {D B N F : Type 0} → (D → List ℕ) → (B → Block) → (N → Notarization) → (F → Finalization) → EventCode D B N F → Event
event_of digest block notarization finalization event.Start = life_started None
event_of digest block notarization finalization (event.Message m) = message_told (ticket_of m) (message_of digest block notarization finalization m)
event_of digest block notarization finalization (event.Sync t) = sync_finished t
event_of digest block notarization finalization (event.Ack t) = ack_given t
event_of digest block notarization finalization (event.Dropped t) = ack_dropped t

-- a block that is sent to these peers
abbrev pub sending : {B : Type 0} → (B → Block) → Round → Recipients ℕ → B → Sending
sending block r peers b = record { round = r; block = block b; peers = named peers }

-- what a message has the buffer send
abbrev pub message_sendings : {D B N F : Type 0} → (B → Block) → Message D B N F → List Sending
message_sendings block (message.Proposed t r peers b) = sending block r peers b ∷ []
message_sendings block (message.Prepared r peers b) = sending block r peers b ∷ []
message_sendings block _ = []

-- and of that what is sent before anything else is done
abbrev pub message_first : {D B N F : Type 0} → (B → Block) → Message D B N F → List Sending
message_first block (message.Proposed t r peers b) = sending block r peers b ∷ []
message_first block _ = []

-- the same of what a message tells or asks
abbrev pub told_sendings : {D B N F : Type 0} → (B → Block) → Told D B N F → List Sending
told_sendings block (told.Proposed t r peers b) = sending block r peers b ∷ []
told_sendings block (told.Prepared r peers b) = sending block r peers b ∷ []
told_sendings block _ = []

abbrev pub told_first : {D B N F : Type 0} → (B → Block) → Told D B N F → List Sending
told_first block (told.Proposed t r peers b) = sending block r peers b ∷ []
told_first block _ = []

-- what an event has the buffer send, in order
abbrev pub sendings_of : {D B N F : Type 0} → (B → Block) → EventCode D B N F → List Sending
sendings_of block (event.Message m) = message_sendings block m
sendings_of block _ = []

-- and what of that stays sent where its step ends the life
abbrev pub sent_first : {D B N F : Type 0} → (B → Block) → EventCode D B N F → List Sending
sent_first block (event.Message m) = message_first block m
sent_first block _ = []

-- what a caller tells, or asks under a ticket
abbrev pub told_of : {D B N F : Type 0} → (D → List ℕ) → (B → Block) → (N → Notarization) → (F → Finalization) → Told D B N F → Event
told_of digest block notarization finalization (told.Reported f) = message_told None (report_finalization (finalization f))
told_of digest block notarization finalization (told.Notarization n) = message_told None (report_notarization (notarization n))
told_of digest block notarization finalization (told.Certification n) = message_told None (report_certification (notarization n))
told_of digest block notarization finalization (told.Asked t q) = message_told (Some t) (query_of digest q)
told_of digest block notarization finalization (told.Verified t r b) = message_told (Some t) (verified r (block b))
told_of digest block notarization finalization (told.Proposed t r peers b) = message_told (Some t) (proposed r (peers_of peers) (block b))
told_of digest block notarization finalization (told.Prepared r peers b) = message_told None (prepared r (peers_of peers) (block b))
told_of digest block notarization finalization (told.Certified t r b) = message_told (Some t) (certify r (block b))
told_of digest block notarization finalization (told.Hint h targets) = message_told None (hint_finalized h targets)

-- what the application is told, by what digests are as bytes and blocks as plain data
abbrev pub report_of : {D B : Type 0} → (D → List ℕ) → (B → Block) → Update D B → Report
report_of digest plain (update.Tip r h d) = new_tip r h (digest d)
report_of digest plain (update.Block b ack) = handed_over ack.ticket (plain b)

abbrev pub begin_of : {B : Type 0} → (B → Block) → Start B → Begin
begin_of plain (start.Genesis b) = from_genesis (plain b)

-- the sizes that an actor is set to
abbrev pub sizes_of : {P E B C : Type 0} → Config P E B C → Sizes
sizes_of c = record { window = c.max_pending_acks; max_repair = c.max_repair; retention = c.view_retention; capacity = c.mailbox_size }

-- and those that a life keeps, with this window
abbrev pub sizes_in : ℕ → Limits → Sizes
sizes_in window l = record { window = window; max_repair = l.max_repair; retention = l.view_retention; capacity = l.mailbox_size }
