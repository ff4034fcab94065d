-- Each event of an actor is one of which its plan tells what is promised.
use Rattle.std.specs.Prelude.{⊤}
use Rattle.std.proofs.Common.{List, inl, inr, refl, ℕ}
use Rattle.mar_cert.specs.Block.{Block}
use Rattle.mar_cert.specs.Finalization.{Finalization, Notarization}
use Rattle.mar_inbox.specs.Views.{message_of, ticket_of}
use Rattle.mar_inbox.specs.declared.Message.{Message}
use Rattle.mar_inbox.specs.declared.Message.TheVariants as message
use Rattle.mar_model.proofs.Promised.{IsTaken, IsTakenMessage}
use Rattle.mar_actor.specs.Views.{event_of}
use Rattle.mar_actor.specs.declared.event.Event.{Event as EventCode}
use Rattle.mar_actor.specs.declared.event.Event.TheVariants as event

module _ {D B N F : Type 0} (digest : D → List ℕ) (block : B → Block) (notarization : N → Notarization) (finalization : F → Finalization) where
  told : (m : Message D B N F) → IsTakenMessage (ticket_of m) (message_of digest block notarization finalization m)
  told (message.GetInfo t i) = inr tt
  told (message.GetBlock t i) = inr tt
  told (message.GetFinalization t h) = inr tt
  told (message.GetProcessed t) = inr tt
  told (message.GetAnchor t) = inr tt
  told (message.GetVerified t r) = inr tt
  told (message.Verified t r b) = inr tt
  told (message.Proposed t r peers b) = inr tt
  told (message.Prepared r peers b) = inr tt
  told (message.Certified t r b) = inr tt
  told (message.HintFinalized h targets) = inr tt
  told (message.Notarization n) = inr tt
  told (message.Finalization f) = inl (finalization f, refl)
  told (message.Certification n) = inr tt

  pub taken : (e : EventCode D B N F) → IsTaken (event_of digest block notarization finalization e)
  taken event.Start = tt
  taken (event.Message m) = told m
  taken (event.Sync t) = tt
  taken (event.Ack t) = tt
  taken (event.Dropped t) = tt
