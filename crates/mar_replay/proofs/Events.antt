-- The events of a script: none of them makes a parent known as certified where its block is.
use Rattle.std.proofs.Common.{List, false, refl, ◌≡◌, ℕ}
use Rattle.mar_cert.specs.Block.{Block}
use Rattle.mar_cert.specs.Finalization.{Finalization, Notarization}
use Rattle.mar_inbox.specs.declared.Message.TheVariants as message
use Rattle.mar_actor.specs.Views.{event_of}
use Rattle.mar_actor.specs.declared.event.Event.{Event as EventCode}
use Rattle.mar_actor.specs.declared.event.Event.TheVariants as event
use Rattle.mar_model.proofs.CertificationEvent.{teaches_parents}

module _ {D B N F : Type 0} (digest : D → List ℕ) (block : B → Block) (notarization : N → Notarization) (finalization : F → Finalization) where
  pub no_parents : (e : EventCode D B N F) → teaches_parents (event_of digest block notarization finalization e) ≡ false
  no_parents event.Start = refl
  no_parents (event.Sync t) = refl
  no_parents (event.Ack t) = refl
  no_parents (event.Dropped t) = refl
  no_parents (event.Message (message.GetInfo t i)) = refl
  no_parents (event.Message (message.GetBlock t i)) = refl
  no_parents (event.Message (message.GetFinalization t h)) = refl
  no_parents (event.Message (message.GetProcessed t)) = refl
  no_parents (event.Message (message.GetAnchor t)) = refl
  no_parents (event.Message (message.GetVerified t r)) = refl
  no_parents (event.Message (message.Verified t r b)) = refl
  no_parents (event.Message (message.Proposed t r peers b)) = refl
  no_parents (event.Message (message.Prepared r peers b)) = refl
  no_parents (event.Message (message.Certified t r b)) = refl
  no_parents (event.Message (message.HintFinalized h targets)) = refl
  no_parents (event.Message (message.Notarization n)) = refl
  no_parents (event.Message (message.Finalization f)) = refl
  no_parents (event.Message (message.Certification n)) = refl
