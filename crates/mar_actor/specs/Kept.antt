-- What is kept for a caller, and what that one is answered; and what may have been sent where it isn't.
use Rattle.std.specs.Prelude.{Bool, List, Option, Some, [], ℕ, ◌++◌, ◌∷◌, ◌≡◌}
use Rattle.mar_block.specs.Sent.{Sending, Sends}
use Rattle.mar_model.specs.Acts.{kept_value}
use Rattle.mar_model.specs.Answers.{TicketAnswer, to}
use Rattle.mar_model.specs.Cached.{Cached}
use Rattle.mar_model.specs.Held.{Held}
use Rattle.mar_model.specs.Moves.{KeepsFor}
use Rattle.mar_model.specs.Step.{IsFront}

-- Entries were put into the cache for the holder of a ticket, who was answered which sync makes them durable.
pub record KeepsAndAnswers (epoch : ℕ) (put : List Cached) (covered : Cached → Bool) (ticket : ℕ) (old new : Held) (before after : List TicketAnswer) : Type 0 where
  pub sync : Option ℕ
  pub keeps : KeepsFor epoch put covered (Some ticket) sync old new
  pub answered : after ≡ before ++ to ticket (kept_value sync) ∷ []

-- a front of these was sent
abbrev pub SendsFront : Option (List Sending) → List Sending → Option (List Sending) → Type 0
SendsFront old all new = (front : List Sending) × IsFront front all × Sends old front new
