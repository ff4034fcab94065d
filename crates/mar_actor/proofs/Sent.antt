-- What a buffer was handed to send, as the definitions see it.
use Rattle.std.proofs.Common.{◌≡◌, ℕ, List, [], ◌∷◌, ◌++◌, map, Option, Some, None, Result, Ok, Err, OnErr, OnOk, refl, ◌∙◌, ap, subst}
use Rattle.std.proofs.lemmas.List.{map-append}
use Rattle.mar_types.specs.Round.{Round}
use Rattle.mar_cert.specs.Block.{Block}
use Rattle.mar_block.specs.Recipients.{named}
use Rattle.mar_block.specs.Sent.{Sending, Sends}
use Rattle.mar_block.specs.declared.recipients.Recipients.{Recipients}
use Rattle.mar_block.specs.declared.recipients.Recipients.TheVariants.{All, Some as Given}
use Rattle.mar_inbox.specs.Views.{peers_named, peers_of, sent_by, sent_of}
use Rattle.mar_key.specs.Hears.{Hears}
use Rattle.mar_key.specs.Keys.{Call}
use Rattle.mar_model.specs.Acts.{says, send}
use Rattle.mar_model.specs.Answers.{TicketAnswer}
use Rattle.mar_model.specs.Faults.{want_of_memory}
use Rattle.mar_model.specs.Held.{Held, ended_on}
use Rattle.mar_model.specs.Plans.{sent_block}
use Rattle.mar_model.specs.Promise.{heard_with}
use Rattle.mar_model.specs.Ran.{Breaks, Reached, Task, does}
use Rattle.mar_model.specs.Scene.{Scene, Standing, Window, scene}
use Rattle.mar_model.specs.Step.{Report}
use Rattle.mar_model.proofs.Running.{Breaks-now, Reached-more}
use Rattle.mar_model.specs.Step.{IsFront}
use Rattle.mar_model.proofs.Handing.{Hears-nothing}
use Rattle.mar_actor.specs.Kept.{SendsFront}

-- more was sent
pub hears_sent : (old new : Option (List Sending)) (more : List Sending) → Sends old more new → Hears (sent_by old) (map sent_of more) (sent_by new)
hears_sent None new more sends = tt
hears_sent (Some sent) new more sends = ap sent_by sends ∙ ap Some (map-append sent_of sent more)

peers_are : (peers : Recipients ℕ) → peers_named (named peers) ≡ peers_of peers
peers_are All = refl
peers_are (Given peers) = refl

-- one block was
pub hears_one : (old new : Option (List Sending)) (r : Round) (peers : Recipients ℕ) (b : Block) → Sends old (record { round = r; block = b; peers = named peers } ∷ []) new → Hears (sent_by old) (record { round = r; digest = b.digest; peers = peers_of peers } ∷ []) (sent_by new)
hears_one old new r peers b sends = subst (λ p. Hears (sent_by old) (record { round = r; digest = b.digest; peers = p } ∷ []) (sent_by new)) (peers_are peers) (hears_sent old new (record { round = r; block = b; peers = named peers } ∷ []) sends)

-- where it was
pub hears_block : {A E : Type 0} (old new : Option (List Sending)) (r : Round) (peers : Recipients ℕ) (b : Block) (result : Result A E) → OnOk result (Sends old (record { round = r; block = b; peers = named peers } ∷ []) new) → OnOk result (Hears (sent_by old) (record { round = r; digest = b.digest; peers = peers_of peers } ∷ []) (sent_by new))
hears_block old new r peers b (Ok x) sends = hears_one old new r peers b sends
hears_block old new r peers b (Err e) sends = tt

-- nothing was
pub hears_none : {A E : Type 0} (old new : Option (List Sending)) (result : Result A E) → OnErr result (Sends old [] new) → OnErr result (Hears (sent_by old) [] (sent_by new))
hears_none old new (Ok x) sends = tt
hears_none old new (Err e) sends = hears_sent old new [] sends

-- a buffer that stays as it is was handed nothing
pub sends_nothing : (sent : Option (List Sending)) → Sends sent [] sent
sends_nothing None = tt
sends_nothing (Some sent) = Hears-nothing (Some sent)

pub unsent-ok : {A E : Type 0} (sent : Option (List Sending)) (result : Result A E) → OnOk result (Sends sent [] sent)
unsent-ok sent (Ok x) = sends_nothing sent
unsent-ok sent (Err e) = tt

pub unsent-err : {A E : Type 0} (sent : Option (List Sending)) (result : Result A E) → OnErr result (Sends sent [] sent)
unsent-err sent (Ok x) = tt
unsent-err sent (Err e) = sends_nothing sent

-- a front of what was to be sent
pub hears_front : (old new : Option (List Sending)) (r : Round) (peers : Recipients ℕ) (b : Block) (front : List Sending) → IsFront front (record { round = r; block = b; peers = named peers } ∷ []) → Sends old front new
    → IsFront (map sent_of front) (record { round = r; digest = b.digest; peers = peers_of peers } ∷ []) × Hears (sent_by old) (map sent_of front) (sent_by new)
hears_front old new r peers b front (rest, is) sends = ((map sent_of rest, subst (λ p. record { round = r; digest = b.digest; peers = p } ∷ [] ≡ map sent_of front ++ map sent_of rest) (peers_are peers) (ap (map sent_of) is ∙ map-append sent_of front rest)), hears_sent old new front sends)

-- nothing was, so none of it
pub front_none : {A E : Type 0} (old new : Option (List Sending)) (result : Result A E) → OnErr result (Sends old [] new) → OnErr result (SendsFront old [] new)
front_none old new (Ok x) sends = tt
front_none old new (Err e) sends = ([], ([], refl), sends)

-- a block is sent, or memory runs out before
module _ (inner : List ℕ → List ℕ) (held : Held) (life : Window) (standing : Standing) (told : Option (List Report)) (asks : Option (List Call)) (answers : List TicketAnswer) (old new : Option (List Sending)) (r : Round) (peers : Recipients ℕ) (b : Block) (start : Scene) (whole rest : List Task)
    (reached : Reached inner start whole (does (says (send (sent_block r (peers_of peers) b))) ∷ rest) (scene held life standing (heard_with told asks (sent_by old) answers))) where
  pub sent-done : Sends old (record { round = r; block = b; peers = named peers } ∷ []) new → Reached inner start whole rest (scene held life standing (heard_with told asks (sent_by new) answers))
  sent-done sends = Reached-more inner start whole _ rest _ _ reached (hears_one old new r peers b sends, refl)

  pub sent-failed : Sends old [] new → Breaks inner start whole (ended_on want_of_memory held) (heard_with told asks (sent_by new) answers)
  sent-failed silent = Breaks-now inner start whole _ rest _ _ _ reached (refl, hears_sent old new [] silent, refl)

  -- there was no memory for a copy of it
  pub uncopied : Breaks inner start whole (ended_on want_of_memory held) (heard_with told asks (sent_by old) answers)
  uncopied = Breaks-now inner start whole _ rest _ _ _ reached (refl, hears_sent old old [] (sends_nothing old), refl)
