-- Queries, of which no rule of a fault or a tip speaks, and events that are messages.
use Rattle.std.proofs.Common.{◌≡◌, ◌++◌, ℕ, List, [], Option, Some, None, Result, IfErr, OnErr, OnOk, false, map, option_to_list, true, refl, sym, ◌∙◌, ap, subst}
use Rattle.mar_cert.specs.Block.{Block}
use Rattle.mar_cert.specs.Finalization.{Finalization, Notarization}
use Rattle.mar_inbox.specs.Views.{message_of, query_of, ticket_of}
use Rattle.mar_inbox.specs.declared.message.Message.{Message}
use Rattle.mar_inbox.specs.declared.query.Query.{Query}
use Rattle.mar_inbox.specs.declared.query.Query.TheVariants as query
use Rattle.mar_key.specs.Keys.{Call}
use Rattle.mar_model.specs.Answers.{Sent, TicketAnswer, to}
use Rattle.mar_model.specs.Event.{is_query, message_told}
use Rattle.mar_model.specs.Faults.{Fault}
use Rattle.mar_model.specs.Held.{GoesOn, Held, IsReadFault, nothing_written}
use Rattle.mar_model.specs.Node.{CertifiedCommitment}
use Rattle.mar_model.specs.Plans.{Found, answer_plan, message_plan}
use Rattle.mar_model.specs.Promise.{heard_with}
use Rattle.mar_model.specs.Queries.{answers_found, commitments_found, own_found, value_found}
use Rattle.mar_model.specs.Ran.{Does}
use Rattle.mar_model.specs.Scene.{Standing, Window, scene}
use Rattle.mar_model.specs.Step.{Report}
use Rattle.mar_model.proofs.Doing.{Does-replied}
use Rattle.mar_actor.specs.Views.{event_of, message_first, message_sendings, sendings_of, sent_first, told_first, told_of, told_sendings}
use Rattle.mar_actor.specs.declared.event.Event.{Event as EventCode}
use Rattle.mar_actor.specs.declared.event.Event.TheVariants as event
use Rattle.mar_actor.specs.declared.messages.Told.{Told}

module _ {D : Type 0} (digest : D → List ℕ) (t : ℕ) where
  pub asks : (q : Query D) → is_query (message_told (Some t) (query_of digest q)) ≡ true
  asks (query.Info id) = refl
  asks (query.Block id) = refl
  asks (query.Finalization h) = refl
  asks query.Processed = refl
  asks query.Anchor = refl
  asks (query.Verified r) = refl

  pub none_learned : (inner : List ℕ → List ℕ) (h : Held) (buffer : List Block) (q : Query D) → ◌≡◌ {A = List CertifiedCommitment} (commitments_found inner h buffer (message_told (Some t) (query_of digest q))) []
  none_learned inner h buffer (query.Info id) = refl
  none_learned inner h buffer (query.Block id) = refl
  none_learned inner h buffer (query.Finalization k) = refl
  none_learned inner h buffer query.Processed = refl
  none_learned inner h buffer query.Anchor = refl
  none_learned inner h buffer (query.Verified r) = refl

  -- its answer is what stands, whatever a block that is kept would be answered
  pub own-value : (inner : List ℕ → List ℕ) (h : Held) (buffer : List Block) (q : Query D) → own_found inner h buffer (query_of digest q) ≡ value_found inner h buffer (query_of digest q)
  own-value inner h buffer (query.Info id) = refl
  own-value inner h buffer (query.Block id) = refl
  own-value inner h buffer (query.Finalization k) = refl
  own-value inner h buffer query.Processed = refl
  own-value inner h buffer query.Anchor = refl
  own-value inner h buffer (query.Verified r) = refl

  pub query-plan : (inner : List ℕ → List ℕ) (buffer : List Block) (h : Held) (found : Found) (q : Query D) → message_plan inner buffer h (Some t) (query_of digest q) found ≡ answer_plan (map (to t) (option_to_list (value_found inner h buffer (query_of digest q))))
  query-plan inner buffer h found (query.Info id) = refl
  query-plan inner buffer h found (query.Block id) = refl
  query-plan inner buffer h found (query.Finalization k) = refl
  query-plan inner buffer h found query.Processed = refl
  query-plan inner buffer h found query.Anchor = refl
  query-plan inner buffer h found (query.Verified r) = refl

  -- a query reads, and answers
  pub asked : (q : Query D) {T C : Type 0} (inner : List ℕ → List ℕ) (fault : C → Fault) (buffer : List Block) (old new : Held) (life : Window) (standing : Standing) (reports : Option (List Report)) (asks : Option (List Call)) (sends : Option (List Sent)) (answers answers' : List TicketAnswer) (found : Found) (result : Result T C)
      → OnOk result (answers' ≡ answers ++ answers_found inner old buffer (message_told (Some t) (query_of digest q))) → OnErr result (answers' ≡ answers) → OnOk result (new ≡ record old { watches = new.watches }) → GoesOn fault old nothing_written new result → IfErr result (λ c. IsReadFault (fault c))
      → Does inner fault (message_plan inner buffer old (Some t) (query_of digest q) found) (scene old life standing (heard_with reports asks sends answers)) (scene new life standing (heard_with reports asks sends answers')) result
  asked q inner fault buffer old new life standing reports asks sends answers answers' found result answered unanswered same goes read = subst (λ p. Does inner fault p (scene old life standing (heard_with reports asks sends answers)) (scene new life standing (heard_with reports asks sends answers')) result) (sym (query-plan inner buffer old found q)) (Does-replied inner fault old new life standing reports asks sends answers answers' _ result (subst (λ o. OnOk result (answers' ≡ answers ++ map (to t) (option_to_list o))) (own-value inner old buffer q) answered) unanswered same goes read)

-- AN EVENT THAT IS A MESSAGE

-- what its sender tells or asks is the event
pub event_is : {D B N F : Type 0} (digest : D → List ℕ) (block : B → Block) (notarization : N → Notarization) (finalization : F → Finalization) (e : EventCode D B N F) (m : Message D B N F) (r x : Told D B N F) → e ≡ event.Message m → told_of digest block notarization finalization r ≡ message_told (ticket_of m) (message_of digest block notarization finalization m) → r ≡ x → event_of digest block notarization finalization e ≡ told_of digest block notarization finalization x
event_is digest block notarization finalization e m r x is told same = ap (event_of digest block notarization finalization) is ∙ (sym told ∙ ap (told_of digest block notarization finalization) same)

-- and what it sends is what the event sends
pub sendings_are : {D B N F : Type 0} (block : B → Block) (e : EventCode D B N F) (m : Message D B N F) (r x : Told D B N F) → e ≡ event.Message m → told_sendings block r ≡ message_sendings block m → r ≡ x → sendings_of block e ≡ told_sendings block x
sendings_are block e m r x is told same = ap (sendings_of block) is ∙ (sym told ∙ ap (told_sendings block) same)

pub firsts_are : {D B N F : Type 0} (block : B → Block) (e : EventCode D B N F) (m : Message D B N F) (r x : Told D B N F) → e ≡ event.Message m → told_first block r ≡ message_first block m → r ≡ x → sent_first block e ≡ told_first block x
firsts_are block e m r x is told same = ap (sent_first block) is ∙ (sym told ∙ ap (told_first block) same)
