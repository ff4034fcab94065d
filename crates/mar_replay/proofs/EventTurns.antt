-- What the actor's promise makes of one event, where it tells all that was told and asked.
use Rattle.std.proofs.Common.{Err, List, Ok, Option, Some, [], ap, map, refl, subst, sym, ◌++◌, ◌∙◌, ◌∷◌, ◌≡◌, true, false, filter, nat_lt, IsTrue}
use Rattle.std.specs.Prelude.{Result, flat_map}
use Rattle.std.proofs.lemmas.Simd.{map-map}
use Rattle.mar_types.specs.declared.Sha256.{Sha256}
use Rattle.mar_types.specs.declared.Sha256Digest.{Sha256Digest}
use Rattle.mar_types.specs.Epochs.{fixed_epochs}
use Rattle.mar_cert.specs.Block.{Block}
use Rattle.mar_block.specs.Sent.{Held, Sending, sending}
use Rattle.mar_block.specs.declared.EmptyBlock.{EmptyBlock}
use Rattle.mar_block.specs.declared.recipients.Sent.{Sent as SentCode}
use Rattle.mar_inbox.specs.Views.{sent_by, sent_of}
use Rattle.mar_key.specs.Hears.{Hears}
use Rattle.mar_key.specs.Keys.{Call}
use Rattle.mar_model.specs.Answers.{Sent, TicketAnswer, is_known}
use Rattle.mar_model.specs.Chain.{Chain}
use Rattle.mar_model.specs.Config.{Config}
use Rattle.mar_model.specs.Event.{Event, ack_marked, block_buffered, buffer_ended, life_started, message_told, peer_answered, serve_ended, sync_finished, is_query}
use Rattle.mar_model.specs.Held.{ArePassed, Ending, FailsBy, Remains}
use Rattle.mar_model.specs.Lives.{Cuts}
use Rattle.mar_model.specs.Node.{Node}
use Rattle.mar_model.specs.Moves.{KeepsTakenUp}
use Rattle.mar_model.specs.Promise.{CutsStep, FinishesStep, Heard, HearsMade, IsSetTo, KeepsPromise, KeepsStart, KeepsStep, Waiting, asked_since, heard_with, node_of, waiting_in, IsKnownSince, knowing, known_blocks, told_blocks}
use Rattle.mar_model.specs.Step.{Made, Report, Steps, nothing_made}
use Rattle.mar_model.specs.Stored.{AreSmall}
use Rattle.mar_model.specs.declared.fault.Fault.{Fault as FaultCode}
use Rattle.mar_replay.specs.Playing.{DoesEvent, DoesStart, DoesStep, FindsTakenUp, GivesFew, IsNearLast, SeenNode, TakesEvent}
use Rattle.mar_script.specs.Lines.{plain_block, plain_sent}
use Rattle.mar_script.specs.Shown.{plain_fault}
use Rattle.mar_replay.specs.declared.play.Outcome.{Outcome}
use Rattle.mar_replay.specs.declared.play.Outcome.TheVariants as outcome
use Rattle.mar_replay.specs.declared.play.Pending.{Pending}
use Rattle.mar_replay.specs.declared.play.State.{State as StateCode}
use Rattle.mar_replay.specs.declared.play.State.TheVariants as state
use Rattle.mar_model.specs.Queries.{Learns, commitments_found}
use Rattle.mar_model.proofs.CertificationEvent.{known-since, teaches_parents}
use Rattle.mar_model.proofs.KnownBlocks.{AreOne-behind}
use Rattle.mar_model.proofs.Soundness.{untold}
use Rattle.mar_cert.specs.Finalization.{Finalization}

-- A life that goes on behind an event: it gave few tickets, and knows as certified what it learned besides.
pub record GoesOnWell (seen : SeenNode) (buffer : Held) (e : Event) (new : SeenNode) : Type 0 where
  pub tickets : GivesFew e seen new
  pub no_parents : teaches_parents e ≡ false
  pub learns : Learns seen.certified (commitments_found (λ commitment. commitment) seen.held buffer.blocks e) new.life.tip new.certified
  pub unlearned : IsTrue (is_query e) → new.certified ≡ seen.certified

-- all that was told since there was nothing
told_all : {T : Type 0} (old new more : List T) → old ≡ [] → Hears (Some old) more (Some new) → more ≡ new
told_all old new more none heard = sym (inside heard ∙ ap (λ xs. xs ++ more) none)
  where
    inside : ◌≡◌ {A = Option (List _)} (Some new) (Some (old ++ more)) → new ≡ old ++ more
    inside is = cc

-- made of the same
made_same : (a b : Made) → a.reports ≡ b.reports → a.asks ≡ b.asks → a.sends ≡ b.sends → a.answers ≡ b.answers → a ≡ b
made_same a b reports asks sends answers =
    ap (λ xs. record a { reports = xs }) reports ∙ (ap (λ xs. record a { reports = b.reports; asks = xs }) asks
    ∙ (ap (λ xs. record { reports = b.reports; asks = b.asks; sends = xs; answers = a.answers }) sends ∙ ap (λ xs. record { reports = b.reports; asks = b.asks; sends = b.sends; answers = xs }) answers))

-- as much as these have heard
abbrev heard_of : Made → Heard
heard_of made = heard_with (Some made.reports) (Some made.asks) (Some made.sends) made.answers

module _ (seen : SeenNode) (buffer : Held) (before now : Made) (silent : before ≡ nothing_made) where
  -- what was made is what was heard since
  made_is : (made : Made) → HearsMade (heard_of before) made (heard_of now) → made ≡ now
  made_is made heard = made_same made now (told_all before.reports now.reports made.reports (ap (λ m. m.reports) silent) heard.reports) (told_all before.asks now.asks made.asks (ap (λ m. m.asks) silent) heard.asks) (told_all before.sends now.sends made.sends (ap (λ m. m.sends) silent) heard.sends)
      (sym (heard.answers ∙ ap (λ xs. xs ++ made.answers) (ap (λ m. m.answers) silent)))

  -- a step of this node that finished
  finished : (config : Config) (chain : Chain) (n : Node) (waiting : Waiting) (e : Event) (new : SeenNode) (kept : List Block) → n.buffer ≡ kept → asked_since (waiting_in n) now.asks ≡ asked_since waiting now.asks → IsKnownSince config n e new.life.tip new.certified → FinishesStep config chain n (e ∷ []) (heard_of before) (heard_of now) new.held new.life
      → Steps config chain n (e ∷ []) now (node_of new kept (knowing new.certified (asked_since waiting now.asks)))
  finished config chain n waiting e new kept same waits known finishes =
      subst (λ w. Steps config chain n (e ∷ []) now (node_of new kept (knowing new.certified w))) waits
      (subst (λ bs. Steps config chain n (e ∷ []) now (node_of new bs (knowing new.certified (asked_since (waiting_in n) now.asks)))) same
      (subst (λ m. Steps config chain n (e ∷ []) m (node_of new n.buffer (knowing new.certified (asked_since (waiting_in n) m.asks)))) (made_is finishes.made finishes.heard) (finishes.steps new.certified known)))

  -- one that was cut
  cut_short : (config : Config) (chain : Chain) (n : Node) (e : Event) (x : Ending) → CutsStep config chain n (e ∷ []) (heard_of before) (heard_of now) x → Cuts config chain n (e ∷ []) now x.fault x.remains.ended
  cut_short config chain n e x cut = subst (λ m. Cuts config chain n (e ∷ []) m x.fault x.remains.ended) (made_is cut.made cut.heard) cut.cuts

  -- WHAT IS PROMISED IS DONE

  abbrev PromisesStart : Event → Result SeenNode Ending → Type 0
  PromisesStart e = KeepsStart (fixed_epochs seen.life.epocher.length) (λ commitment. commitment) seen (e ∷ []) buffer.blocks (heard_of before) (heard_of now)

  abbrev PromisesStep : Event → Result SeenNode Ending → Type 0
  PromisesStep e = KeepsStep (fixed_epochs seen.life.epocher.length) (λ commitment. commitment) seen (e ∷ []) buffer.blocks (heard_of before) (heard_of now)

  abbrev Promises : Event → Result SeenNode Ending → Type 0
  Promises e = KeepsPromise (e ∷ []) (fixed_epochs seen.life.epocher.length) (λ commitment. commitment) seen buffer.blocks (heard_of before) (heard_of now)

  -- of a start, and of an event of a life that has begun, where something is so of either
  by_event : {H R : Type 0} (after : StateCode H R) (o : Outcome) (result : Result SeenNode Ending) (IsSo : Event → Type 0) → ((f : Option Finalization) → IsSo (life_started f) → PromisesStart (life_started f) result → DoesStart seen buffer (life_started f) now after o) → ((e : Event) → IsSo e → PromisesStep e result → DoesStep seen buffer e now after o) → (e : Event) → IsSo e → Promises e result → DoesEvent seen buffer e now after o
  by_event after o result IsSo start step (life_started f) so promise = start f so promise
  by_event after o result IsSo start step (message_told t m) so promise = step (message_told t m) so promise
  by_event after o result IsSo start step (ack_marked t m) so promise = step (ack_marked t m) so promise
  by_event after o result IsSo start step (sync_finished t) so promise = step (sync_finished t) so promise
  by_event after o result IsSo start step (peer_answered a) so promise = step (peer_answered a) so promise
  by_event after o result IsSo start step serve_ended so promise = step serve_ended so promise
  by_event after o result IsSo start step (block_buffered b) so promise = step (block_buffered b) so promise
  by_event after o result IsSo start step buffer_ended so promise = step buffer_ended so promise

  module _ (H R : Type 0) (new : SeenNode) (kept : Held) (pending : Pending) (same : kept.blocks ≡ buffer.blocks) where
    started_ok : (f : Option Finalization) → GoesOnWell seen buffer (life_started f) new → PromisesStart (life_started f) (Ok new) → DoesStart {H = H} {R = R} seen buffer (life_started f) now (state.Running new kept pending) outcome.Done
    started_ok f well promise fresh config chain waiting waits set lawful =
        let start = promise fresh config chain waiting set lawful in
        let certified : start.begun.certified ≡ seen.certified = ap (λ n. n.certified) start.takes.begun_is ∙ waits in (
          start.begun,
          start.takes,
          (
            finished config chain start.begun waiting (life_started f) new kept.blocks (ap (λ n. n.buffer) start.takes.begun_is ∙ sym same) (ap (λ n. asked_since (waiting_in n) now.asks) start.takes.begun_is)
                (record { known = λ h c. well.learns h c ∙ ap (λ xs. is_known (filter (λ x. nat_lt new.life.tip x.height) (xs ++ [])) h c) (sym certified); query = λ is. absurd cc }) start.finishes,
            same,
            well.tickets,
          ),
        )

    stepped_ok : (e : Event) → GoesOnWell seen buffer e new → PromisesStep e (Ok new) → DoesStep {H = H} {R = R} seen buffer e now (state.Running new kept pending) outcome.Done
    stepped_ok e well promise loaded config chain waiting waits set lawful = (finished config chain (node_of seen buffer.blocks waiting) waiting e new kept.blocks (sym same) refl known (promise loaded config chain waiting set lawful), same, well.tickets)
      where
        learns : Learns waiting.certified (commitments_found config.inner seen.held buffer.blocks e) new.life.tip new.certified
        learns = subst (λ i. Learns waiting.certified (commitments_found i seen.held buffer.blocks e) new.life.tip new.certified) (sym set.inner_is) (subst (λ xs. Learns xs (commitments_found (λ commitment. commitment) seen.held buffer.blocks e) new.life.tip new.certified) (sym waits) well.learns)

        known : IsKnownSince config (node_of seen buffer.blocks waiting) e new.life.tip new.certified
        known = known-since config chain seen buffer.blocks waiting (AreOne-behind config.inner (flat_map told_blocks (e ∷ [])) (known_blocks chain (node_of seen buffer.blocks waiting)) lawful.one) (untold config chain (node_of seen buffer.blocks waiting) e lawful.good).1.of_chain.stores.held_blocks e new.life.tip new.certified well.no_parents learns (λ query. well.unlearned query ∙ sym waits)

  abbrev ending : FaultCode Sha256Digest → Remains → Ending
  ending fault left = record { fault = plain_fault fault; remains = left }

  module _ (H R : Type 0) (fault : FaultCode Sha256Digest) (left : Remains) where
    started_err : (f : Option Finalization) → IsNearLast (life_started f) seen (plain_fault fault) → PromisesStart (life_started f) (Err (ending fault left)) → DoesStart {H = H} {R = R} seen buffer (life_started f) now (state.Stopped left 0) (outcome.Fault fault)
    started_err f limit promise fresh config chain waiting waits set lawful = let start = promise fresh config chain waiting set lawful in (start.begun, start.takes, (cut_short config chain start.begun (life_started f) (ending fault left) start.cuts, limit))

    stepped_err : (e : Event) → IsNearLast e seen (plain_fault fault) → PromisesStep e (Err (ending fault left)) → DoesStep {H = H} {R = R} seen buffer e now (state.Stopped left 0) (outcome.Fault fault)
    stepped_err e limit promise loaded config chain waiting waits set lawful = (cut_short config chain (node_of seen buffer.blocks waiting) e (ending fault left) (promise loaded config chain waiting set lawful), limit)

-- ONE EVENT

-- what was taken up stays so, and a start takes it up
taken_up : (e : Event) (seen new : SeenNode) → KeepsTakenUp e seen new → FindsTakenUp e seen → new.held.cache.loaded ≡ true
taken_up (life_started f) seen new keeps up = keeps
taken_up (message_told t m) seen new keeps up = keeps up
taken_up (ack_marked t m) seen new keeps up = keeps up
taken_up (sync_finished t) seen new keeps up = keeps up
taken_up (peer_answered a) seen new keeps up = keeps up
taken_up serve_ended seen new keeps up = keeps up
taken_up (block_buffered b) seen new keeps up = keeps up
taken_up buffer_ended seen new keeps up = keeps up

module _ (seen : SeenNode) (buffer : Held) (e : Event) (before now : Made) (silent : before ≡ nothing_made) where
  pub takes_ok : {H R : Type 0} (new : SeenNode) (kept : Held) (pending : Pending) → kept.blocks ≡ buffer.blocks → Promises seen buffer before now silent e (Ok new) → new.life.epocher ≡ seen.life.epocher → new.life.sizes ≡ seen.life.sizes → ArePassed seen.held.watches new.held.watches → GoesOnWell seen buffer e new → KeepsTakenUp e seen new
      → TakesEvent {H = H} {R = R} seen buffer pending e now (state.Running new kept pending) outcome.Done
  takes_ok {H = H} {R = R} new kept pending same promise epocher sizes passed well keeps = record {
    set = λ config set up. (subst (λ z. IsSetTo config z (fixed_epochs new.life.epocher.length) (λ commitment. commitment)) (sym sizes) (subst (λ p. IsSetTo config seen.life.sizes (fixed_epochs p.length) (λ commitment. commitment)) (sym epocher) set), taken_up e seen new keeps up);
    small = λ small. subst AreSmall (sym same) small;
    calls = passed;
    lucky = λ luck line. tt;
    pending_as = refl;
    done = by_event seen buffer before now silent {H = H} {R = R} (state.Running new kept pending) outcome.Done (Ok new) (λ d. GoesOnWell seen buffer d new) (started_ok seen buffer before now silent H R new kept pending same) (stepped_ok seen buffer before now silent H R new kept pending same) e well promise;
  }

  pub takes_err : {H R : Type 0} (pending : Pending) (fault : FaultCode Sha256Digest) (left : Remains) (x : Ending) → x ≡ record { fault = plain_fault fault; remains = left } → Promises seen buffer before now silent e (Err x) → FailsBy seen.held.watches (plain_fault fault) left.watches → IsNearLast e seen (plain_fault fault)
      → TakesEvent {H = H} {R = R} seen buffer pending e now (state.Stopped left 0) (outcome.Fault fault)
  takes_err {H = H} {R = R} pending fault left x is promise fails limit = record {
    set = λ config set up. tt;
    small = λ small. tt;
    calls = fails;
    lucky = λ luck line. refl;
    pending_as = tt;
    done = by_event seen buffer before now silent {H = H} {R = R} (state.Stopped left 0) (outcome.Fault fault) (Err (record { fault = plain_fault fault; remains = left })) (λ d. IsNearLast d seen (plain_fault fault)) (started_err seen buffer before now silent H R fault left) (stepped_err seen buffer before now silent H R fault left) e limit
        (subst (λ y. Promises seen buffer before now silent e (Err y)) is promise);
  }

-- WHAT WAS SENT

-- as it was taken out of the buffer
pub sent_taken : (items : List (SentCode (EmptyBlock Sha256 Sha256Digest))) (sent : List Sending) → map (sending plain_block) items ≡ sent → sent_by (Some sent) ≡ Some (map plain_sent items)
sent_taken items sent taken = ap (λ xs. Some (map sent_of xs)) (sym taken) ∙ ap Some (map-map sent_of (sending plain_block) items)

-- by a buffer out of which was taken what earlier lines sent
pub promise_since : (seen : SeenNode) (buffer cleared : Held) (e : Event) (reports reports' : Option (List Report)) (asks asks' : Option (List Call)) (sent sends' : Option (List Sent)) (answers answers' : List TicketAnswer) (before : Made) (result : Result SeenNode Ending) → cleared ≡ record buffer { sent = [] } → before ≡ nothing_made → sent ≡ sends'
    → KeepsPromise (e ∷ []) (fixed_epochs seen.life.epocher.length) (λ commitment. commitment) seen cleared.blocks (heard_with reports asks (sent_by (Some cleared.sent)) answers) (heard_with reports' asks' sent answers') result
    → KeepsPromise (e ∷ []) (fixed_epochs seen.life.epocher.length) (λ commitment. commitment) seen buffer.blocks (heard_with reports asks (Some before.sends) answers) (heard_with reports' asks' sends' answers') result
promise_since seen buffer cleared e reports reports' asks asks' sent sends' answers answers' before result is silent same promise =
    subst (λ m. KeepsPromise (e ∷ []) (fixed_epochs seen.life.epocher.length) (λ commitment. commitment) seen buffer.blocks (heard_with reports asks (Some m.sends) answers) (heard_with reports' asks' sends' answers') result) (sym silent)
    (subst (λ s. KeepsPromise (e ∷ []) (fixed_epochs seen.life.epocher.length) (λ commitment. commitment) seen buffer.blocks (heard_with reports asks (Some []) answers) (heard_with reports' asks' s answers') result) same
    (subst (λ b. KeepsPromise (e ∷ []) (fixed_epochs seen.life.epocher.length) (λ commitment. commitment) seen b.blocks (heard_with reports asks (sent_by (Some b.sent)) answers) (heard_with reports' asks' sent answers') result) is promise))
