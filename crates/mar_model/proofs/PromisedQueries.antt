-- Reported certifications, prepared blocks, hints and queries: what is promised of them comes of their plans.
use Rattle.std.proofs.Common.{◌≡◌, ◌∷◌, ◌++◌, [], List, None, Some, Option, option_to_list, true, map, ℕ, refl, sym, ◌∙◌, ap, append-nil}
use Rattle.std.specs.Prelude.{flat_map}
use Rattle.mar_types.specs.Epochs.{Epochs}
use Rattle.mar_types.specs.Round.{Round}
use Rattle.mar_cert.specs.Block.{Block}
use Rattle.mar_cert.specs.Finalization.{Notarization}
use Rattle.mar_key.specs.Keys.{Call}
use Rattle.mar_store.specs.Kept.{value_at}
use Rattle.mar_model.specs.Answers.{Value, answers_of, to}
use Rattle.mar_model.specs.Config.{Config}
use Rattle.mar_model.specs.Event.{is_query, message_told, no_floor}
use Rattle.mar_model.specs.Held.{Remembered}
use Rattle.mar_model.specs.Messages.{Message, Peers, hint_finalized, prepared, report_certification}
use Rattle.mar_model.specs.Promise.{Waiting, known_blocks, told_blocks, IsLawfulStep, IsSetTo}
use Rattle.mar_model.specs.Queries.{value_found}
use Rattle.mar_model.specs.Requests.{hint_asks}
use Rattle.mar_model.specs.Acts.{AreLawful, ask, reply, says, send}
use Rattle.mar_model.specs.Plans.{hint_plan, prepared_plan, sent_block}
use Rattle.mar_model.specs.Ran.{does}
use Rattle.mar_model.specs.Scene.{Scene}
use Rattle.mar_model.specs.Chain.{Chain}
use Rattle.mar_model.proofs.EntryLists.{contains_none}
use Rattle.mar_model.proofs.Handing.{Hears-nothing}
use Rattle.mar_model.proofs.HonestAsks.{hint_asks-honest}
use Rattle.mar_model.proofs.Idle.{IsIdle, idle_done}
use Rattle.mar_model.proofs.KnownBlocks.{AreOne-behind}
use Rattle.mar_model.proofs.Owning.{quiet_cut}
use Rattle.mar_model.proofs.Owns.{node_at}
use Rattle.mar_model.proofs.Queries.{IsAnswered, query_is}
use Rattle.mar_model.proofs.SyncPromise.{at, done_as, KeepsPlan}
use Rattle.mar_model.proofs.Unread.{runs_first}

module _ {P E : Type 0} (life : Remembered P E) (epochs : Epochs) (inner : List ℕ → List ℕ) (buffer : List Block) (s : Scene) (law : AreLawful s.held) where
  unanswered : s.heard.answers ≡ s.heard.answers ++ []
  unanswered = sym (append-nil s.heard.answers)

  -- CERTIFICATIONS

  module _ (f : Notarization) where
    idle : (config : Config) (waiting : Waiting) → IsIdle config (node_at s buffer waiting) (message_told None (report_certification f)) []
    idle config waiting = record {
      rest = record { effect = refl; undrained = refl; processed = refl; cutoff = refl; storing = refl; position = refl; syncs = refl; witnessing = refl; no_fault = refl; asks = refl; subscriptions = refl; unrefused = λ fault. refl; once = refl; no_pass = λ n'. refl };
      unput = λ after. refl;
      unfinished = λ xs. refl;
      uncovered = refl;
      no_syncs = λ n'. refl;
    }

    pub certification : KeepsPlan life epochs inner buffer s [] (message_told None (report_certification f))
    certification = record {
      ran = λ t reads.
          done_as life epochs inner (message_told None (report_certification f) ∷ []) buffer s s t s refl reads
          (idle_done epochs inner (at life s) buffer None (report_certification f) s.heard s.heard.asks [] s.heard.sends [] s.heard.answers [] law.cached
          (Hears-nothing s.heard.asks) (λ is. refl) (Hears-nothing s.heard.sends) unanswered (λ config chain waiting set step. (idle config waiting, tt, refl, refl)));
      broke = quiet_cut life epochs inner buffer s law (message_told None (report_certification f)) [] []
          (λ loaded config chain waiting set step. record { calls = []; quiet = (idle config waiting).rest; own = λ y has. contains_none y has; finalizations = tt; blocks = tt; owns = tt; asks = refl; sends = refl; answers = (0, ([], refl)) });
    }

  -- PREPARED BLOCKS

  module _ (r : Round) (peers : Peers) (b : Block) where
    sends : (config : Config) (waiting : Waiting) → IsIdle config (node_at s buffer waiting) (message_told None (prepared r peers b)) []
    sends config waiting = record {
      rest = record { effect = refl; undrained = refl; processed = refl; cutoff = refl; storing = refl; position = refl; syncs = refl; witnessing = refl; no_fault = refl; asks = refl; subscriptions = refl; unrefused = λ fault. refl; once = refl; no_pass = λ n'. refl };
      unput = λ after. refl;
      unfinished = λ xs. refl;
      uncovered = refl;
      no_syncs = λ n'. refl;
    }

    pub sent : KeepsPlan life epochs inner buffer s (prepared_plan (sent_block r peers b)) (message_told None (prepared r peers b))
    sent = record {
      ran = λ t runs.
          let (u, (hears, same), reads) = runs_first inner (does (says (send (sent_block r peers b)))) [] s t law runs in
          done_as life epochs inner (message_told None (prepared r peers b) ∷ []) buffer s u t (record s { heard = record s.heard { sends = u.heard.sends } }) same reads
          (idle_done epochs inner (at life s) buffer None (prepared r peers b) s.heard s.heard.asks [] u.heard.sends (sent_block r peers b ∷ []) s.heard.answers [] law.cached
          (Hears-nothing s.heard.asks) (λ is. refl) hears unanswered (λ config chain waiting set step. (sends config waiting, tt, refl, refl)));
      broke = quiet_cut life epochs inner buffer s law (message_told None (prepared r peers b)) [] (prepared_plan (sent_block r peers b))
          (λ loaded config chain waiting set step. record { calls = []; quiet = (sends config waiting).rest; own = λ y has. contains_none y has; finalizations = tt; blocks = tt; owns = tt; asks = refl; sends = refl; answers = (0, ([], refl)) });
    }

  -- HINTS

  module _ (h : ℕ) (peers : List ℕ) where
    abbrev calls : List Call
    calls = hint_asks s.held.processed h peers (value_at s.held.certs.held h)

    hints : (config : Config) (waiting : Waiting) → IsIdle config (node_at s buffer waiting) (message_told None (hint_finalized h peers)) calls
    hints config waiting = record {
      rest = record {
        effect = refl;
        undrained = refl;
        processed = refl;
        cutoff = refl;
        storing = refl;
        position = refl;
        syncs = refl;
        witnessing = refl;
        no_fault = refl;
        asks = append-nil calls;
        subscriptions = refl;
        unrefused = λ fault. refl;
        once = refl;
        no_pass = λ n'. refl;
      };
      unput = λ after. refl;
      unfinished = λ xs. refl;
      uncovered = refl;
      no_syncs = λ n'. refl;
    }

    pub hinted : KeepsPlan life epochs inner buffer s (hint_plan s.held h peers) (message_told None (hint_finalized h peers))
    hinted = record {
      ran = λ t runs.
          let (u, (hears, same), reads) = runs_first inner (does (says (ask calls))) [] s t law runs in
          done_as life epochs inner (message_told None (hint_finalized h peers) ∷ []) buffer s u t (record s { heard = record s.heard { asks = u.heard.asks } }) same reads
          (idle_done epochs inner (at life s) buffer None (hint_finalized h peers) s.heard u.heard.asks calls s.heard.sends [] s.heard.answers [] law.cached
          hears (λ query. absurd cc) (Hears-nothing s.heard.sends) unanswered
          (λ config chain waiting set step. (hints config waiting, hint_asks-honest chain s.held.processed h peers (value_at s.held.certs.held h), refl, refl)));
      broke = quiet_cut life epochs inner buffer s law (message_told None (hint_finalized h peers)) [] (hint_plan s.held h peers)
          (λ loaded config chain waiting set step. record {
            calls = calls;
            quiet = (hints config waiting).rest;
            own = λ y has. contains_none y has;
            finalizations = tt;
            blocks = tt;
            owns = tt;
            asks = append-nil calls;
            sends = refl;
            answers = (0, ([], refl));
          });
    }

  -- QUERIES

  module _ (k : ℕ) (m : Message) (query : is_query (message_told (Some k) m) ≡ true) (v : Value) (found : value_found inner s.held buffer m ≡ Some v) where
    module _ (config : Config) (chain : Chain) (waiting : Waiting) (set : IsSetTo config s.life.sizes epochs inner) (step : IsLawfulStep config chain (node_at s buffer waiting) (message_told (Some k) m ∷ [])) where
      is : IsAnswered config chain (at life s) buffer waiting (AreOne-behind config.inner (flat_map told_blocks (message_told (Some k) m ∷ [])) (known_blocks chain (node_at s buffer waiting)) step.one)
          step.good.of_chain.stores.held_blocks k m
      is = query_is config chain (at life s) buffer waiting (AreOne-behind config.inner (flat_map told_blocks (message_told (Some k) m ∷ [])) (known_blocks chain (node_at s buffer waiting)) step.one)
          step.good.of_chain.stores.held_blocks k m query

      answers : (lowest : ℕ) → answers_of config (node_at s buffer waiting) lowest (message_told (Some k) m) no_floor ≡ to k v ∷ []
      answers lowest = is.answers lowest ∙ ap (λ o. map (to k) (option_to_list o)) (sym is.found ∙ (ap (λ i. value_found i s.held buffer m) set.inner_is ∙ found))

    pub queried : KeepsPlan life epochs inner buffer s ((does (says (reply (to k v))) ∷ [])) (message_told (Some k) m)
    queried = record {
      ran = λ t runs.
          let (u, same, reads) = runs_first inner (does (says (reply (to k v)))) [] s t law runs in
          done_as life epochs inner (message_told (Some k) m ∷ []) buffer s u t (record s { heard = record s.heard { answers = s.heard.answers ++ to k v ∷ [] } }) same reads
          (idle_done epochs inner (at life s) buffer (Some k) m s.heard s.heard.asks [] s.heard.sends [] (s.heard.answers ++ to k v ∷ []) (to k v ∷ []) law.cached
          (Hears-nothing s.heard.asks) (λ query. refl) (Hears-nothing s.heard.sends) refl
          (λ config chain waiting set step. ((is config chain waiting set step).idle, tt, (is config chain waiting set step).sends, sym (answers config chain waiting set step s.held.lowest))));
      broke = quiet_cut life epochs inner buffer s law (message_told (Some k) m) [] (does (says (reply (to k v))) ∷ [])
          (λ loaded config chain waiting set step. record {
            calls = [];
            quiet = (is config chain waiting set step).idle.rest;
            own = λ y has. contains_none y has;
            finalizations = tt;
            blocks = tt;
            owns = tt;
            asks = refl;
            sends = (is config chain waiting set step).sends;
            answers = (0, ([], answers config chain waiting set step 0));
          });
    }
