-- Events that change nothing of a node: what such a step makes.
use Rattle.std.proofs.Common.{◌≡◌, inl, ℕ, ◌+◌, List, [], ◌∷◌, length, Option, IsTrue, refl, sym, ◌∙◌, ap, ap₂, arith, Ok, ◌++◌}
use Rattle.std.specs.List.{AllByRecursion}
use Rattle.mar_types.specs.Epochs.{Epochs}
use Rattle.mar_cert.specs.Block.{Block}
use Rattle.mar_key.specs.Hears.{Hears}
use Rattle.mar_key.specs.Keys.{Call}
use Rattle.mar_model.specs.Answers.{Sent, TicketAnswer, answers_of, sends_of}
use Rattle.mar_model.specs.Cache.{entries_put, finished_covers, started_syncs, without_cache_sync}
use Rattle.mar_model.specs.Cached.{Cached}
use Rattle.mar_model.specs.Chain.{Chain}
use Rattle.mar_model.specs.Config.{Config}
use Rattle.mar_model.specs.Event.{Event, is_query, message_told, no_floor}
use Rattle.mar_model.specs.Held.{AreCached, Seen}
use Rattle.mar_model.specs.Node.{CacheSync, CertifiedCommitment, IsGood, Node, Rest}
use Rattle.mar_model.specs.Promise.{IsKnownSince, KeepsStep, Waiting, asked_since, knowing, node_of, Heard, IsLawfulStep, IsSetTo}
use Rattle.mar_model.specs.Step.{Steps}
use Rattle.mar_model.specs.Messages.{Message}
use Rattle.mar_model.proofs.CacheEvents.{LeavesArchives, quietly_made, steps-kept}
use Rattle.mar_model.proofs.CacheOver.{AdvancesCache-beside, moves_none}
use Rattle.mar_model.proofs.Handing.{Hears-nothing}
use Rattle.mar_model.proofs.HonestAsks.{HonestCall}

-- An event that brings, meets, stores, drains, witnesses and starts nothing; it makes these calls, and may send and answer.
pub record IsIdle (config : Config) (n : Node) (e : Event) (calls : List Call) : Type 0 where
  pub rest : LeavesArchives config n e calls
  pub unput : (after : List Cached) → entries_put config n after e no_floor ≡ []
  pub unfinished : (syncs : List CacheSync) → without_cache_sync e syncs ≡ syncs
  pub uncovered : finished_covers n e ≡ []
  pub no_syncs : (n' : Node) → started_syncs n n' e ≡ []

module _ {P E : Type 0} (config : Config) (chain : Chain) (a : Seen P E) (buffer : List Block) (waiting : Waiting) (e : Event) (calls : List Call)
    (quiet : IsIdle config (node_of a buffer waiting) e calls) (honest : AllByRecursion (HonestCall chain) calls) (unasked : IsTrue (is_query e) → calls ≡ []) where
  abbrev n : Node
  n = node_of a buffer waiting

  pub steps : (certified : List CertifiedCommitment) → IsKnownSince config n e a.life.tip certified → (sends : List Sent) (answers : List TicketAnswer) → AreCached a.held
      → sends ≡ sends_of n e → answers ≡ answers_of config n n.lowest e no_floor → IsGood config chain n → Rest config.window n
      → Steps config chain n (e ∷ []) (quietly_made calls sends answers) (node_of a buffer (knowing certified (asked_since waiting calls)))
  steps certified known sends answers cached sent answered good rests =
      steps-kept config chain a buffer waiting a.held.cache a.held.writes.next_sync a.held.watches certified calls e quiet.rest known sends answers
      (AdvancesCache-beside config n e no_floor a a buffer buffer waiting (knowing certified (asked_since waiting calls)) refl (moves_none config chain a a e buffer waiting (quiet.unput a.held.cache.kept.held) (quiet.no_syncs n) (quiet.unfinished a.held.cache.syncs) quiet.uncovered cached.own_lowest (sym (ap (λ w. w.prunes) quiet.rest.witnessing)) (sym (ap (λ w. w.last) quiet.rest.witnessing)) refl refl refl).advances)
      (λ x has. inl has) (λ is. ap₂ (λ cs asks. node_of a buffer (knowing cs (asked_since waiting asks))) (known.query is) (unasked is))
      (sym (ap (λ xs. a.held.writes.next_sync + length xs) (quiet.no_syncs n) ∙ plus_none a.held.writes.next_sync))
      sent answered good.of_chain.cache honest good rests
    where
      plus_none : (k : ℕ) → k + 0 ≡ k
      plus_none k = omega arith

-- such an event leaves the node as it is, but for what it asks: what was asked, sent and answered is what it asks, sends and answers
pub idle_done : {P E : Type 0} (epochs : Epochs) (inner : List ℕ → List ℕ) (a : Seen P E) (buffer : List Block) (k : Option ℕ) (m : Message) (before : Heard)
    (asks : Option (List Call)) (calls : List Call) (sends : Option (List Sent)) (sent : List Sent) (answers answered : List TicketAnswer)
    → AreCached a.held → Hears before.asks calls asks → (IsTrue (is_query (message_told k m)) → calls ≡ []) → Hears before.sends sent sends → answers ≡ before.answers ++ answered
    → ((config : Config) (chain : Chain) (waiting : Waiting) → IsSetTo config a.life.sizes epochs inner → IsLawfulStep config chain (node_of a buffer waiting) (message_told k m ∷ [])
    → IsIdle config (node_of a buffer waiting) (message_told k m) calls × AllByRecursion (HonestCall chain) calls × (sent ≡ sends_of (node_of a buffer waiting) (message_told k m)) ×
    (answered ≡ answers_of config (node_of a buffer waiting) a.held.lowest (message_told k m) no_floor))
    → KeepsStep epochs inner a (message_told k m ∷ []) buffer before (record before { asks = asks; sends = sends; answers = answers }) (Ok a)
idle_done epochs inner a buffer k m before asks calls sends sent answers answered cached asked unasked hears told are loaded config chain waiting set step = record {
  made = quietly_made calls sent answered;
  heard = record { reports = Hears-nothing before.reports; asks = asked; sends = hears; answers = told };
  steps = λ certified known. let is = are config chain waiting set step in steps config chain a buffer waiting
      (message_told k m) calls is.0 is.1 unasked certified known sent answered cached is.2 is.3 step.good step.rests;
}
