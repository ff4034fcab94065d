-- An actor as a node, what a step asks of it and of its event, and what a step promises.
use Rattle.std.specs.List.{AllByRecursion, filter_map}
use Rattle.std.specs.Prelude.{Bool, Contains, flat_map, IsTrue, List, MatchResult, None, Option, Result, Some, [], false, length, true, ℕ, ⊤, ◌++◌, ◌<◌, ◌∷◌, ◌≡◌, ◌⊎◌}
use Rattle.mar_types.specs.Epochs.{Epochs, IsPartition}
use Rattle.mar_cert.specs.Block.{Block}
use Rattle.mar_cert.specs.Finalization.{finalization_bytes}
use Rattle.mar_store.specs.Sizes.{IsSmall}
use Rattle.mar_key.specs.Asked.{Asked, asked_after}
use Rattle.mar_key.specs.Hears.{Hears}
use Rattle.mar_key.specs.Keys.{Call}
use Rattle.mar_key.specs.PeerQueue.{PeerQueue}
use Rattle.mar_model.specs.Answers.{Sent, TicketAnswer, certified_after, is_known}
use Rattle.mar_model.specs.Cached.{Cached, cached_block}
use Rattle.mar_model.specs.Messages.{Inbox, certify, message_blocks, proposed, report_finalization, report_notarization, verified}
use Rattle.mar_model.specs.Chain.{Chain, IsBlockAt, IsLawful}
use Rattle.mar_model.specs.Config.{Config}
use Rattle.mar_model.specs.Event.{Event, effect_of, is_query, life_started, message_told}
use Rattle.mar_model.specs.Faults.{Begin, from_floor, from_genesis}
use Rattle.mar_model.specs.Held.{Ending, Held, Remains, Remembered, Seen, Sizes, picks_of, seen}
use Rattle.mar_model.specs.Lives.{Cuts, CutsReopening, Finds, IsGoodEnded, Picks, TakesUp}
use Rattle.mar_model.specs.Node.{Awaited, CertifiedCommitment, Ended, IsFinalized, IsGood, Node, Rest, Subscription, empty_inbox, empty_peers}
use Rattle.mar_model.specs.Step.{Made, Report, Steps, nothing_made}

-- What stands around the stores and the window of a life: an awaited floor, the queues, and callers that wait.
pub record Around : Type 0 where
  pub awaited : Option Awaited
  pub peers : PeerQueue
  pub inbox : Inbox
  pub subscriptions : List Subscription
  pub buffer_closed : Bool

-- Nothing stands there yet, and the queues have this capacity.
abbrev pub nothing_around : ℕ → Around
nothing_around capacity = record {
  awaited = None;
  peers = empty_peers capacity;
  inbox = empty_inbox capacity;
  subscriptions = [];
  buffer_closed = false;
}

-- Who waits beside a life: the requests that are open with the resolver, the answer tickets for which neither an answer nor a
-- closing has come, and the next answer ticket; and the commitments that are known as certified.
pub record Waiting : Type 0 where
  pub requests : List Asked
  pub unanswered : List ℕ
  pub next_answer : ℕ
  pub certified : List CertifiedCommitment

-- as a life begins
abbrev pub none_waiting : Waiting
none_waiting = record { requests = []; unanswered = []; next_answer = 0; certified = [] }

-- where these commitments are known as certified
abbrev pub knowing : List CertifiedCommitment → Waiting → Waiting
knowing certified waiting = record waiting { certified = certified }

-- after these asks
abbrev pub asked_since : Waiting → List Call → Waiting
asked_since waiting asks = record waiting { requests = asked_after waiting.requests [] asks }

abbrev pub waiting_in : Node → Waiting
waiting_in n = record { requests = n.asked; unanswered = n.unanswered; next_answer = n.next_answer; certified = n.certified }

-- the node that an actor is, with what stands around it, this buffer and those who wait
abbrev pub node_around : {P E : Type 0} → Around → Seen P E → List Block → Waiting → Node
node_around around a buffer waiting = record {
  blocks = a.held.blocks;
  certs = a.held.certs;
  processed = a.held.processed;
  cutoff = a.held.cutoff;
  meta = a.held.pairs;
  out = a.life.out;
  awaited = around.awaited;
  covered = a.held.writes.covered;
  uncovered = a.held.writes.uncovered;
  syncs = a.held.writes.syncs;
  tip = a.life.tip;
  buffer = buffer;
  cache = a.held.cache.kept;
  lowest = a.held.lowest;
  lowests = a.held.lowests;
  cache_syncs = a.held.cache.syncs;
  asked = waiting.requests;
  peers = around.peers;
  inbox = around.inbox;
  subscriptions = around.subscriptions;
  certified = waiting.certified;
  witnessed = a.held.witnessed;
  buffer_closed = around.buffer_closed;
  unanswered = waiting.unanswered;
  next_answer = waiting.next_answer;
  next_sync = a.held.writes.next_sync;
  next_ack = a.life.next_ack;
}

-- as an actor is today
abbrev pub node_of : {P E : Type 0} → Seen P E → List Block → Waiting → Node
node_of a buffer waiting = node_around (nothing_around a.life.sizes.capacity) a buffer waiting

-- the settings are the actor's
pub record IsSetTo (config : Config) (sizes : Sizes) (epochs : Epochs) (inner : List ℕ → List ℕ) : Type 0 where
  pub window : config.window ≡ sizes.window
  pub max_repair : config.max_repair ≡ sizes.max_repair
  pub retention : config.retention ≡ sizes.retention
  pub capacity : config.capacity ≡ sizes.capacity
  pub epochs_are : config.epochs ≡ epochs
  pub inner_is : config.inner ≡ inner

-- A commitment names the digest of its block, and a digest names one block.
pub record AreOne (inner : List ℕ → List ℕ) (blocks : List Block) : Type 0 where
  pub names : (b : Block) → Contains blocks b → inner b.commitment ≡ b.digest
  pub one : (a b : Block) → Contains blocks a → Contains blocks b → a.digest ≡ b.digest → a ≡ b

-- a reported finalization is the chain's
abbrev pub ReportsFinalized : Chain → Event → Type 0
ReportsFinalized chain (message_told t (report_finalization f)) = IsFinalized chain f.round f.payload
ReportsFinalized chain _ = ⊤

-- it rests, unless its life begins with these events
abbrev pub RestsBefore : ℕ → Node → List Event → Type 0
RestsBefore window n (life_started f ∷ events) = ⊤
RestsBefore window n _ = Rest window n

-- good once this tip is told
abbrev pub IsGoodUntold : Config → Chain → Node → Type 0
IsGoodUntold config chain n = (tip : ℕ) × IsGood config chain (record n { tip = tip })

-- good, but for its tip where its life begins with these events, which tell it
abbrev pub IsGoodFor : Config → Chain → Node → List Event → Type 0
IsGoodFor config chain n (life_started f ∷ events) = IsGoodUntold config chain n
IsGoodFor config chain n _ = IsGood config chain n

-- the blocks that a step may meet: the chain's, those of the buffer, and those that are cached or that a crash may leave cached
abbrev pub known_blocks : Chain → Node → List Block
known_blocks chain n = chain.blocks ++ (n.buffer ++ filter_map cached_block (n.cache.held ++ n.cache.may))

-- the blocks that an event tells
abbrev pub told_blocks : Event → List Block
told_blocks (message_told t m) = message_blocks m
told_blocks _ = []

-- What a step asks: a lawful chain, that digests name one block each, finalizations of the chain, a good node that rests.
pub record IsLawfulStep (config : Config) (chain : Chain) (n : Node) (events : List Event) : Type 0 where
  pub lawful : IsLawful config.epochs chain
  pub one : AreOne config.inner (flat_map told_blocks events ++ known_blocks chain n)
  pub reported : AllByRecursion (ReportsFinalized chain) events
  pub good : IsGoodFor config chain n events
  pub rests : RestsBefore config.window n events

-- what was made, where nobody was answered and nothing sent
abbrev pub made_of : List Report → List Call → Made
made_of reports asks = record { reports = reports; asks = asks; sends = []; answers = [] }

-- what those around a life have heard so far: the application, the resolver and the buffer, which sends, where they tell
-- that, and those who ask
pub record Heard : Type 0 where
  pub reports : Option (List Report)
  pub asks : Option (List Call)
  pub sends : Option (List Sent)
  pub answers : List TicketAnswer

abbrev pub heard_with : Option (List Report) → Option (List Call) → Option (List Sent) → List TicketAnswer → Heard
heard_with reports asks sends answers = record { reports = reports; asks = asks; sends = sends; answers = answers }

-- nothing was sent and nobody answered
abbrev pub heard_by : Option (List Report) → Option (List Call) → Heard
heard_by reports asks = heard_with reports asks (Some []) []

-- What they heard between the two is what was made.
pub record HearsMade (before : Heard) (made : Made) (after : Heard) : Type 0 where
  pub reports : Hears before.reports made.reports after.reports
  pub asks : Hears before.asks made.asks after.asks
  pub sends : Hears before.sends made.sends after.sends
  pub answers : after.answers ≡ before.answers ++ made.answers

-- These are the commitments that are known as certified after an event, up to their order and to repeats, where this is the
-- tip then; a query leaves them as they are.
pub record IsKnownSince (config : Config) (n : Node) (e : Event) (tip : ℕ) (certified : List CertifiedCommitment) : Type 0 where
  pub known : (h : ℕ) (c : List ℕ) → is_known certified h c ≡ is_known (certified_after n e (effect_of config n e) tip) h c
  pub query : IsTrue (is_query e) → certified ≡ n.certified

-- the same of the events of a step; of several nothing is said
abbrev pub IsKnownAfter : Config → Node → List Event → ℕ → List CertifiedCommitment → Type 0
IsKnownAfter config n (e ∷ []) tip certified = IsKnownSince config n e tip certified
IsKnownAfter config n _ tip certified = ⊥

-- A step that finished, and left these: what was heard is what it made, what is open with the resolver follows from that, and
-- the commitments that are known as certified are those that are known after it.
pub record FinishesStep {P E : Type 0} (config : Config) (chain : Chain) (n : Node) (events : List Event) (before after : Heard) (held : Held) (life : Remembered P E) : Type 0 where
  pub made : Made
  pub heard : HearsMade before made after
  pub steps : (certified : List CertifiedCommitment) → IsKnownAfter config n events life.tip certified
      → Steps config chain n events made (node_of (seen held life) n.buffer (knowing certified (asked_since (waiting_in n) made.asks)))

-- A step that was cut: what was heard is what it made until then.
pub record CutsStep (config : Config) (chain : Chain) (n : Node) (events : List Event) (before after : Heard) (e : Ending) : Type 0 where
  pub made : Made
  pub heard : HearsMade before made after
  pub cuts : Cuts config chain n events made e.fault e.remains.ended

abbrev pub StepsOrCuts : {P E : Type 0} → Config → Chain → Node → List Event → Heard → Heard → Result (Seen P E) Ending → Type 0
StepsOrCuts config chain n events before after result = MatchResult result (λ new. FinishesStep config chain n events before after new.held new.life) (CutsStep config chain n events before after)

-- What a step of a life that has begun promises of every chain for which it is lawful, where what a crash left of the cache was
-- taken up: it is a step of the node, or a cut.
abbrev pub KeepsStep : {P E : Type 0} → Epochs → (List ℕ → List ℕ) → Seen P E → List Event → List Block → Heard → Heard → Result (Seen P E) Ending → Type 0
KeepsStep epochs inner old events buffer before after result =
    old.held.cache.loaded ≡ true → (config : Config) (chain : Chain) (waiting : Waiting) → IsSetTo config old.life.sizes epochs inner → IsLawfulStep config chain (node_of old buffer waiting) events
    → StepsOrCuts config chain (node_of old buffer waiting) events before after result

-- A start that finished: what a crash left of the cache was taken up, and from there it is a step of the node.
pub record FinishesStart {P E : Type 0} (config : Config) (chain : Chain) (picked : Option (List Cached)) (n : Node) (events : List Event) (before after : Heard) (held : Held) (life : Remembered P E) : Type 0 where
  pub begun : Node
  pub takes : TakesUp picked n begun
  pub finishes : FinishesStep config chain begun events before after held life

-- A start that was cut, before it took up the cache or behind that.
pub record CutsStart (config : Config) (chain : Chain) (picked : Option (List Cached)) (n : Node) (events : List Event) (before after : Heard) (e : Ending) : Type 0 where
  pub begun : Node
  pub takes : (begun ≡ n) ⊎ TakesUp picked n begun
  pub cuts : CutsStep config chain begun events before after e

-- What a start promises where nothing was put into the cache nor taken up before it.
abbrev pub KeepsStart : {P E : Type 0} → Epochs → (List ℕ → List ℕ) → Seen P E → List Event → List Block → Heard → Heard → Result (Seen P E) Ending → Type 0
KeepsStart epochs inner old events buffer before after result =
    old.held.cache.fresh ≡ true → (config : Config) (chain : Chain) (waiting : Waiting) → IsSetTo config old.life.sizes epochs inner → IsLawfulStep config chain (node_of old buffer waiting) events
    → MatchResult result (λ new. FinishesStart config chain old.held.cache.finds (node_of old buffer waiting) events before after new.held new.life) (CutsStart config chain old.held.cache.finds (node_of old buffer waiting) events before after)

-- what a step promises, be it the start of a life or one of a life that has begun
abbrev pub KeepsPromise : {P E : Type 0} → List Event → Epochs → (List ℕ → List ℕ) → Seen P E → List Block → Heard → Heard → Result (Seen P E) Ending → Type 0
KeepsPromise (life_started f ∷ events) epochs inner old buffer before after result = KeepsStart epochs inner old (life_started f ∷ events) buffer before after result
KeepsPromise events epochs inner old buffer before after result = KeepsStep epochs inner old events buffer before after result

-- what an event would store is small
abbrev pub IsSmallEvent : Event → Type 0
IsSmallEvent (message_told t (report_finalization f)) = IsSmall (finalization_bytes f)
IsSmallEvent (message_told t (report_notarization f)) = IsSmall (finalization_bytes f)
IsSmallEvent (message_told t (verified r b)) = IsSmall b.encoded
IsSmallEvent (message_told t (proposed r peers b)) = IsSmall b.encoded
IsSmallEvent (message_told t (certify r b)) = IsSmall b.encoded
IsSmallEvent _ = ⊤

-- OPENING

-- and what an opening would
abbrev pub IsSmallBegin : Begin → Type 0
IsSmallBegin (from_genesis b) = IsSmall b.encoded
IsSmallBegin (from_floor f) = IsSmall (finalization_bytes f)

-- What an opening asks: a partition into epochs, a lawful chain whose blocks each have a digest of their own, that what is
-- left is good for it and has some pair, and a genesis that is its block 0.
pub record IsLawfulOpening (config : Config) (chain : Chain) (e : Ended) (begin : Begin) : Type 0 where
  pub partition : IsPartition config.epochs
  pub lawful : IsLawful config.epochs chain
  pub one : AreOne config.inner chain.blocks
  pub good : IsGoodEnded chain e
  pub some_pair : 0 < length e.meta
  pub genesis : (b : Block) → begin ≡ from_genesis b → IsBlockAt chain 0 b

-- A node that begins: what the opening found, and good but for its tip, which its start tells.
pub record Begins (config : Config) (chain : Chain) (e : Ended) (picks : Picks) (begin : Begin) (n : Node) : Type 0 where
  pub finds : Finds config e picks begin n
  pub good : IsGoodUntold config chain n

-- What an opening promises of every chain for which it is lawful: a node that begins, or a cut before its start.
abbrev pub KeepsOpening : {P E F : Type 0} → Epochs → (List ℕ → List ℕ) → Sizes → Remains → ℕ → Begin → Result (Seen P E × F) Ending → Type 0
KeepsOpening epochs inner sizes old luck begin result =
    (config : Config) (chain : Chain) → IsSetTo config sizes epochs inner → IsLawfulOpening config chain old.ended begin
    → MatchResult result (λ r. Begins config chain old.ended (picks_of old luck) begin (node_of r.0 [] none_waiting)) (λ e. CutsReopening config chain old.ended (picks_of old luck) begin nothing_made e.fault e.remains.ended)

-- a node that begins is what some reopening of these stores finds, in which no fault is due, whatever the chain
abbrev pub IsFound : {P E : Type 0} → Epochs → (List ℕ → List ℕ) → Sizes → Remains → ℕ → Begin → Seen P E → Type 0
IsFound epochs inner sizes old luck begin a = (config : Config) → IsSetTo config sizes epochs inner → Finds config old.ended (picks_of old luck) begin (node_of a [] none_waiting)
