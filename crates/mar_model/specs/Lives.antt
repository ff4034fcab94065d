-- Lives of a node: an opening, steps, and an end, which is a crash or a cut.
use Rattle.std.specs.List.{AllByRecursion}
use Rattle.std.specs.Prelude.{Bool, Contains, IfSome, IsTrue, List, None, Option, Some, [], false, if◌then◌else◌, length, map, option_map, option_to_list, true, ℕ, ⊤, ◌++◌, ◌+◌, ◌<◌, ◌∷◌, ◌≡◌, ◌≤◌, ◌⊎◌}
use Rattle.mar_types.specs.Round.{Round, round_lt}
use Rattle.mar_cert.specs.Block.{Block}
use Rattle.mar_cert.specs.Finalization.{Finalization}
use Rattle.mar_key.specs.Cutoff.{Cutoff, at_epoch, at_round, greatest_of}
use Rattle.mar_key.specs.Processed.{Processed, at_absent, at_block, height_in}
use Rattle.mar_types.specs.Epochs.{Epochs, closed_epoch}
use Rattle.mar_model.specs.AllEntries.{LoadsEntries}
use Rattle.mar_model.specs.Chain.{Chain}
use Rattle.mar_store.specs.Changes.{Left, Within}
use Rattle.mar_store.specs.Kept.{At, EachHeightOnce, Kept, Reopens, has_height, newest_upto, reopened_store, value_at}
use Rattle.mar_model.specs.Messages.{set_floor}
use Rattle.mar_model.specs.Config.{Config}
use Rattle.mar_model.specs.OpenSyncs.{AreStillOpen}
use Rattle.mar_model.specs.Node.{CacheSync, AreBlocksOf, AreCachedOf, AreFinalizationsOf, BlocksAgree, Ended, FloorSafe, Node, empty_inbox, empty_peers, left_by}
use Rattle.mar_model.specs.Acks.{Outstanding}
use Rattle.mar_model.specs.Cached.{Cached, IsUnloaded, epoch_of, unloaded}
use Rattle.mar_model.specs.Metadata.{Pair, first_pair, pair_of}
use Rattle.mar_model.specs.Event.{Effect, Event, blocks_from, certs_from, cutoff_after, effect_of, kept_blocks, life_started, marked_blocks, message_told, processed_after}
use Rattle.mar_model.specs.Cache.{MayBeCached, is_pruned, witnessing_of}
use Rattle.mar_model.specs.Faults.{Begin, Fault, dropped_ack, event_fault, floor_epoch_unavailable, floor_invalid, floor_of, from_genesis, is_by_value, meta_store, next_after, opening_fault, store_fault, with_genesis}
use Rattle.mar_model.specs.Answers.{answers_of, sends_of}
use Rattle.mar_key.specs.Keys.{Call}
use Rattle.mar_model.specs.Requests.{IsRepairFetch, may_repair, own_asks}
use Rattle.mar_model.specs.Step.{AdvancesAll, AreHandedOf, AreTipsOf, HandedFrom, IsBlockFrom, IsCertFrom, IsFront, Made, Steps, TipsFrom, handed_blocks, joined_made, nothing_made}

-- the processed height is backed by a sure block, and the cutoff is safe
abbrev pub BackedBy : List (At Block) → Option ℕ → Type 0
BackedBy sure None = ⊤
BackedBy sure (Some h) = IsTrue (has_height sure h) ⊎ IsTrue (has_height sure (h + 1))

-- What is left is fit for a chain: whatever a crash keeps of it, an opening finds blocks and certificates of the chain, a backed height and a safe cutoff.
pub record IsGoodEnded (chain : Chain) (e : Ended) : Type 0 where
  pub may_blocks : AreBlocksOf chain e.blocks_may
  pub may_certs : AreFinalizationsOf chain e.certs_may
  pub may_cached : AreCachedOf chain e.cache_may
  pub may_cached_blocks : BlocksAgree chain e.cache_may
  pub backed : AllByRecursion (λ p. BackedBy e.blocks_sure p.processed) e.meta
  pub floor_safe : AllByRecursion (λ p. FloorSafe p.processed p.cutoff e.blocks_sure chain) e.meta

-- the processed height, by whether its block is there
abbrev pub processed_at : List (At Block) → ℕ → Processed
processed_at blocks h = if has_height blocks h then at_block h else at_absent h

-- the round of the newest held certificate at or below the processed height
abbrev pub processed_round : List (At Finalization) → Option ℕ → Option Round
processed_round certs None = None
processed_round certs (Some h) = option_map (λ x. x.value.round) (newest_upto certs h)

-- the round of the successor, where its block is held with its certificate
abbrev pub successor_round : List (At Block) → List (At Finalization) → ℕ → Option Round
successor_round blocks certs next = if has_height blocks next then option_map (λ f. f.round) (value_at certs next) else None

-- the epoch closed at that successor, or else at the processed height
abbrev pub closed_epoch_at : Epochs → Option Round → Option ℕ → ℕ → Option ℕ
closed_epoch_at epochs (Some r) processed next = closed_epoch epochs next
closed_epoch_at epochs None None next = None
closed_epoch_at epochs None (Some h) next = closed_epoch epochs h

-- the greatest of the stored cutoff and those that the archives show
abbrev pub opened_cutoff : Epochs → List (At Block) → List (At Finalization) → Pair → Cutoff
opened_cutoff epochs blocks certs pair =
    let next = next_after pair.processed in
    let successor = successor_round blocks certs next in
    greatest_of pair.cutoff
    (option_to_list (option_map at_round (processed_round certs pair.processed))
    ++ option_to_list (option_map at_round successor)
    ++ option_to_list (option_map at_epoch (closed_epoch_at epochs successor pair.processed next)))

-- the later of the two
abbrev pub later_round : Round → Option Round → Round
later_round r None = r
later_round r (Some s) = if round_lt r s then s else r

-- the round that is witnessed before any other
abbrev pub round_zero : Round
round_zero = record { epoch = 0; view = 0 }

-- the later of the two rounds that the cutoff is derived from
abbrev pub opened_witnessed : List (At Block) → List (At Finalization) → Pair → Round
opened_witnessed blocks certs pair =
    later_round (later_round round_zero (processed_round certs pair.processed)) (successor_round blocks certs (next_after pair.processed))

-- a node that begins a life on these stores
abbrev pub opened_node : Config → Kept (At Block) → List (At Finalization) → Left Cached → ℕ → List ℕ → Pair → Node
opened_node config blocks certs cache lowest lowests pair =
    let cutoff = opened_cutoff config.epochs blocks.held certs pair in
    let processed = option_map (processed_at blocks.held) pair.processed in
    record {
      blocks = blocks;
      certs = reopened_store certs;
      processed = processed;
      cutoff = cutoff;
      meta = pair_of processed cutoff ∷ [];
      out = [];
      awaited = None;
      covered = 0;
      uncovered = [];
      syncs = [];
      tip = 0;
      buffer = [];
      cache = unloaded cache;
      lowest = lowest;
      lowests = lowests;
      cache_syncs = [];
      asked = [];
      peers = empty_peers config.capacity;
      inbox = empty_inbox config.capacity;
      subscriptions = [];
      certified = [];
      witnessed = opened_witnessed blocks.held certs pair;
      buffer_closed = false;
      unanswered = [];
      next_answer = 0;
      next_sync = 0;
      next_ack = 0;
    }

-- the same values at the same heights
abbrev pub SameAt : {T : Type 0} → List (At T) → List (At T) → Type 0
SameAt xs ys = EachHeightOnce xs × ((h : ℕ) → value_at xs h ≡ value_at ys h)

-- All that is held is sure, and a crash leaves just that.
pub record IsSettled {T : Type 0} (kept : Kept T) : Type 0 where
  pub sure : kept.sure ≡ kept.held
  pub may : Within kept.may kept.held
  pub held_may : Within kept.held kept.may

-- What the luck of an opening picks of what is left, where the stores go by it.
pub record Picks : Type 0 where
  pub blocks : Option (List (At Block))
  pub certs : Option (List (At Finalization))
  pub pair : Option (Option Pair)
  pub cache : Option (List Cached)

-- where luck picks, this was found of the archives and of the metadata
pub record IsPicked (picks : Picks) (blocks : List (At Block)) (certs : List (At Finalization)) (pair : Pair) : Type 0 where
  pub blocks_are : IfSome picks.blocks (λ picked. blocks ≡ picked)
  pub certs_are : IfSome picks.certs (λ picked. certs ≡ picked)
  pub pair_is : IfSome picks.pair (λ picked. Some pair ≡ picked)

-- stores that do not go by luck
abbrev pub no_picks : Picks
no_picks = record { blocks = None; certs = None; pair = None; cache = None }

-- What an opening finds: each list reopened, but for the cache, which is taken up later, one pair of the metadata, block 0 entered, no fault.
pub record Finds (config : Config) (e : Ended) (picks : Picks) (begin : Begin) (n : Node) : Type 0 where
  pub pair : Pair
  pub pair_may : Contains e.meta pair
  pub found : List (At Block)
  pub found_may : Reopens e.blocks_sure e.blocks_may found
  pub certs : List (At Finalization)
  pub certs_may : Reopens e.certs_sure e.certs_may certs
  pub picked : IsPicked picks found certs pair
  pub cache : Left Cached
  pub cache_may : IsUnloaded e.cache_sure e.cache_may cache
  pub lowest : ℕ
  pub lowests : List ℕ
  pub lowests_were : (k : ℕ) → Contains lowests k → Contains e.lowests k
  pub lowest_was : Contains lowests lowest
  pub blocks : Kept (At Block)
  pub settled : IsSettled blocks
  pub entered : SameAt blocks.held (with_genesis begin pair.processed found)
  pub no_fault : opening_fault found certs pair begin ≡ None
  pub node : n ≡ opened_node config blocks certs cache lowest lowests pair

-- these are the entries that luck picked, where it picks
abbrev pub ArePicked : Option (List Cached) → List Cached → Type 0
ArePicked picked held = IfSome picked (λ entries. held ≡ entries)

-- A node took up what a crash left of its cache: what luck picked, where the cache goes by luck.
pub record TakesUp (picked : Option (List Cached)) (n begun : Node) : Type 0 where
  pub cache : Kept Cached
  pub loads : LoadsEntries n.cache cache
  pub by_luck : ArePicked picked cache.held
  pub syncs : List CacheSync
  pub still_open : AreStillOpen (λ x. false) n.cache_syncs syncs
  pub begun_is : begun ≡ record n { cache = cache; cache_syncs = syncs }

-- An opening that finished: what it found, then the step of a start, which takes up what was left of the cache.
pub record Opens (config : Config) (chain : Chain) (e : Ended) (picks : Picks) (begin : Begin) (made : Made) (n : Node) : Type 0 where
  pub first : Node
  pub finds : Finds config e picks begin first
  pub begun : Node
  pub takes : TakesUp picks.cache first begun
  pub start : Steps config chain begun (life_started (floor_of begin) ∷ []) made n

-- CUT

-- no lower than the processed height of the last finished step
abbrev pub NotBelow : Option ℕ → Option ℕ → Type 0
NotBelow least height = next_after least ≤ next_after height

-- a floor of a message that is refused: epoch or certificate
abbrev pub is_refused_floor : Event → Fault → Bool
is_refused_floor (message_told t (set_floor f)) (floor_epoch_unavailable k) = true
is_refused_floor (message_told t (set_floor f)) (floor_invalid r) = true
is_refused_floor e fault = false

abbrev pub is_dropped_ack : Fault → Bool
is_dropped_ack (dropped_ack h) = true
is_dropped_ack fault = false

-- What a cut leaves of what was sure before: only what stands below the bounds, or may leave the cache,
-- is lost; the lowest epochs and the pairs of the metadata are among those that may be left.
pub record LeavesSure (chain : Chain) (before : Ended) (blocks_bound certs_bound : ℕ) (MayLeave : Cached → Type 0) (lowests_may : List ℕ) (MayBePair : Pair → Type 0) (left : Ended) : Type 0 where
  pub sure_blocks : (h : ℕ) (b : Block) → value_at before.blocks_sure h ≡ Some b → blocks_bound ≤ h → value_at left.blocks_sure h ≡ Some b
  pub sure_certs : (h : ℕ) (f : Finalization) → value_at before.certs_sure h ≡ Some f → certs_bound ≤ h → value_at left.certs_sure h ≡ Some f
  pub sure_cache : (x : Cached) → Contains before.cache_sure x → Contains left.cache_sure x ⊎ MayLeave x
  pub lowests : (k : ℕ) → Contains left.lowests k → Contains lowests_may k
  pub some_pair : 0 < length left.meta
  pub pairs : AllByRecursion MayBePair left.meta
  pub good : IsGoodEnded chain left

-- the processed height that an event had reached, with what was outstanding then
pub record Reached : Type 0 where
  pub processed : Option ℕ
  pub out : List Outstanding

-- before it drained any block
abbrev pub reached_before : Node → Event → Reached
reached_before n e = record { processed = option_map height_in n.processed; out = marked_blocks n e }

-- and after
abbrev pub reached_after : Node → Event → Effect → Reached
reached_after n e fx = record { processed = option_map height_in (processed_after n e fx); out = kept_blocks n e fx }

-- what an event that was cut asked: a front of its own asks, or those and then some of a pass of repair
abbrev pub AsksUntilCut : Config → Chain → Node → Event → Effect → List Call → Type 0
AsksUntilCut config chain n e fx asks =
    IsFront asks (own_asks config n e fx)
    ⊎ (IsTrue (may_repair e) × (more : List Call) × (asks ≡ own_asks config n e fx ++ more) × AllByRecursion (IsRepairFetch chain) more)

-- What an event that was cut may leave: all that was held, unless a prune may take it, and nothing more than what might be
-- left before, blocks that were at hand, its own finalization or a cached one, and what it puts into the cache. What is sure may
-- be left.
pub record LeavesMay (config : Config) (n : Node) (e : Event) (fx : Effect) (blocks_bound certs_bound : ℕ) (left : Ended) : Type 0 where
  pub held_blocks : (h : ℕ) → blocks_bound ≤ h → IsTrue (has_height n.blocks.held h) → IsTrue (has_height left.blocks_may h)
  pub held_certs : (h : ℕ) → certs_bound ≤ h → IsTrue (has_height n.certs.held h) → IsTrue (has_height left.certs_may h)
  pub blocks : (x : At Block) → Contains left.blocks_may x → Contains n.blocks.may x ⊎ IsBlockFrom n e x
  pub certs : (x : At Finalization) → Contains left.certs_may x → Contains n.certs.may x ⊎ IsCertFrom n e x
  pub sure_blocks : (h : ℕ) → IsTrue (has_height left.blocks_sure h) → IsTrue (has_height left.blocks_may h)
  pub sure_certs : (h : ℕ) → IsTrue (has_height left.certs_sure h) → IsTrue (has_height left.certs_may h)
  pub cached : (x : Cached) → Contains left.cache_may x → MayBeCached config n e fx x

-- What an event that was cut leaves. `earlier` are the pairs of the last finished step, or in an
-- opening those of the ended node before it; `least` is the height of that step.
pub record CutsBy (config : Config) (chain : Chain) (earlier : List Pair) (least : Option ℕ) (n : Node) (e : Event) (fx : Effect) (made : Made) (fault : Fault) (left : Ended) : Type 0 where
  pub tip : ℕ
  pub tips : TipsFrom n.tip made.reports tip
  pub tips_chain : AreTipsOf chain made.reports
  pub reached : Reached
  pub reached_is : (reached ≡ reached_before n e) ⊎ (reached ≡ reached_after n e fx) × Contains (map (λ p. p.processed) left.meta) reached.processed
  pub in_order : HandedFrom left.blocks_sure n.next_ack (next_after reached.processed + length reached.out) (handed_blocks made.reports)
  pub hands_chain : AreHandedOf chain left.blocks_sure (handed_blocks made.reports)
  pub leaves : LeavesSure chain (left_by n) (blocks_from n e fx) (certs_from n e fx)
      (λ x. (epoch_of x < n.lowest) ⊎ IsTrue (is_pruned config n e fx x))
      (n.lowests ++ map (λ p. p.epoch) (witnessing_of config n e fx).prunes)
      (Contains (earlier ++ pair_of n.processed n.cutoff ∷ pair_of (processed_after n e fx) (cutoff_after config n e fx) ∷ []))
      left
  pub may : LeavesMay config n e fx (blocks_from n e fx) (certs_from n e fx) left
  -- it asked, sent and answered no more than it would have, in that order
  pub asks : AsksUntilCut config chain n e fx made.asks
  pub sends : IsFront made.sends (sends_of n e)
  pub answers : (lowest : ℕ) × IsFront made.answers (answers_of config n lowest e fx)
  pub first_pair : (first_pair left.meta ≡ first_pair n.meta) ⊎ (fault ≡ store_fault meta_store → ⊥) × (first_pair left.meta ≡ Some (pair_of (processed_after n e fx) (cutoff_after config n e fx)))
  pub no_lower : AllByRecursion (λ p. NotBelow least p.processed) left.meta
  pub cause : IsTrue (is_by_value fault) → event_fault config n e ≡ Some fault
  pub refused : IsTrue (is_refused_floor e fault) → left ≡ left_by n
  pub unsynced : IsTrue (is_dropped_ack fault) → left.meta ≡ n.meta

abbrev pub CutsEvent : Config → Chain → List Pair → Option ℕ → Node → Event → Made → Fault → Ended → Type 0
CutsEvent config chain earlier least n e made fault left = CutsBy config chain earlier least n e (effect_of config n e) made fault left

-- A step that was cut: in one of its events, those before it finished.
pub record Cuts (config : Config) (chain : Chain) (n : Node) (events : List Event) (made : Made) (fault : Fault) (left : Ended) : Type 0 where
  pub finished : List Event
  pub event : Event
  pub others : List Event
  pub split : events ≡ finished ++ event ∷ others
  pub first : Made
  pub later : Made
  pub made_is : made ≡ joined_made first later
  pub mid : Node
  pub advances : AdvancesAll config chain n finished first mid
  pub cut : CutsEvent config chain n.meta (option_map height_in n.processed) mid event later fault left

-- An opening must end in this fault, by what a reopening of these stores finds, which is what luck picks, where it picks.
pub record IsOpeningFault (e : Ended) (picks : Picks) (begin : Begin) (fault : Fault) : Type 0 where
  pub pair : Pair
  pub pair_may : Contains e.meta pair
  pub blocks : List (At Block)
  pub blocks_may : Reopens e.blocks_sure e.blocks_may blocks
  pub certs : List (At Finalization)
  pub certs_may : Reopens e.certs_sure e.certs_may certs
  pub picked : IsPicked picks blocks certs pair
  pub is_due : opening_fault blocks certs pair begin ≡ Some fault

-- the pair that an opening gives to its metadata sync
abbrev pub OpeningPair : Config → Ended → Picks → Begin → Pair → Type 0
OpeningPair config e picks begin p = (n : Node) × Finds config e picks begin n × (p ≡ pair_of n.processed n.cutoff)

-- An opening cut before its Start step: nothing is reported, nothing sure is lost.
pub record CutsReopening (config : Config) (chain : Chain) (e : Ended) (picks : Picks) (begin : Begin) (made : Made) (fault : Fault) (left : Ended) : Type 0 where
  pub silent : made ≡ nothing_made
  pub leaves : LeavesSure chain e 0 0 (λ x. ⊥) e.lowests (λ p. Contains e.meta p ⊎ OpeningPair config e picks begin p) left
  -- what it read of the metadata stands first: its own pair is durable only where it goes on
  pub first_pair : (p : Pair) → first_pair left.meta ≡ Some p → Contains e.meta p
  pub may_blocks : (x : At Block) → Contains left.blocks_may x → Contains e.blocks_may x ⊎ (begin ≡ from_genesis x.value)
  pub may_certs : Within left.certs_may e.certs_may
  pub may_cached : Within left.cache_may e.cache_may
  pub cause : IsTrue (is_by_value fault) → IsOpeningFault e picks begin fault

-- An opening cut in its Start step, before it took up the cache or behind that.
pub record CutsStart (config : Config) (chain : Chain) (e : Ended) (picks : Picks) (begin : Begin) (made : Made) (fault : Fault) (left : Ended) : Type 0 where
  pub first : Node
  pub finds : Finds config e picks begin first
  pub begun : Node
  pub takes : (begun ≡ first) ⊎ TakesUp picks.cache first begun
  pub cut : CutsEvent config chain e.meta None begun (life_started (floor_of begin)) made fault left

-- an opening that was cut, before its start or in it
abbrev pub CutsOpening : Config → Chain → Ended → Picks → Begin → Made → Fault → Ended → Type 0
CutsOpening config chain e picks begin made fault left = CutsReopening config chain e picks begin made fault left ⊎ CutsStart config chain e picks begin made fault left
