-- A node as plain data, what it rests for, and when it is good for a chain.
use Rattle.std.specs.List.{AllByRecursion, filter_map, list_any}
use Rattle.std.specs.Prelude.{Bool, Contains, IsFalse, IsSome, IsTrue, List, None, Option, Some, [], bytes_eq, false, find, length, map, option_map, ℕ, ⊤, ◌++◌, ◌+◌, ◌<◌, ◌∷◌, ◌≡◌, ◌≤◌, ◌⊎◌}
use Rattle.mar_types.specs.Round.{Round}
use Rattle.mar_cert.specs.Block.{Block}
use Rattle.mar_cert.specs.Finalization.{Finalization}
use Rattle.mar_key.specs.Cutoff.{Cutoff, covers}
use Rattle.mar_key.specs.Processed.{Processed, anchor_of, first_unprocessed, height_in}
use Rattle.mar_model.specs.Chain.{Chain, Finalizes, IsBlockAt, IsFinal, commitment_at}
use Rattle.mar_store.specs.Kept.{At, Kept, has_height, value_at}
use Rattle.mar_key.specs.Keys.{Annotation, Key, block_key, finalized_key, is_finalized, notarized_key}
use Rattle.mar_key.specs.Asked.{Asked}
use Rattle.mar_model.specs.Messages.{Inbox}
use Rattle.mar_key.specs.PeerQueue.{PeerMessage, PeerQueue, deliver, produce}
use Rattle.mar_model.specs.Config.{Config}
use Rattle.mar_model.specs.Acks.{Outstanding}
use Rattle.mar_model.specs.Cached.{Cached, cached_block, cached_finalization}
use Rattle.mar_model.specs.Metadata.{Pair, pair_of}
use Rattle.mar_model.specs.Stored.{values_of}
pub use Rattle.mar_gate.specs.Writing.{OpenSync}

-- a floor whose block is not at hand
pub record Awaited : Type 0 where
  pub round : Round
  pub commitment : List ℕ

-- an open sync of cache archives, the entries that it covers, and the answer ticket that waits for it
pub record CacheSync : Type 0 where
  pub ticket : ℕ
  pub entries : List Cached
  pub answer : Option ℕ

-- what a subscription waits for
pub data Wanted : Type 0 where
  digest_wanted : List ℕ → Wanted
  commitment_wanted : List ℕ → Wanted

pub record Subscription : Type 0 where
  pub ticket : ℕ
  pub wanted : Wanted
  pub through_buffer : Bool  -- the buffer was open, so it ends as the buffer is closed

-- a commitment that is known as certified, and its height
pub record CertifiedCommitment : Type 0 where
  pub height : ℕ
  pub commitment : List ℕ

-- A node while a life runs, with the buffer, the queues and the resolver's open list beside it.
pub record Node : Type 0 where
  pub blocks : Kept (At Block)
  pub certs : Kept (At Finalization)
  pub processed : Option Processed
  pub cutoff : Cutoff
  pub meta : List Pair  -- what a crash may leave
  pub out : List Outstanding
  pub awaited : Option Awaited
  -- The writes of this life are the heights that were stored above the processed height, in order: how
  -- many of the first ones finished syncs cover, and the heights of the others.
  pub covered : ℕ
  pub uncovered : List ℕ
  pub syncs : List OpenSync
  pub tip : ℕ  -- the last reported height, 0 at first
  pub buffer : List Block
  pub cache : Kept Cached
  pub lowest : ℕ  -- the lowest epoch of the cache: what is put below it is not kept
  pub lowests : List ℕ  -- the lowest epochs that a crash may leave
  pub cache_syncs : List CacheSync
  pub asked : List Asked  -- what is open with the resolver
  pub peers : PeerQueue
  pub inbox : Inbox
  pub subscriptions : List Subscription
  pub certified : List CertifiedCommitment
  pub witnessed : Round  -- the last witnessed round
  pub buffer_closed : Bool
  pub unanswered : List ℕ  -- answer tickets with neither an answer nor a closing
  pub next_answer : ℕ
  pub next_sync : ℕ
  pub next_ack : ℕ

-- queues of this capacity with nothing in them
abbrev pub empty_peers : ℕ → PeerQueue
empty_peers capacity = record { ready = []; capacity = capacity; overflow = []; closed = [] }

abbrev pub empty_inbox : ℕ → Inbox
empty_inbox capacity = record { ready = []; capacity = capacity; floor = None; prune = None; overflow = []; closed = []; seats = 0; shut = false }

-- What is left where no life runs. The first of `meta` is what the last metadata sync that succeeded
-- left, or the last reopening read; the others are those of syncs that failed since.
pub record Ended : Type 0 where
  pub blocks_sure : List (At Block)
  pub blocks_may : List (At Block)
  pub certs_sure : List (At Finalization)
  pub certs_may : List (At Finalization)
  pub cache_sure : List Cached
  pub cache_may : List Cached
  pub lowests : List ℕ
  pub meta : List Pair

-- what a crash between two steps leaves
abbrev pub left_by : Node → Ended
left_by n = record {
  blocks_sure = n.blocks.sure;
  blocks_may = n.blocks.may;
  certs_sure = n.certs.sure;
  certs_may = n.certs.may;
  cache_sure = n.cache.sure;
  cache_may = n.cache.may;
  lowests = n.lowests;
  meta = n.meta;
}

-- all blocks in the buffer, in the cache and among the held ones
abbrev pub all_at_hand : Node → List Block
all_at_hand n = n.buffer ++ filter_map cached_block n.cache.held ++ values_of n.blocks.held

-- the first of them of this commitment
abbrev pub at_hand : Node → List ℕ → Option Block
at_hand n commitment = find (λ b. bytes_eq b.commitment commitment) (all_at_hand n)

-- how many writes there were in this life
abbrev pub write_count : Node → ℕ
write_count n = n.covered + length n.uncovered

-- the height of the next block to hand over
abbrev pub next_height : Node → ℕ
next_height n = first_unprocessed n.processed + length n.out

-- Why nothing more is handed over.
pub data Rest (window : ℕ) (n : Node) : Type 0 where
  floor_awaited : IsSome n.awaited → Rest window n
  window_full : length n.out ≡ window → Rest window n
  block_missing : value_at n.blocks.held (next_height n) ≡ None → Rest window n
  write_uncovered : (h : ℕ) → Contains n.uncovered h → h ≤ next_height n → Rest window n

-- The cutoff covers only blocks that are processed or, next after them, sure.
abbrev pub FloorSafe : Option ℕ → Cutoff → List (At Block) → Chain → Type 0
FloorSafe None cutoff sure chain = (r : Round) (h : ℕ) → IsFinal chain r h → IsFalse (covers cutoff r)
FloorSafe (Some p) cutoff sure chain = (r : Round) (h : ℕ) → IsFinal chain r h → IsTrue (covers cutoff r) → (h ≤ p) ⊎ ((h ≡ p + 1) × IsTrue (has_height sure h))

-- consecutive from this height on
abbrev pub ConsecutiveFrom : ℕ → List Outstanding → Type 0
ConsecutiveFrom h [] = ⊤
ConsecutiveFrom h (a ∷ out) = (a.height ≡ h) × ConsecutiveFrom (h + 1) out

-- each is the chain's block at its height
abbrev pub AreBlocksOf : Chain → List (At Block) → Type 0
AreBlocksOf chain = AllByRecursion (λ x. IsBlockAt chain x.height x.value)

-- each finalizes the chain's block at its height
abbrev pub AreFinalizationsOf : Chain → List (At Finalization) → Type 0
AreFinalizationsOf chain = AllByRecursion (λ x. Finalizes chain x.height x.value.round x.value.payload)

-- this round and commitment are a finalized block's
abbrev pub IsFinalized : Chain → Round → List ℕ → Type 0
IsFinalized chain round commitment = (h : ℕ) × Finalizes chain h round commitment

-- a held height is sure or its write is not yet covered
abbrev pub SureOrWritten : {T : Type 0} → Kept (At T) → List ℕ → Type 0
SureOrWritten kept uncovered = (h : ℕ) → IsTrue (has_height kept.held h) → IsTrue (has_height kept.sure h) ⊎ Contains uncovered h

-- a processed height is backed: its own block is sure, or the one above where its own was not there
abbrev pub HasAnchor : Option Processed → List (At Block) → Type 0
HasAnchor None sure = ⊤
HasAnchor (Some p) sure = IsTrue (has_height sure (anchor_of p))

-- an awaited floor is not covered, and its block is not at hand
abbrev pub NotAwaited : Option Awaited → Node → Type 0
NotAwaited None n = ⊤
NotAwaited (Some a) n = IsFalse (covers n.cutoff a.round) × (at_hand n a.commitment ≡ None)

-- an awaited floor is a finalized block
abbrev pub AwaitsFinalized : Option Awaited → Chain → Type 0
AwaitsFinalized None chain = ⊤
AwaitsFinalized (Some a) chain = IsFinalized chain a.round a.commitment

-- each cached finalization finalizes a block of the chain
abbrev pub AreCachedOf : Chain → List Cached → Type 0
AreCachedOf chain entries = AllByRecursion (λ f. IsFinalized chain f.round f.payload) (filter_map cached_finalization entries)

-- a block that has a chain block's commitment is that block
abbrev pub Agrees : Chain → Block → Type 0
Agrees chain b = (h : ℕ) (c : Block) → IsBlockAt chain h c → c.commitment ≡ b.commitment → c ≡ b

-- said of cached blocks too, since a store that was handed back may hold blocks of another script
abbrev pub BlocksAgree : Chain → List Cached → Type 0
BlocksAgree chain entries = AllByRecursion (Agrees chain) (filter_map cached_block entries)

-- A `Finalized` annotation stands only on the commitment of a chain block.
abbrev pub HonestAsk : Chain → Key → List Annotation → Type 0
HonestAsk chain (block_key c) annotations = IsTrue (list_any is_finalized annotations) → (h : ℕ) × (commitment_at chain h ≡ Some c)
HonestAsk chain (finalized_key h) annotations = ⊤
HonestAsk chain (notarized_key r) annotations = ⊤

-- a queued delivery carries honest annotations
abbrev pub HonestMessage : Chain → PeerMessage → Type 0
HonestMessage chain (deliver ticket key bytes annotations) = HonestAsk chain key annotations
HonestMessage chain (produce ticket key) = ⊤

-- what is sure is held, and what is held may be left
pub record AreNestedHeights {T : Type 0} (kept : Kept (At T)) : Type 0 where
  pub sure_held : (h : ℕ) → IsTrue (has_height kept.sure h) → IsTrue (has_height kept.held h)
  pub held_may : (h : ℕ) → IsTrue (has_height kept.held h) → IsTrue (has_height kept.may h)

-- The two archives in heights: what is sure is held, what is held may be left, and what isn't sure was written and waits for
-- its sync.
pub record AreGoodStores (blocks : Kept (At Block)) (certs : Kept (At Finalization)) (uncovered : List ℕ) : Type 0 where
  pub nested_blocks : AreNestedHeights blocks
  pub nested_certs : AreNestedHeights certs
  pub sure_blocks : SureOrWritten blocks uncovered
  pub sure_certs : SureOrWritten certs uncovered

-- What was handed over: the heights next above the processed one, within the window, each sure, as is what backs that one.
pub record IsGoodDelivery (window : ℕ) (sure : List (At Block)) (processed : Option Processed) (out : List Outstanding) : Type 0 where
  pub consecutive : ConsecutiveFrom (first_unprocessed processed) out
  pub out_sure : AllByRecursion (λ a. IsTrue (has_height sure a.height)) out
  pub within_window : length out ≤ window
  pub anchored : HasAnchor processed sure

-- What is said of heights alone.
pub record IsGoodInHeights (config : Config) (n : Node) : Type 0 where
  pub stores : AreGoodStores n.blocks n.certs n.uncovered
  pub delivery : IsGoodDelivery config.window n.blocks.sure n.processed n.out
  pub floor_clears : IsSome n.awaited → n.out ≡ []
  pub own_pair : n.meta ≡ pair_of n.processed n.cutoff ∷ []
  pub sync_open : 0 < length n.uncovered → Contains (map (λ s. s.position) n.syncs) (write_count n)

-- What is held, and what a crash may leave, is the chain's.
pub record AreStoresOf (chain : Chain) (blocks : Kept (At Block)) (certs : Kept (At Finalization)) : Type 0 where
  pub held_blocks : AreBlocksOf chain blocks.held
  pub may_blocks : AreBlocksOf chain blocks.may
  pub held_certs : AreFinalizationsOf chain certs.held
  pub may_certs : AreFinalizationsOf chain certs.may

-- What is cached, and what a crash may leave of it, agrees with the chain.
pub record IsCacheOf (chain : Chain) (cache : Kept Cached) : Type 0 where
  pub finalizations : AreCachedOf chain (cache.held ++ cache.may)
  pub blocks : BlocksAgree chain (cache.held ++ cache.may)

-- each open request carries honest annotations
abbrev pub AreHonest : Chain → List Asked → Type 0
AreHonest chain = AllByRecursion (λ x. HonestAsk chain x.key x.annotations)

-- No `Finalized` annotation stands on a commitment that is no chain block's: open with the resolver, or queued.
pub record IsHonest (chain : Chain) (asked : List Asked) (peers : PeerQueue) : Type 0 where
  pub requests : AreHonest chain asked
  pub ready : AllByRecursion (HonestMessage chain) peers.ready
  pub overflow : AllByRecursion (HonestMessage chain) peers.overflow

-- What is said of the chain, and what only a lawful script is promised.
pub record IsGoodForChain (chain : Chain) (n : Node) : Type 0 where
  pub stores : AreStoresOf chain n.blocks n.certs
  pub cache : IsCacheOf chain n.cache
  pub asks : IsHonest chain n.asked n.peers
  pub awaits : AwaitsFinalized n.awaited chain
  pub not_at_hand : NotAwaited n.awaited n
  pub floor_safe : FloorSafe (option_map height_in n.processed) n.cutoff n.blocks.sure chain
  pub tip_reported : AllByRecursion (λ x. x.height ≤ n.tip) n.certs.held

-- A node between two steps, for a chain.
pub record IsGood (config : Config) (chain : Chain) (n : Node) : Type 0 where
  pub heights : IsGoodInHeights config n
  pub of_chain : IsGoodForChain chain n
