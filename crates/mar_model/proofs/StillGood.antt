-- What leaves a node good and at rest: another cache, another buffer and others who wait; more that is held and sure.
use Rattle.std.proofs.Common.{◌≡◌, ◌<◌, ◌≤◌, ℕ, List, ◌∷◌, [], length, map, option_map, Contains, IsTrue, sym, subst, arith}
use Rattle.std.specs.List.{AllByRecursion}
use Rattle.mar_cert.specs.Block.{Block}
use Rattle.mar_gate.specs.Writing.{total_writes}
use Rattle.mar_store.specs.Kept.{has_height}
use Rattle.mar_store.proofs.Lookups.{AllByRecursion-weaker}
use Rattle.mar_key.specs.Processed.{first_unprocessed, height_in}
use Rattle.mar_model.specs.Chain.{Chain}
use Rattle.mar_model.specs.Config.{Config}
use Rattle.mar_model.specs.Held.{HeldCache, Seen, Watches}
use Rattle.mar_model.specs.Metadata.{pair_of}
use Rattle.mar_model.specs.Node.{AreBlocksOf, AreFinalizationsOf, AreHonest, AreNestedHeights, ConsecutiveFrom, FloorSafe, HasAnchor, IsCacheOf, IsGood, Rest, SureOrWritten, block_missing, floor_awaited, window_full, write_uncovered}
use Rattle.mar_model.specs.Promise.{Waiting, node_of}
use Rattle.mar_model.proofs.FloorSafety.{KeepsHeightsFrom}
use Rattle.mar_model.proofs.PairsAfter.{HasAnchor-kept}

-- an actor with this cache and this next ticket of a sync
abbrev pub cached_with : {P E : Type 0} → Seen P E → HeldCache → ℕ → Watches → Seen P E
cached_with a cache next watches = record a { held = record a.held { cache = cache; writes = record a.held.writes { next_sync = next }; watches = watches } }

-- with another buffer and others who wait it rests as before
pub Rest-with : {P E : Type 0} (window : ℕ) (a : Seen P E) (cache : HeldCache) (next : ℕ) (watches : Watches) (buffer buffer' : List Block) (waiting waiting' : Waiting)
    → Rest window (node_of a buffer waiting)
    → Rest window (node_of (cached_with a cache next watches) buffer' waiting')
Rest-with window a cache next watches buffer buffer' waiting waiting' (floor_awaited some) = absurd cc
Rest-with window a cache next watches buffer buffer' waiting waiting' (window_full full) = window_full full
Rest-with window a cache next watches buffer buffer' waiting waiting' (block_missing missing) = block_missing missing
Rest-with window a cache next watches buffer buffer' waiting waiting' (write_uncovered h waits low) = write_uncovered h waits low

-- and is good where its cache and its requests are the chain's, and what is certified stands at or below its tip
pub IsGood-tipped : {P E : Type 0} (config : Config) (chain : Chain) (a : Seen P E) (cache : HeldCache) (next : ℕ) (watches : Watches) (buffer buffer' : List Block) (waiting waiting' : Waiting) (before tip : ℕ)
    → AreHonest chain waiting'.requests → IsCacheOf chain cache.kept → AllByRecursion (λ x. x.height ≤ tip) a.held.certs.held → IsGood config chain (record (node_of a buffer waiting) { tip = before })
    → IsGood config chain (record (node_of (cached_with a cache next watches) buffer' waiting') { tip = tip })
IsGood-tipped config chain a cache next watches buffer buffer' waiting waiting' before tip honest is below good = record {
  heights = record {
    stores = good.heights.stores;
    delivery = good.heights.delivery;
    floor_clears = good.heights.floor_clears;
    own_pair = good.heights.own_pair;
    sync_open = good.heights.sync_open;
  };
  of_chain = record {
    stores = good.of_chain.stores;
    cache = is;
    asks = record { requests = honest; ready = good.of_chain.asks.ready; overflow = good.of_chain.asks.overflow };
    awaits = tt;
    not_at_hand = tt;
    floor_safe = good.of_chain.floor_safe;
    tip_reported = below;
  };
}

pub IsGood-with : {P E : Type 0} (config : Config) (chain : Chain) (a : Seen P E) (cache : HeldCache) (next : ℕ) (watches : Watches) (buffer buffer' : List Block) (waiting waiting' : Waiting)
    → AreHonest chain waiting'.requests → IsCacheOf chain cache.kept → IsGood config chain (node_of a buffer waiting) → IsGood config chain
    (node_of (cached_with a cache next watches) buffer' waiting')
IsGood-with config chain a cache next watches buffer buffer' waiting waiting' honest is good =
    IsGood-tipped config chain a cache next watches buffer buffer' waiting waiting' a.life.tip a.life.tip honest is good.of_chain.tip_reported good

-- the node stays good as more is held and sure, with the same blocks outstanding
pub IsGood-grown : {P E : Type 0} (config : Config) (chain : Chain) (a : Seen P E) (buffer : List Block) (waiting : Waiting) → IsGood config chain (node_of a buffer waiting) → (m : Seen P E)
    → AreNestedHeights m.held.blocks → AreNestedHeights m.held.certs → m.life.out ≡ a.life.out → m.held.processed ≡ a.held.processed → IsCacheOf chain m.held.cache.kept
    → m.held.pairs ≡ pair_of m.held.processed m.held.cutoff ∷ [] → SureOrWritten m.held.blocks m.held.writes.uncovered → SureOrWritten m.held.certs m.held.writes.uncovered
    → (0 < length m.held.writes.uncovered → Contains (map (λ s. s.position) m.held.writes.syncs) (total_writes m.held.writes)) → KeepsHeightsFrom 0 a.held.blocks.sure m.held.blocks.sure
    → AreBlocksOf chain m.held.blocks.held → AreBlocksOf chain m.held.blocks.may → AreFinalizationsOf chain m.held.certs.held → AreFinalizationsOf chain m.held.certs.may
    → FloorSafe (option_map height_in a.held.processed) m.held.cutoff m.held.blocks.sure chain → AllByRecursion (λ x. x.height ≤ m.life.tip) m.held.certs.held
    → IsGood config chain (node_of m buffer waiting)
IsGood-grown config chain a buffer waiting good m nested_blocks nested_certs out processed cache own sure_blocks sure_certs sync_open stays held_blocks may_blocks held_certs may_certs safe below_tip = record {
  heights = record {
    stores = record {
      nested_blocks = nested_blocks;
      nested_certs = nested_certs;
      sure_blocks = sure_blocks;
      sure_certs = sure_certs;
    };
    delivery = record {
      consecutive = subst (λ p. ConsecutiveFrom (first_unprocessed p) m.life.out) (sym processed)
          (subst (λ o. ConsecutiveFrom (first_unprocessed a.held.processed) o) (sym out) good.heights.delivery.consecutive);
      out_sure = subst (λ o. AllByRecursion (λ x. IsTrue (has_height m.held.blocks.sure x.height)) o) (sym out)
          (AllByRecursion-weaker (λ x. IsTrue (has_height a.held.blocks.sure x.height)) (λ x. IsTrue (has_height m.held.blocks.sure x.height))
          (λ x has. stays x.height (omega arith) has) a.life.out good.heights.delivery.out_sure);
      within_window = subst (λ o. length o ≤ config.window) (sym out) good.heights.delivery.within_window;
      anchored = subst (λ p. HasAnchor p m.held.blocks.sure) (sym processed) (HasAnchor-kept 0 a.held.processed a.held.blocks.sure m.held.blocks.sure
          (omega arith) stays good.heights.delivery.anchored);
    };
    floor_clears = λ some. absurd cc;
    own_pair = own;
    sync_open = sync_open;
  };
  of_chain = record {
    stores = record {
      held_blocks = held_blocks;
      may_blocks = may_blocks;
      held_certs = held_certs;
      may_certs = may_certs;
    };
    cache = cache;
    asks = record { requests = good.of_chain.asks.requests; ready = tt; overflow = tt };
    awaits = tt;
    not_at_hand = tt;
    floor_safe = subst (λ p. FloorSafe (option_map height_in p) m.held.cutoff m.held.blocks.sure chain) (sym processed) safe;
    tip_reported = below_tip;
  };
}
