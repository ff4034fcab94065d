-- A good node is sound, honest and steady; what a crash leaves of a sound one is good; what keeps a node sound.
use Rattle.std.proofs.Common.{◌⊎◌, inl, inr, ℕ, ◌+◌, ◌≤◌, List, [], ◌∷◌, ◌++◌, Option, Some, None, option_map, IsTrue, Contains, sym, subst, arith}
use Rattle.std.specs.Bool.{⊤}
use Rattle.std.specs.List.{AllByRecursion, filter_map}
use Rattle.std.proofs.lemmas.List.Elements.{filter_map-append}
use Rattle.mar_cert.specs.Block.{Block}
use Rattle.mar_key.specs.Processed.{Processed, at_absent, at_block, height_in}
use Rattle.mar_store.specs.Kept.{At, has_height}
use Rattle.mar_store.proofs.Lookups.{AllByRecursion-append_right, AllByRecursion-contains, AllByRecursion-weaker}
use Rattle.mar_model.specs.Acks.{Outstanding}
use Rattle.mar_model.specs.Metadata.{Pair, pair_of}
use Rattle.mar_model.specs.Cached.{cached_block, cached_finalization}
use Rattle.mar_model.specs.Chain.{Chain}
use Rattle.mar_model.specs.Config.{Config}
use Rattle.mar_model.specs.Event.{Event, acked_to, life_started}
use Rattle.mar_model.specs.Node.{Agrees, AreBlocksOf, AreCachedOf, AreFinalizationsOf, BlocksAgree, Ended, FloorSafe, HasAnchor, IsFinalized, IsGood, IsHonest, Node, left_by}
use Rattle.mar_model.specs.Lives.{BackedBy, IsGoodEnded}
use Rattle.mar_model.specs.Promise.{IsGoodFor, IsGoodUntold}
use Rattle.mar_model.specs.Sound.{IsSafePair, IsSound, IsSteady}
use Rattle.mar_model.proofs.FloorSafety.{FloorSafe-still, KeepsHeightsFrom}

-- PAIRS

pub BackedBy-anchor : (p : Option Processed) (sure : List (At Block)) → HasAnchor p sure → BackedBy sure (option_map height_in p)
BackedBy-anchor None sure a = tt
BackedBy-anchor (Some (at_block h)) sure a = inl a
BackedBy-anchor (Some (at_absent h)) sure a = inr a

-- the processed height, if any, is not below the bound
abbrev pub IsFrom : ℕ → Option ℕ → Type 0
IsFrom bound None = ⊤
IsFrom bound (Some h) = bound ≤ h

pub from_none : (o : Option ℕ) → IsFrom 0 o
from_none None = tt
from_none (Some h) = omega arith

pub IsSafePair-kept : (chain : Chain) (bound : ℕ) (sure sure' : List (At Block)) (p : Pair) → KeepsHeightsFrom bound sure sure' → IsFrom bound p.processed → IsSafePair chain sure p → IsSafePair chain sure' p
IsSafePair-kept chain bound sure sure' p keeps from safe = record {
  backed = backed p.processed from safe.backed;
  floor_safe = floor p.processed from safe.floor_safe;
}
  where
    backed : (o : Option ℕ) → IsFrom bound o → BackedBy sure o → BackedBy sure' o
    backed None low b = tt
    backed (Some h) low (inl at) = inl (keeps h low at)
    backed (Some h) low (inr next) = inr (keeps (h + 1) (omega arith) next)

    floor : (o : Option ℕ) → IsFrom bound o → FloorSafe o p.cutoff sure chain → FloorSafe o p.cutoff sure' chain
    floor None low f = f
    floor (Some h) low f = FloorSafe-still chain (Some h) p.cutoff sure sure' (λ has. keeps (h + 1) (omega arith) has) f

-- the pair of the processed height and cutoff in memory
pub own_pair_safe : (chain : Chain) (n : Node) → HasAnchor n.processed n.blocks.sure → FloorSafe (option_map height_in n.processed) n.cutoff n.blocks.sure chain → IsSafePair chain n.blocks.sure (pair_of n.processed n.cutoff)
own_pair_safe chain n anchored safe = record { backed = BackedBy-anchor n.processed n.blocks.sure anchored; floor_safe = safe }

-- the last drained block is sure
pub HasAnchor-acked_to : (p : Option Processed) (out : List Outstanding) (sure : List (At Block)) → HasAnchor p sure → AllByRecursion (λ a. IsTrue (has_height sure a.height)) out → HasAnchor (acked_to p out) sure
HasAnchor-acked_to p [] sure anchored there = anchored
HasAnchor-acked_to p (a ∷ out) sure anchored there = HasAnchor-acked_to (Some (at_block a.height)) out sure there.0 there.1

-- GOOD

-- a tip tells nothing of what a crash leaves
pub IsSound-untold : (chain : Chain) (n : Node) (tip : ℕ) → IsSound chain (record n { tip = tip }) → IsSound chain n
IsSound-untold chain n tip sound = record {
  stores = sound.stores;
  cache = sound.cache;
  awaits = sound.awaits;
  pairs = sound.pairs;
}

-- whatever the event, the node before it is good once some tip is told
pub untold : (config : Config) (chain : Chain) (n : Node) (e : Event) → IsGoodFor config chain n (e ∷ []) → IsGoodUntold config chain n
untold config chain n (life_started f) good = good
untold config chain n _ good = (n.tip, good)

pub IsGood-from_parts : (config : Config) (chain : Chain) (n : Node) → IsSound chain n → IsHonest chain n.asked n.peers → IsSteady config n → IsGood config chain n
IsGood-from_parts config chain n sound honest steady = record {
  heights = steady.heights;
  of_chain = record {
    stores = sound.stores;
    cache = sound.cache;
    asks = honest;
    awaits = sound.awaits;
    not_at_hand = steady.not_at_hand;
    floor_safe = (subst (λ m. AllByRecursion (IsSafePair chain n.blocks.sure) m) steady.heights.own_pair sound.pairs).0.floor_safe;
    tip_reported = steady.tip_reported;
  };
}

pub IsSound-from_good : (config : Config) (chain : Chain) (n : Node) → IsGood config chain n → IsSound chain n
IsSound-from_good config chain n good = record {
  stores = good.of_chain.stores;
  cache = good.of_chain.cache;
  awaits = good.of_chain.awaits;
  pairs = subst (λ m. AllByRecursion (IsSafePair chain n.blocks.sure) m) (sym good.heights.own_pair) (own_pair_safe chain n good.heights.delivery.anchored good.of_chain.floor_safe, tt);
}

-- WHAT IS LEFT

right_part : {T U : Type 0} (f : T → Option U) (P : U → Type 0) (xs ys : List T) → AllByRecursion P (filter_map f (xs ++ ys)) → AllByRecursion P (filter_map f ys)
right_part f P xs ys all = AllByRecursion-append_right P (filter_map f xs) (filter_map f ys) (subst (AllByRecursion P) (filter_map-append f xs ys) all)

pub may_cached_of : (chain : Chain) (n : Node) → IsSound chain n → AreCachedOf chain n.cache.may
may_cached_of chain n sound = right_part cached_finalization (λ f. IsFinalized chain f.round f.payload) n.cache.held n.cache.may sound.cache.finalizations

pub may_cached_blocks_of : (chain : Chain) (n : Node) → IsSound chain n → BlocksAgree chain n.cache.may
may_cached_blocks_of chain n sound = right_part cached_block (Agrees chain) n.cache.held n.cache.may sound.cache.blocks

-- what any fault leaves of a sound node is good: may lists of the chain, sure blocks kept from a bound
-- on, each pair one of the node's that is not below it, or a safe one
pub IsGoodEnded-from_sound : (chain : Chain) (n : Node) (bound : ℕ) (left : Ended) → IsSound chain n → AreBlocksOf chain left.blocks_may → AreFinalizationsOf chain left.certs_may → AreCachedOf chain left.cache_may → BlocksAgree chain left.cache_may → KeepsHeightsFrom bound n.blocks.sure left.blocks_sure → AllByRecursion (λ p. (Contains n.meta p × IsFrom bound p.processed) ⊎ IsSafePair chain left.blocks_sure p) left.meta → IsGoodEnded chain left
IsGoodEnded-from_sound chain n bound left sound blocks certs cached cached_blocks keeps pairs = record {
  may_blocks = blocks;
  may_certs = certs;
  may_cached = cached;
  may_cached_blocks = cached_blocks;
  backed = AllByRecursion-weaker (IsSafePair chain left.blocks_sure) _ (λ p safe. safe.backed) left.meta all_safe;
  floor_safe = AllByRecursion-weaker (IsSafePair chain left.blocks_sure) _ (λ p safe. safe.floor_safe) left.meta all_safe;
}
  where
    each : (p : Pair) → (Contains n.meta p × IsFrom bound p.processed) ⊎ IsSafePair chain left.blocks_sure p → IsSafePair chain left.blocks_sure p
    each p (inl (has, from)) = IsSafePair-kept chain bound n.blocks.sure left.blocks_sure p keeps from (AllByRecursion-contains (IsSafePair chain n.blocks.sure) n.meta p sound.pairs has)
    each p (inr safe) = safe

    all_safe : AllByRecursion (IsSafePair chain left.blocks_sure) left.meta
    all_safe = AllByRecursion-weaker _ _ each left.meta pairs

-- a crash between two store calls
pub IsGoodEnded-left_by : (chain : Chain) (n : Node) → IsSound chain n → IsGoodEnded chain (left_by n)
IsGoodEnded-left_by chain n sound = record {
  may_blocks = sound.stores.may_blocks;
  may_certs = sound.stores.may_certs;
  may_cached = may_cached_of chain n sound;
  may_cached_blocks = may_cached_blocks_of chain n sound;
  backed = AllByRecursion-weaker (IsSafePair chain n.blocks.sure) _ (λ p safe. safe.backed) n.meta sound.pairs;
  floor_safe = AllByRecursion-weaker (IsSafePair chain n.blocks.sure) _ (λ p safe. safe.floor_safe) n.meta sound.pairs;
}

-- what a crash between steps leaves of a good node is good
pub crash_is_good : (config : Config) (chain : Chain) (n : Node) → IsGood config chain n → IsGoodEnded chain (left_by n)
crash_is_good config chain n good = IsGoodEnded-left_by chain n (IsSound-from_good config chain n good)

-- WHAT KEEPS A NODE SOUND

-- what is not in the stores may change, but for the awaited floor
pub IsSound-moved : (chain : Chain) (n new : Node) → IsSound chain n → IsSound chain (record new { blocks = n.blocks; certs = n.certs; cache = n.cache; awaited = n.awaited; meta = n.meta })
IsSound-moved chain n new sound = record {
  stores = sound.stores;
  cache = sound.cache;
  awaits = sound.awaits;
  pairs = sound.pairs;
}
