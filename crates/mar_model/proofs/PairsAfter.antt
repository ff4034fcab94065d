-- The pair that an event gives to the metadata is safe over the blocks that are sure by then.
use Rattle.std.proofs.Common.{◌≡◌, ℕ, ◌+◌, ◌-◌, ◌<◌, ◌≤◌, List, [], ◌∷◌, Bool, true, false, if◌then◌else◌, nat_lt, Option, Some, None, option_map, IsTrue, refl, sym, ◌∙◌, ap, subst, arith}
use Rattle.std.specs.Bool.{⊤}
use Rattle.std.specs.List.{AllByRecursion}
use Rattle.std.proofs.lemmas.Bool.Decides.{nat_tests}
use Rattle.mar_types.specs.Epochs.{IsPartition}
use Rattle.mar_cert.specs.Block.{Block}
use Rattle.mar_key.specs.Processed.{Processed, at_absent, at_block, first_unprocessed, height_in, height_of}
use Rattle.mar_store.specs.Kept.{At, has_height}
use Rattle.mar_model.specs.Acks.{Outstanding}
use Rattle.mar_model.specs.Metadata.{pair_of}
use Rattle.mar_model.specs.Chain.{Chain, IsLawful}
use Rattle.mar_model.specs.Config.{Config}
use Rattle.mar_model.specs.Event.{Effect, Event, applies_floor, awaits_floor, blocks_from, cutoff_after, drained_blocks, effect_of, is_above, met_finalization, no_floor, processed_after}
use Rattle.mar_model.specs.Node.{AreFinalizationsOf, ConsecutiveFrom, FloorSafe, HasAnchor, Node}
use Rattle.mar_model.specs.Sound.{IsSafePair}
use Rattle.mar_model.proofs.OutstandingLemmas.{ConsecutiveFrom-drained, all_sure-drained}
use Rattle.mar_model.proofs.FloorSafety.{FloorSafe-after, HasFloor, KeepsHeightsFrom, MeetsFinal, blocks_from-applies, blocks_from-awaits, blocks_from-low, height_of-low}
use Rattle.mar_model.proofs.Soundness.{BackedBy-anchor, HasAnchor-acked_to}

-- what an applied floor needs of the block below it: held before, it is sure by then
abbrev pub KeepsBelowFloor : Node → Effect → List (At Block) → Type 0
KeepsBelowFloor n (applies_floor r b) sure = IsTrue (is_above n b) → IsTrue (has_height n.blocks.held (b.height - 1)) → IsTrue (has_height sure (b.height - 1))
KeepsBelowFloor n _ sure = ⊤

pub HasAnchor-kept : (bound : ℕ) (p : Option Processed) (sure sure' : List (At Block)) → bound ≤ height_of p → KeepsHeightsFrom bound sure sure' → HasAnchor p sure → HasAnchor p sure'
HasAnchor-kept bound None sure sure' low keeps anchored = tt
HasAnchor-kept bound (Some (at_block h)) sure sure' low keeps anchored = keeps h low anchored
HasAnchor-kept bound (Some (at_absent h)) sure sure' low keeps anchored = keeps (h + 1) (omega arith) anchored

-- consecutive heights from above a bound are kept
all_kept : (bound h : ℕ) (out : List Outstanding) (sure sure' : List (At Block)) → bound ≤ h → ConsecutiveFrom h out → KeepsHeightsFrom bound sure sure' → AllByRecursion (λ a. IsTrue (has_height sure a.height)) out → AllByRecursion (λ a. IsTrue (has_height sure' a.height)) out
all_kept bound h [] sure sure' low line keeps all = tt
all_kept bound h (a ∷ out) sure sure' low line keeps all = (keeps a.height (let at : a.height ≡ h = line.0 in omega arith) all.0, all_kept bound (h + 1) out sure sure' (omega arith) line.1 keeps all.1)

floor_anchor : (n : Node) (b : Block) (sure : List (At Block)) → height_of n.processed < b.height → IsTrue (has_height sure b.height) → (IsTrue (has_height n.blocks.held (b.height - 1)) → IsTrue (has_height sure (b.height - 1))) → HasAnchor (Some (if has_height n.blocks.held (b.height - 1) then at_block (b.height - 1) else at_absent (b.height - 1))) sure
floor_anchor n b sure above has below = by (has_height n.blocks.held (b.height - 1)) refl
  where
    by : (c : Bool) → has_height n.blocks.held (b.height - 1) ≡ c → HasAnchor (Some (if c then at_block (b.height - 1) else at_absent (b.height - 1))) sure
    by true held = below held
    by false lacks = let same : b.height ≡ b.height - 1 + 1 = omega arith in subst (λ k. IsTrue (has_height sure k)) same has

pub HasAnchor-after : (chain : Chain) (n : Node) (e : Event) (fx : Effect) (sure : List (At Block)) → HasAnchor n.processed n.blocks.sure → ConsecutiveFrom (first_unprocessed n.processed) n.out → AllByRecursion (λ a. IsTrue (has_height n.blocks.sure a.height)) n.out → KeepsHeightsFrom (blocks_from n e fx) n.blocks.sure sure → HasFloor chain n fx sure → KeepsBelowFloor n fx sure → HasAnchor (processed_after n e fx) sure
HasAnchor-after chain n e no_floor sure anchored line all keeps floor below =
    let low : blocks_from n e no_floor ≤ height_of n.processed = blocks_from-low n e in
    let le : height_of n.processed ≤ first_unprocessed n.processed = height_of-low n.processed in
    HasAnchor-acked_to n.processed (drained_blocks n e) sure
    (HasAnchor-kept (blocks_from n e no_floor) n.processed n.blocks.sure sure low keeps anchored)
    (all_kept (blocks_from n e no_floor) (first_unprocessed n.processed) (drained_blocks n e) n.blocks.sure sure (omega arith) (ConsecutiveFrom-drained n e line) keeps (all_sure-drained n e all))
HasAnchor-after chain n e (awaits_floor a) sure anchored line all keeps floor below =
    HasAnchor-kept (blocks_from n e (awaits_floor a)) n.processed n.blocks.sure sure (subst (λ k. k ≤ height_of n.processed) (sym (blocks_from-awaits n e a)) (omega arith)) keeps anchored
HasAnchor-after chain n e (applies_floor r b) sure anchored line all keeps floor below = by (is_above n b) refl floor.1 below
  where
    higher : (p h : ℕ) → nat_lt p h ≡ true → p < h
    higher p h lt = grind (arith, nat_tests)

    by : (c : Bool) → is_above n b ≡ c → (IsTrue c → IsTrue (has_height sure b.height)) → (IsTrue c → IsTrue (has_height n.blocks.held (b.height - 1)) → IsTrue (has_height sure (b.height - 1))) → HasAnchor (if c then Some (if has_height n.blocks.held (b.height - 1) then at_block (b.height - 1) else at_absent (b.height - 1)) else n.processed) sure
    by true is has under = floor_anchor n b sure (higher (height_of n.processed) b.height is) (has refl) (under refl)
    by false is has under = HasAnchor-kept (blocks_from n e (applies_floor r b)) n.processed n.blocks.sure sure (subst (λ k. k ≤ height_of n.processed) (sym (blocks_from-applies n e r b ∙ ap (λ (c : Bool). if c then b.height - 1 else 0) is)) (omega arith)) keeps anchored

-- so the pair of any event is safe
pub IsSafePair-after : (config : Config) (chain : Chain) → IsLawful config.epochs chain → IsPartition config.epochs → (n : Node) (e : Event) (sure : List (At Block)) → AreFinalizationsOf chain n.certs.held → HasAnchor n.processed n.blocks.sure → ConsecutiveFrom (first_unprocessed n.processed) n.out → AllByRecursion (λ a. IsTrue (has_height n.blocks.sure a.height)) n.out → FloorSafe (option_map height_in n.processed) n.cutoff n.blocks.sure chain → KeepsHeightsFrom (blocks_from n e (effect_of config n e)) n.blocks.sure sure → MeetsFinal chain (met_finalization n e) → HasFloor chain n (effect_of config n e) sure → KeepsBelowFloor n (effect_of config n e) sure → IsSafePair chain sure (pair_of (processed_after n e (effect_of config n e)) (cutoff_after config n e (effect_of config n e)))
IsSafePair-after config chain lawful partition n e sure certs anchored line all safe keeps meets floor below = record {
  backed = BackedBy-anchor (processed_after n e (effect_of config n e)) sure (HasAnchor-after chain n e (effect_of config n e) sure anchored line all keeps floor below);
  floor_safe = FloorSafe-after config chain lawful partition n e sure certs line safe keeps meets floor;
}
