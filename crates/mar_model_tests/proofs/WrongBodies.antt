-- Bodies that the definitions refuse: from a step, a cut, an opening or a node that such a body would give follows nothing but a contradiction.
use Rattle.std.proofs.Common.{◌≡◌, ℕ, ◌≤◌, ◌+◌, List, [], ◌∷◌, ◌++◌, Option, Some, None, refl, sym, ◌∙◌, ap, subst, IsTrue, inl, inr, ◌⊎◌, Bool, true, false, ◌&&◌, nat_lt, lit<, lit≤, arith, length, option_map, is_some, if◌then◌else◌}
use Rattle.std.specs.List.{AllByRecursion}
use Rattle.mar_cert.specs.Block.{Block}
use Rattle.mar_key.specs.Processed.{Processed, at_absent, height_of, first_unprocessed, at_block}
use Rattle.mar_key.specs.Cutoff.{at_round, at_epoch, Cutoff, cutoff_zero}
use Rattle.mar_store.specs.Kept.{At, has_height, value_at}
use Rattle.mar_model.specs.Node.{Awaited, OpenSync, Node, write_count, Ended, FloorSafe, Rest, floor_awaited, window_full, block_missing, write_uncovered, ConsecutiveFrom, AreBlocksOf, IsGood}
use Rattle.mar_model.specs.Metadata.{Pair}
use Rattle.mar_model.specs.Acks.{mark_waiting}
use Rattle.mar_model.specs.Event.{Answer, processed_after, brought_effect, life_started, message_told, ack_given, sync_finished, block_buffered}
use Rattle.mar_model.specs.Faults.{Fault, from_genesis}
use Rattle.mar_key.specs.Keys.{Key, Annotation}
use Rattle.mar_key.specs.Asked.{judged_invalid}
use Rattle.mar_model.specs.Judge.{Completes, Judges, Reading}
use Rattle.mar_model.specs.Messages.{report_finalization}
use Rattle.mar_model.specs.Step.{Report, Made, nothing_made, handed_over, new_tip, Advances, Steps, with_sync}
use Rattle.mar_model.specs.Lives.{CutsEvent, BackedBy, Picks, processed_at, Opens, IsGoodEnded}
use Rattle.mar_script.specs.Text.{running}
use Rattle.mar_script.specs.Run.{empty_stores, HandsBack}
use Rattle.mar_model_tests.proofs.SmallFacts.{only}
use Rattle.mar_model_tests.proofs.SmallChain.{b0, b1, d1, f1, r1, chain, config}
use Rattle.mar_model_tests.proofs.DeliveryRun.{begun, n1, n2, n3, n4, n5}

-- FACTS

not_some : {T : Type 0} {v : T} → ◌≡◌ {A = Option T} None (Some v) → ⊥
not_some e = cc

not_none : {T : Type 0} {v : T} → ◌≡◌ {A = Option T} (Some v) None → ⊥
not_none e = cc

abbrev view_of : Cutoff → ℕ
view_of (at_round r) = r.view
view_of (at_epoch e) = 7

apart : cutoff_zero ≡ at_round r1 → ⊥
apart e = views (ap view_of e)
  where
    views : ◌≡◌ {A = ℕ} 0 1 → ⊥
    views p = omega arith

-- HANDED OVER BEFORE ITS SYNC

-- a body that hands a block over right after its put
right_after_put : (n : Node) → value_at n.blocks.sure 1 ≡ None → Advances config chain n1 (message_told None (report_finalization f1)) (record nothing_made { reports = new_tip r1 1 d1 ∷ handed_over 1 b1 ∷ [] }) n → ⊥
right_after_put n unsure a = not_some (sym unsure ∙ (a.hands_chain.0).1)

-- one that hands it over and then fails to sync it
sync_failed : (before : List Pair) (least : Option ℕ) (fault : Fault) (left : Ended) → value_at left.blocks_sure 1 ≡ None → CutsEvent config chain before least n1 (message_told None (report_finalization f1)) (record nothing_made { reports = new_tip r1 1 d1 ∷ handed_over 1 b1 ∷ [] }) fault left → ⊥
sync_failed before least fault left unsure c = not_some (sym unsure ∙ (c.hands_chain.0).1)

-- NEVER HANDED OVER

abbrev hoards : Node
hoards = record n3 { out = n1.out; next_ack = 1 }

-- a body that stores everything, and rests for nothing
never_hands : Rest config.window hoards → ⊥
never_hands (floor_awaited some) = cc
never_hands (window_full full) = omega arith
never_hands (block_missing missing) = not_none missing
never_hands (write_uncovered h (k, lt, e) below) = omega arith

-- PROCESSED AT HAND-OVER

-- a body that takes a height for processed as it hands its block over
at_dispatch : (n : Node) (p : Processed) → n.processed ≡ Some p → (made : Made) → Advances config chain n1 (message_told None (report_finalization f1)) made n → ⊥
at_dispatch n p is reports a = not_some (sym a.processed ∙ is)

-- THE CUTOFF

-- a body that raises the cutoff to a reported finalization whose block is not processed
raised_too_soon : (n : Node) → n.cutoff ≡ at_round r1 → (made : Made) → Advances config chain n1 (message_told None (report_finalization f1)) made n → ⊥
raised_too_soon n is reports a = apart (sym a.cutoff ∙ is)

-- such a cutoff is not safe
unsafe_cutoff : (sure : List (At Block)) → FloorSafe None (at_round r1) sure chain → ⊥
unsafe_cutoff sure safe = let p : true ≡ false = safe r1 1 (0, lit< tt, refl) in cc

-- a body that leaves the cutoff as it is when the finalized block is acknowledged
never_raised : (n : Node) → n.cutoff ≡ cutoff_zero → (made : Made) → Advances config chain n4 (ack_given 1) made n → ⊥
never_raised n is reports a = apart (sym is ∙ a.cutoff)

-- A NEW SYNC FOR EACH FINISHED ONE

same_writes : (k : ℕ) (n : Node) → write_count (with_sync k n) ≡ write_count n
same_writes k n = by (nat_lt k (write_count n) && nat_lt 0 (length n.uncovered))
  where
    by : (b : Bool) → write_count (if b then record n { syncs = n.syncs ++ record { ticket = n.next_sync; position = write_count n } ∷ []; next_sync = n.next_sync + 1 } else n) ≡ write_count n
    by true = refl
    by false = refl

nothing_opened : (k : ℕ) (n : Node) → k ≡ write_count n → with_sync k n ≡ n
nothing_opened k n same = subst (λ j. with_sync j n ≡ n) (sym same) (by (nat_lt (write_count n) (write_count n)) (not_below (write_count n)))
  where
    not_below : (j : ℕ) → nat_lt j j ≡ false
    not_below j = grind arith

    by : (b : Bool) → b ≡ false → (if b && nat_lt 0 (length n.uncovered) then record n { syncs = n.syncs ++ record { ticket = n.next_sync; position = write_count n } ∷ []; next_sync = n.next_sync + 1 } else n) ≡ n
    by false off = refl
    by true off = absurd cc

-- a body that opens a sync as one finishes, with nothing new to cover
synced_anew : (n : Node) → write_count n ≡ 1 → n.syncs ≡ record { ticket = 1; position = 1 } ∷ [] → (made : Made) → Steps config chain n2 (sync_finished 0 ∷ []) made n → ⊥
synced_anew n count syncs made s = empty (sym syncs ∙ ap (λ m. m.syncs) (s.ticket ∙ nothing_opened 1 s.unticketed (sym (sym (same_writes 1 s.unticketed) ∙ sym (ap write_count s.ticket) ∙ count))) ∙ s.advances.writes.syncs)
  where
    empty : ◌≡◌ {A = List OpenSync} (record { ticket = 1; position = 1 } ∷ []) [] → ⊥
    empty e = cc

-- STORES NOTHING, OR PRINTS WHAT THE STORES LACK

-- a body that does not store the finalized block
stores_nothing : (n : Node) → value_at n.blocks.held 1 ≡ None → n.processed ≡ None → (made : Made) → Advances config chain n1 (message_told None (report_finalization f1)) made n → ⊥
stores_nothing n unheld unprocessed reports a = refuse a.stored.block
  where
    refuse : IsTrue (has_height n.blocks.held 1) ⊎ (1 ≤ height_of n.processed) → ⊥
    refuse (inl held) = off (sym (ap is_some unheld) ∙ held)
      where
        off : false ≡ true → ⊥
        off e = cc
    refuse (inr low) = let at : 1 ≤ height_of None = subst (λ p. 1 ≤ height_of p) unprocessed low in omega arith

-- a body that prints a height that the stores handed back lack
prints_more : HandsBack (running n3) empty_stores → ⊥
prints_more back = let e : true ≡ false = back.0 0 in cc

-- GENESIS AGAIN AT EACH RESTART

abbrev ended : Ended
ended = record {
  blocks_sure = n5.blocks.sure;
  blocks_may = n5.blocks.may;
  certs_sure = n5.certs.sure;
  certs_may = n5.certs.may;
  cache_sure = n5.cache.sure;
  cache_may = n5.cache.may;
  lowests = [];
  meta = n5.meta;
}

none_brought : (n : Node) (a : Option Awaited) → processed_after n (life_started None) (brought_effect a None) ≡ n.processed
none_brought n None = refl
none_brought n (Some a) = refl

-- a body that begins from block 0 though two blocks are sure and height 1 is processed
genesis_again : (n : Node) (picks : Picks) (others : List Report) → Opens config chain ended picks (from_genesis b0) (record nothing_made { reports = handed_over 0 b0 ∷ others }) n → ⊥
genesis_again n picks others o = refuse (ap (λ m. m.processed) o.finds.node ∙ ap (λ p. option_map (processed_at o.finds.blocks.held) p.processed) (sym (only _ _ o.finds.pair_may)))
  where
    height_at : (b : Bool) → 2 ≤ first_unprocessed (Some (if b then at_block 1 else at_absent 1))
    height_at true = lit≤ tt
    height_at false = lit≤ tt

    late : (p q : Option Processed) → p ≡ q → (k : ℕ) → 2 ≤ first_unprocessed q → 2 ≤ first_unprocessed p + k
    late p q same k above = let low : 2 ≤ first_unprocessed p = subst (λ r. 2 ≤ first_unprocessed r) (sym same) above in omega arith

    zero_late : (k : ℕ) → 2 ≤ k → 0 ≡ k → ⊥
    zero_late k above e = omega arith

    refuse : o.first.processed ≡ Some (processed_at o.finds.blocks.held 1) → ⊥
    refuse is = zero_late _ (late _ _ (o.start.advances.processed ∙ none_brought o.begun o.begun.awaited ∙ ap (λ m. m.processed) o.takes.begun_is ∙ is) _ (height_at (has_height o.finds.blocks.held 1))) (o.start.advances.hands.in_order).1

-- AWAITED THOUGH ITS BLOCK CAME

abbrev waits : Node
waits = record begun { awaited = Some (record { round = r1; commitment = d1 }) }

-- a body that still awaits a floor whose block came
still_waits : (n : Node) → n.awaited ≡ Some (record { round = r1; commitment = d1 }) → (made : Made) → Advances config chain waits (block_buffered b1) made n → ⊥
still_waits n is reports a = not_some (sym a.awaited ∙ is)

-- and it is at hand
waits_at_hand : IsGood config chain (record waits { buffer = b1 ∷ [] }) → ⊥
waits_at_hand good = not_none (good.of_chain.not_at_hand).1

-- A GAP AFTER A CLEARED WINDOW

-- a body that hands over height 1 where 0 is the first unprocessed one
skips : (n : Node) → n.processed ≡ None → n.out ≡ record { ticket = 1; height = 1; mark = mark_waiting } ∷ [] → IsGood config chain n → ⊥
skips n unprocessed out good = refuse (subst (λ o. ConsecutiveFrom 0 o) out (subst (λ p. ConsecutiveFrom (first_unprocessed p) n.out) unprocessed good.heights.delivery.consecutive)).0
  where
    refuse : ◌≡◌ {A = ℕ} 1 0 → ⊥
    refuse e = omega arith

-- METADATA BEFORE THE FLOOR BLOCK IS SYNCED

-- a body whose metadata name a floor of which no block is sure
unbacked_end : (e : Ended) → e.blocks_sure ≡ record { height = 0; value = b0 } ∷ [] → e.meta ≡ record { processed = Some 10; cutoff = at_round r1 } ∷ [] → IsGoodEnded chain e → ⊥
unbacked_end e sure meta good = refuse (subst (λ s. AllByRecursion {X = Pair} (λ p. BackedBy s p.processed) (record { processed = Some 10; cutoff = at_round r1 } ∷ [])) sure (subst (λ m. AllByRecursion {X = Pair} (λ p. BackedBy e.blocks_sure p.processed) m) meta good.backed)).0
  where
    refuse : IsTrue false ⊎ IsTrue false → ⊥
    refuse (inl f) = cc
    refuse (inr f) = cc

-- A PEER'S BLOCK UNVERIFIED, OR INVALID TO ALL

-- a body that answers Invalid to bytes that are what was asked for
invalid_to_all : (reading : Reading) (key : Key) (bytes : List ℕ) (annotations : List Annotation) (right answer : Answer) → Completes reading config key bytes annotations right → Judges reading config key bytes annotations answer judged_invalid → ⊥
invalid_to_all reading key bytes annotations right answer completes judges = judges.2 right completes

-- a body that stores a block of height 7 at height 1
unverified : (n : Node) (b : Block) → b.height ≡ 7 → n.blocks.held ≡ record { height = 1; value = b } ∷ [] → IsGood config chain n → ⊥
unverified n b odd held good = refuse (subst (λ xs. AreBlocksOf chain xs) held good.of_chain.stores.held_blocks).0
  where
    refuse : ◌≡◌ {A = Option Block} (Some b1) (Some b) → ⊥
    refuse e = let p : b1 ≡ b = same e in let q : ◌≡◌ {A = ℕ} 1 7 = ap (λ c. c.height) p ∙ odd in omega arith
      where
        same : ◌≡◌ {A = Option Block} (Some b1) (Some b) → b1 ≡ b
        same p = cc
