-- More bodies that the definitions refuse: they store, cache, ask, sync or leave the wrong thing.
use Rattle.std.proofs.Common.{◌≡◌, ⊎_elim, ◌++◌, ℕ, ◌+◌, ◌<◌, ◌≤◌, max, length, map, List, [], ◌∷◌, Option, Some, None, refl, sym, ◌∙◌, ap, subst, IsSome, IsTrue, Contains, lit<, ◌⊎◌, inl, inr, false, true, ◌&&◌, nat_lt, lit≤, arith}
use Rattle.std.specs.List.{AllByRecursion}
use Rattle.mar_cert.specs.Block.{Block}
use Rattle.mar_cert.specs.Finalization.{Finalization}
use Rattle.mar_store.specs.Kept.{At, has_height, value_at}
use Rattle.mar_key.specs.Keys.{finalized_key, finalized_by_height, above_height, Call, fetch, retain}
use Rattle.mar_model.specs.Messages.{report_finalization, set_floor, verified}
use Rattle.mar_model.specs.Metadata.{Pair}
use Rattle.mar_model.specs.Node.{Node, Ended, left_by, IsGood}
use Rattle.mar_model.specs.Event.{Event, Effect, no_floor, message_told, ack_dropped, ack_given, peer_answered, gave_nothing, block_buffered}
use Rattle.mar_model.specs.Cached.{Cached, epoch_of, finalization_entry, verified_entry}
use Rattle.mar_model.specs.Cache.{AdvancesCache, entries_with_puts, is_pruned}
use Rattle.mar_model.specs.Faults.{Fault, dropped_ack, floor_invalid, next_after}
use Rattle.mar_model.specs.Requests.{Repaired, Passes}
use Rattle.mar_model.specs.Step.{Made, nothing_made, handed_over, Advances}
use Rattle.mar_model.specs.Lives.{CutsEvent, reached_after, reached_before}
use Rattle.mar_model_tests.proofs.SmallChain.{b0, b1, d1, f1, r1, chain, config}
use Rattle.mar_model_tests.proofs.DeliveryRun.{begun, n0, n1, n3, n4, n5}
use Rattle.mar_model_tests.proofs.SmallEntries.{reported}
use Rattle.mar_model_tests.proofs.SmallFacts.{none_in, only}
use Rattle.mar_model_tests.proofs.RepairPass.{gapped, gap_at}

on_off : true ≡ false → ⊥
on_off e = cc

-- AN APPLIED FLOOR

abbrev waits : Node
waits = record begun { awaited = Some (record { round = r1; commitment = d1 }); buffer = b1 ∷ [] }

-- a body that applies a floor and stores no certificate
without_certificate : (n : Node) → has_height n.certs.held 1 ≡ false → (made : Made) → Advances config chain waits (block_buffered b1) made n → ⊥
without_certificate n is_lacking made a = on_off (sym (a.floor_stored refl).1 ∙ is_lacking)

-- one that stores it and tells no tip
without_tip : (n : Node) → n.tip ≡ 0 → n.certs.held ≡ record { height = 1; value = f1 } ∷ [] → IsGood config chain n → ⊥
without_tip n tip held good = above (subst (λ k. 1 ≤ k) tip (subst (λ xs. AllByRecursion {X = At Finalization} (λ x. x.height ≤ n.tip) xs) held good.of_chain.tip_reported).0)
  where
    above : 1 ≤ 0 → ⊥
    above low = omega arith

-- REPAIR

-- a body that puts a retain among a pass's asks
retains : (n : Node) (more : List Call) → Repaired config n (retain (above_height 1000) ∷ more) → ⊥
retains n more r = r.only.0

-- one that asks for a height that is not missing
asks_beyond : (more : List Call) → Repaired config gapped (fetch (finalized_key 7) (finalized_by_height 7) None ∷ more) → ⊥
asks_beyond more r = far (gap_at 7 ((r.only.0).2).0)
  where
    far : ◌≡◌ {A = ℕ} 7 1 ⊎ ◌≡◌ {A = ℕ} 7 2 → ⊥
    far (inl p) = omega arith
    far (inr p) = omega arith

-- one that repairs while a floor is awaited
repairs_awaiting : (n n' : Node) (e : Event) (fx : Effect) (ask : Call) (more : List Call) → IsSome n'.awaited → Passes config n e fx n' (ask ∷ more) → ⊥
repairs_awaiting n n' e fx ask more awaited p = some (p.idle (inr awaited))
  where
    some : ask ∷ more ≡ [] → ⊥
    some e = cc

abbrev with_write : Node
with_write = record waits { uncovered = 5 ∷ [] }

-- a body that leaves writes uncovered which an applied floor's sync covers
keeps_uncovered : (n : Node) → n.covered ≡ 0 → (made : Made) → Advances config chain with_write (block_buffered b1) made n → ⊥
keeps_uncovered n none made a = low a.writes.blocking a.writes.at_least (sym none ∙ a.writes.covered)
  where
    low : (k : ℕ) → 1 ≤ k → 0 ≡ max 0 k → ⊥
    low k some e = grind arith

-- CUTS

-- a body that syncs the metadata before it ends in a dropped acknowledgement
syncs_dropped : (earlier : List Pair) (least : Option ℕ) (made : Made) (left : Ended) → (left.meta ≡ n4.meta → ⊥) → CutsEvent config chain earlier least n4 (ack_dropped 1) made (dropped_ack 1) left → ⊥
syncs_dropped earlier least made left other c = other (c.unsynced refl)

-- one that stores something of a floor that it refuses
leaves_floor : (earlier : List Pair) (least : Option ℕ) (made : Made) (left : Ended) (f : Finalization) → (left ≡ left_by n4 → ⊥) → CutsEvent config chain earlier least n4 (message_told None (set_floor f)) made (floor_invalid f.round) left → ⊥
leaves_floor earlier least made left f other c = other (c.refused refl)

-- one that hands block 1 over a second time as the acknowledgement of block 0 is cut, as the height before the event with the
-- list after it would have it
hands_again : (before : List Pair) (least : Option ℕ) (fault : Fault) (left : Ended) → CutsEvent config chain before least n3 (ack_given 0) (record nothing_made { reports = handed_over 2 b1 ∷ [] }) fault left → ⊥
hands_again before least fault left c = by c.reached_is
  where
    apart : ◌≡◌ {A = ℕ} 1 2 → ⊥
    apart e = omega arith

    by : (c.reached ≡ reached_before n3 (ack_given 0)) ⊎ (c.reached ≡ reached_after n3 (ack_given 0) no_floor) × Contains (map (λ p. p.processed) left.meta) c.reached.processed → ⊥
    by (inl is) = apart (c.in_order.1 ∙ ap (λ r. next_after r.processed + length r.out) is)
    by (inr (is, durable)) = apart (c.in_order.1 ∙ ap (λ r. next_after r.processed + length r.out) is)

-- one after which a held block may not be left
forgets_held : (before : List Pair) (least : Option ℕ) (made : Made) (fault : Fault) (left : Ended) → left.blocks_may ≡ [] → CutsEvent config chain before least n3 (ack_given 0) made fault left → ⊥
forgets_held before least made fault left none c = on_off (sym (c.may.held_blocks 1 (lit≤ tt) refl) ∙ ap (λ xs. has_height xs 1) none)

-- one after which an entry may be cached that might not be before, and that the event does not put
caches_more : (before : List Pair) (least : Option ℕ) (made : Made) (fault : Fault) (left : Ended) → left.cache_may ≡ verified_entry r1 b1 ∷ [] → CutsEvent config chain before least n3 (ack_given 0) made fault left → ⊥
caches_more before least made fault left some c = refuse (c.may.cached (verified_entry r1 b1) (subst (λ xs. Contains xs (verified_entry r1 b1)) (sym some) (0, lit< tt, refl)))
  where
    apart : finalization_entry f1 ≡ verified_entry r1 b1 → ⊥
    apart e = cc

    refuse : Contains n3.cache.may (verified_entry r1 b1) ⊎ List Cached × Contains [] (verified_entry r1 b1) → ⊥
    refuse (inl before) = apart (only _ _ before)
    refuse (inr (after, put)) = none_in (verified_entry r1 b1) put

-- one that asks for what the event would not, before it is cut
asks_otherwise : (before : List Pair) (least : Option ℕ) (fault : Fault) (left : Ended) → CutsEvent config chain before least n3 (ack_given 0) (record nothing_made { asks = retain (above_height 1) ∷ [] }) fault left → ⊥
asks_otherwise before least fault left c = ⊎_elim (λ front. apart _ _ front.1) (λ more. let no : false ≡ true = more.0 in absurd cc) c.asks
  where
    apart : (xs ys : List Call) → retain (above_height 0) ∷ xs ≡ retain (above_height 1) ∷ ys → ⊥
    apart xs ys e = let same : ◌≡◌ {A = ℕ} 0 1 = cc in omega arith

-- STORINGS AND HAND-OVERS

-- nothing enters at height 1 where an event stores nothing and no pass runs
none_enters : (heights : List ℕ) → heights ≡ [] → Contains ([] ++ heights) 1 → ⊥
none_enters heights none has = none_in 1 (subst (λ hs. Contains hs 1) none has)

-- a body that stores the block of an answer that is Invalid
stores_invalid : (n : Node) → IsTrue (has_height n.blocks.held 1) → (made : Made) → Advances config chain n0 (peer_answered gave_nothing) made n → ⊥
stores_invalid n held made a = ⊎_elim (λ before. on_off (sym before)) (none_enters a.writes.repaired (a.unrepaired refl)) (a.enters.blocks 1 held)

-- one that stores a block of the buffer as another is verified
stores_beside : (n : Node) → IsTrue (has_height n.blocks.held 1) → (made : Made) → Advances config chain n1 (message_told (Some 0) (verified r1 b0)) made n → ⊥
stores_beside n held made a = ⊎_elim (λ before. on_off (sym before)) (none_enters a.writes.repaired (a.unrepaired refl)) (a.enters.blocks 1 held)

-- one that waits for the sync of what a report stores
syncs_at_once : (n : Node) → n.covered ≡ 1 → (made : Made) → Advances config chain n1 reported made n → ⊥
syncs_at_once n covered made a = waits (sym covered ∙ (a.writes.covered ∙ ap (max (max 0 0)) (a.unblocked refl)))
  where
    waits : ◌≡◌ {A = ℕ} 1 0 → ⊥
    waits is = omega arith

abbrev behind : Node
behind = record n5 { certs = n1.certs }

-- one that stores no certificate for a block that is held and processed already
stores_no_late : (n : Node) → n.certs.held ≡ [] → (made : Made) → Advances config chain behind (message_told None (report_finalization f1)) made n → ⊥
stores_no_late n held made a = on_off (sym (a.stored_late refl (lit≤ tt) refl) ∙ ap (λ xs. has_height xs 1) held)

-- one that hands over a block at or above an uncovered write
hands_above : (n : Node) → n.uncovered ≡ 1 ∷ [] → (made : Made) → Advances config chain n1 (message_told None (report_finalization f1)) (record nothing_made { reports = handed_over 1 b1 ∷ [] }) n → ⊥
hands_above n uncovered made a = below (subst (λ us. AllByRecursion {X = ℕ} (λ h. 1 < h) us) uncovered a.hands.below_barrier.0).0
  where
    below : 1 < 1 → ⊥
    below lt = omega arith

-- THE CACHE

-- a body that caches nothing of what is verified
caches_nothing : (n : Node) → n.cache.held ≡ [] → AdvancesCache config n0 (message_told None (verified r1 b1)) no_floor n → ⊥
caches_nothing n held a = refuse (a.kept (verified_entry r1 b1) (subst (λ after. Contains (entries_with_puts config n0 after (message_told None (verified r1 b1)) no_floor) (verified_entry r1 b1)) (sym held) (0, lit< tt, refl)))
  where
    refuse : Contains n.cache.held (verified_entry r1 b1) ⊎ (epoch_of (verified_entry r1 b1) < n0.lowest) ⊎ IsTrue (is_pruned config n0 (message_told None (verified r1 b1)) no_floor (verified_entry r1 b1)) → ⊥
    refuse (inl has) = none_in (verified_entry r1 b1) (subst (λ xs. Contains xs (verified_entry r1 b1)) held has)
    refuse (inr (inl low)) = omega arith
    refuse (inr (inr pruned)) = cc

-- one that leaves the cache as it was where a finalization is reported
leaves_cache : (n : Node) → n.cache ≡ n1.cache → (made : Made) → Advances config chain n1 reported made n → ⊥
leaves_cache n same made a = refuse (a.cache.kept (finalization_entry f1) (0, lit< tt, refl))
  where
    refuse : Contains n.cache.held (finalization_entry f1) ⊎ (epoch_of (finalization_entry f1) < n1.lowest) ⊎ IsTrue (is_pruned config n1 reported no_floor (finalization_entry f1)) → ⊥
    refuse (inl has) = none_in (finalization_entry f1) (subst (λ k. Contains k.held (finalization_entry f1)) same has)
    refuse (inr (inl low)) = omega arith
    refuse (inr (inr pruned)) = cc

-- one that caches it there and does not sync it
leaves_unsynced : (n : Node) → n.cache.held ≡ finalization_entry f1 ∷ [] → n.cache.sure ≡ [] → (made : Made) → Advances config chain n1 reported made n → ⊥
leaves_unsynced n held unsure made a = none_in (finalization_entry f1) (subst (λ xs. Contains xs (finalization_entry f1)) unsure (a.cache.synced (finalization_entry f1) refl (subst (λ xs. Contains xs (finalization_entry f1)) (sym held) (0, lit< tt, refl))))
