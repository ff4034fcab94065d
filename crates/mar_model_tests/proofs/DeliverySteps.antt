-- The delivery run's lines are lines of a run; their nodes are good.
use Rattle.std.proofs.Common.{ap, option_map, List, ℕ, ◌==◌, Bool, Contains, if◌then◌else◌, is_some, [], ◌∷◌, Some, None, refl, IsTrue, IsFalse, ◌≡◌, ◌⊎◌, inl, inr, true, false, nat_lt, lit<, lit≤, ◌≤◌, arith, take}
use Rattle.mar_cert.specs.Block.{Block}
use Rattle.mar_cert.specs.Finalization.{Finalization}
use Rattle.mar_types.specs.Round.{Round}
use Rattle.mar_key.specs.Cutoff.{at_round, covers, cutoff_zero}
use Rattle.mar_key.specs.Processed.{height_in}
use Rattle.mar_store.specs.Changes.{KeepsValues}
use Rattle.mar_model.specs.Chain.{Chain, IsBlockAt, IsFinal, Finalizes}
use Rattle.mar_store.specs.Kept.{At, has_height, reopened_store}
use Rattle.mar_store.proofs.Lookups.{value_at-append_found}
use Rattle.mar_model.specs.Node.{FloorSafe, IsGood, IsGoodDelivery, Node, SureOrWritten, window_full, write_uncovered, block_missing}
use Rattle.mar_model.specs.Event.{life_started, message_told, ack_given, sync_finished}
use Rattle.mar_key.specs.Keys.{retain, above_height, above_round}
use Rattle.mar_model.specs.Faults.{from_genesis}
use Rattle.mar_model.specs.Messages.{report_finalization}
use Rattle.mar_model.specs.Step.{nothing_made, handed_over, new_tip, Advances}
use Rattle.mar_model.specs.Lives.{Finds}
use Rattle.mar_script.specs.Script.{open_line, tell_line, buffer_line, sync_line, ack_line}
use Rattle.mar_script.specs.Text.{silent_output, running, stopped}
use Rattle.mar_script.specs.Run.{LineDone, Run, empty_stores, next_picks}
use Rattle.mar_model_tests.proofs.SmallChain.{b0, b1, d1, f1, r1, config}
use Rattle.mar_model_tests.proofs.DeliveryRun.{fresh, making, none_failed, begun, n0, n1, n2, n3, n4, n5, delivery_run, one_entry}
use Rattle.mar_model_tests.proofs.SmallEntries.{cached_of, caches_report, new_block, new_cert, new_certificates}
use Rattle.mar_model_tests.proofs.SmallFacts.{entered_height, entered_own}
use Rattle.mar_model_tests.proofs.SmallSteps.{first_held, passes_none, settled, settled_good, stores_nothing, two_held}

-- what is held from block 1 on
abbrev pub both_blocks : List (At Block)
both_blocks = record { height = 0; value = b0 } ∷ record { height = 1; value = b1 } ∷ []

abbrev pub one_certificate : List (At Finalization)
one_certificate = record { height = 1; value = f1 } ∷ []

-- block 0 was sure before
pub first_stays : KeepsValues n2.blocks.sure n2.blocks.held
first_stays h v is = value_at-append_found n1.blocks.held (record { height = 1; value = b1 } ∷ []) h v is

-- before its sync is started
abbrev pub unticketed : Node
unticketed = record n2 { syncs = []; next_sync = 0 }

eq_of : (a b : ℕ) → (a == b) ≡ true → a ≡ b
eq_of a b e = grind arith

pub blocks_written : SureOrWritten n2.blocks (1 ∷ [])
blocks_written h = by (0 == h) (1 == h) refl
  where
    by : (a c : Bool) → (1 == h) ≡ c → IsTrue (is_some (if a then Some b0 else if c then Some b1 else None)) → IsTrue (is_some (if a then Some b0 else None)) ⊎ Contains (1 ∷ []) h
    by true c e held = inl refl
    by false true e held = inr (0, lit< tt, eq_of 1 h e)
    by false false e held = absurd cc

pub certs_written : SureOrWritten n2.certs (1 ∷ [])
certs_written h = by (1 == h) refl
  where
    by : (c : Bool) → (1 == h) ≡ c → IsTrue (is_some (if c then Some f1 else None)) → IsTrue false ⊎ Contains (1 ∷ []) h
    by true e held = inr (0, lit< tt, eq_of 1 h e)
    by false e held = absurd cc

pub blocks_nested : (h : ℕ) → IsTrue (has_height n2.blocks.sure h) → IsTrue (has_height n2.blocks.held h)
blocks_nested h = by (0 == h) (1 == h)
  where
    by : (a c : Bool) → IsTrue (is_some (if a then Some b0 else None)) → IsTrue (is_some (if a then Some b0 else if c then Some b1 else None))
    by true c sure = refl
    by false c sure = absurd cc

-- Of any chain that has these two blocks and this finalized round, and whose other rounds the cutoffs
-- zero, zero and (0, 1) cover safely.
module _ (chain : Chain) (at0 : IsBlockAt chain 0 b0) (at1 : IsBlockAt chain 1 b1) (named : IsFinal chain r1 1)
    (zero_safe : (r : Round) (h : ℕ) → IsFinal chain r h → IsFalse (covers cutoff_zero r))
    (safe_at_zero : (sure : List (At Block)) → FloorSafe (Some 0) cutoff_zero sure chain)
    (safe_at_one : (sure : List (At Block)) → FloorSafe (Some 1) (at_round r1) sure chain)
  where
    finalizes : Finalizes chain 1 r1 d1
    finalizes = record { named = named; payload_is = ap (option_map (λ b. b.commitment)) at1 }

    good0 : IsGood config chain n0
    good0 = settled_good chain n0 (record { height = 0; value = b0 } ∷ []) [] [] (record { consecutive = (refl, tt); out_sure = (refl, tt); within_window = lit≤ tt; anchored = tt }) (at0, tt) tt (record { finalizations = tt; blocks = tt }) zero_safe tt

    good2 : IsGood config chain n2
    good2 = record {
      heights = record {
        stores = record {
          nested_blocks = record { sure_held = blocks_nested; held_may = λ h is. is };
          nested_certs = record { sure_held = λ h is. absurd cc; held_may = λ h is. is };
          sure_blocks = blocks_written;
          sure_certs = certs_written;
        };
        delivery = record {
          consecutive = (refl, tt);
          out_sure = (refl, tt);
          within_window = lit≤ tt;
          anchored = tt;
        };
        floor_clears = λ some. cc;
        own_pair = refl;
        sync_open = λ more. (0, lit< tt, refl);
      };
      of_chain = record {
        stores = record { held_blocks = (at0, (at1, tt)); may_blocks = (at0, (at1, tt)); held_certs = (finalizes, tt); may_certs = (finalizes, tt) };
        cache = cached_of chain finalizes;
        asks = record { requests = tt; ready = tt; overflow = tt };
        awaits = tt;
        not_at_hand = tt;
        floor_safe = zero_safe;
        tip_reported = (lit≤ tt, tt);
      };
    }

    -- the later nodes, which hold both blocks and the finalization, and have it cached
    settled_later : (n : Node) → IsGoodDelivery config.window both_blocks n.processed n.out → FloorSafe (option_map height_in n.processed) n.cutoff both_blocks chain → 1 ≤ n.tip → IsGood config chain (settled n both_blocks one_certificate one_entry)
    settled_later n delivery safe told = settled_good chain n both_blocks one_certificate one_entry delivery (at0, (at1, tt)) (finalizes, tt) (cached_of chain finalizes) safe (told, tt)

    good3 : IsGood config chain n3
    good3 = settled_later n3 (record { consecutive = (refl, (refl, tt)); out_sure = (refl, (refl, tt)); within_window = lit≤ tt; anchored = tt }) zero_safe (lit≤ tt)

    good4 : IsGood config chain n4
    good4 = settled_later n4 (record { consecutive = (refl, tt); out_sure = (refl, tt); within_window = lit≤ tt; anchored = refl }) (safe_at_zero both_blocks) (lit≤ tt)

    pub good5 : IsGood config chain n5
    good5 = settled_later n5 (record { consecutive = tt; out_sure = tt; within_window = lit≤ tt; anchored = refl }) (safe_at_one both_blocks) (lit≤ tt)

    -- LINES

    finds : Finds config empty_stores (next_picks fresh empty_stores) (from_genesis b0) begun
    finds = record {
      pair = record { processed = None; cutoff = cutoff_zero };
      pair_may = (0, lit< tt, refl);
      found = [];
      found_may = record { with_sure = λ h v e. e; within_may = λ h v e. absurd cc; once = tt };
      certs = [];
      certs_may = record { with_sure = λ h v e. e; within_may = λ h v e. absurd cc; once = tt };
      picked = record { blocks_are = refl; certs_are = refl; pair_is = refl };
      cache = record { sure = []; may = [] };
      cache_may = record { with_sure = λ x e. e; within_may = λ x e. e; sure_may = λ x e. e };
      lowest = 0;
      lowests = 0 ∷ [];
      lowests_were = λ k there. there;
      lowest_was = (0, lit< tt, refl);
      blocks = reopened_store (record { height = 0; value = b0 } ∷ []);
      settled = record { sure = refl; may = λ x has. has; held_may = λ x has. has };
      entered = ((refl, tt), λ h. refl);
      no_fault = refl;
      node = refl;
    }

    starts : Advances config chain begun (life_started None) (record nothing_made { reports = handed_over 0 b0 ∷ [] }) n0
    starts = stores_nothing chain begun (life_started None) (record { no_effect = refl; no_storing = refl; untold = refl; no_query = refl; no_fault = refl; no_puts = λ after. refl; no_syncs = λ n. refl; no_tickets = refl; lowest = refl; still_lowest = refl; own_lowest = (0, lit< tt, refl) }) (handed_over 0 b0 ∷ []) begun.blocks.sure [] begun.meta
        (record { in_order = (refl, refl, refl, tt); counted = refl; out = refl; below_barrier = (tt, tt) }) ((at0, refl), tt) (λ h v is. is) (λ h v is. is) refl tt (inr (first_held n0 b0 refl refl))

    opens : LineDone config chain fresh (stopped empty_stores) (open_line (from_genesis b0)) (making (record nothing_made { reports = handed_over 0 b0 ∷ [] })) (running n0)
    opens = (_, record { first = begun; finds = finds; begun = begun; takes = record { cache = record { held = []; sure = []; may = [] }; loads = record { with_sure = λ x has. has; within_may = λ x has. has; sure = λ x has. has; may = λ x has. has; once = tt }; by_luck = refl; syncs = []; still_open = tt; begun_is = refl }; start = record { unticketed = n0; advances = starts; ticket = refl; rests = block_missing refl; good = good0 } }, refl, refl)

    buffers : LineDone config chain fresh (running n0) (buffer_line b1) silent_output (running n1)
    buffers = (refl, refl)

    finalized : Advances config chain n1 (message_told None (report_finalization f1)) (record nothing_made { reports = new_tip r1 1 d1 ∷ [] }) unticketed
    finalized = record {
      hands = record { in_order = tt; counted = refl; out = refl; below_barrier = tt };
      hands_chain = tt;
      processed = refl;
      cutoff = refl;
      blocks = record { held = λ h v above e. value_at-append_found n1.blocks.held (record { height = 1; value = b1 } ∷ []) h v e; sure = λ h v e still. e };
      certs = record { held = λ h v above e. absurd cc; sure = λ h v e still. e };
      may_blocks = new_block;
      may_certs = new_cert;
      certificates = new_certificates unticketed refl;
      writes = record {
        repaired = [];
        by_repair = λ h. entered_own (nat_lt 0 h) (0 == h) (1 == h) b0 b1;
        each_once = λ h. lit≤ tt;
        blocking = 0;
        within = lit≤ tt;
        at_least = lit≤ tt;
        covered = refl;
        uncovered = refl;
        syncs = refl;
      };
      repairs = record { at_hand = λ h b is. absurd cc; with_finalization = λ h b is. absurd cc };
      unrepaired = λ is. refl;
      unblocked = λ is. refl;
      enters = record { blocks = λ h has. entered_height n1.blocks.held 1 b1 h has; certs = λ h has. entered_height [] 1 f1 h has };
      tips = (lit< tt, refl);
      tips_chain = (named, ap (option_map (λ b. b.digest)) at1, tt);
      awaited = refl;
      cache = caches_report unticketed;
      may_cached = λ x has. inr ([], has);
      stored = record { block = inl refl; certificate = λ with_it above. refl };
      stored_late = λ with_it late held. absurd (omega arith);
      floor_stored = tt;
      query = λ is. cc;
      no_fault = refl;
      beside = record { more = []; asks = refl; passes = passes_none n1 (message_told None (report_finalization f1)) unticketed (inr (two_held unticketed b0 b1 f1 refl refl)); sends = refl; answers = refl; subscriptions = refl; certified = λ h c. refl; next_sync = refl; untouched = refl };
    }

    finals : LineDone config chain fresh (running n1) (tell_line (report_finalization f1)) (making (record nothing_made { reports = new_tip r1 1 d1 ∷ [] })) (running n2)
    finals = (_, record { unticketed = unticketed; advances = finalized; ticket = refl; rests = write_uncovered 1 (0, lit< tt, refl) (lit≤ tt); good = good2 }, refl, refl, refl)

    synced : Advances config chain n2 (sync_finished 0) (record nothing_made { reports = handed_over 1 b1 ∷ [] }) n3
    synced = stores_nothing chain n2 (sync_finished 0) (record { no_effect = refl; no_storing = refl; untold = refl; no_query = refl; no_fault = refl; no_puts = λ after. refl; no_syncs = λ n. refl; no_tickets = refl; lowest = refl; still_lowest = refl; own_lowest = (0, lit< tt, refl) }) (handed_over 1 b1 ∷ []) n2.blocks.held n2.certs.held n2.meta
        (record { in_order = (refl, refl, refl, tt); counted = refl; out = refl; below_barrier = (tt, tt) }) ((at1, refl), tt) first_stays (λ h v is. absurd cc) refl tt (inl refl)

    syncs : LineDone config chain fresh (running n2) (sync_line 0) (making (record nothing_made { reports = handed_over 1 b1 ∷ [] })) (running n3)
    syncs = (_, record { unticketed = n3; advances = synced; ticket = refl; rests = window_full refl; good = good3 }, refl, refl, refl)

    acked0 : Advances config chain n3 (ack_given 0) (record nothing_made { asks = retain (above_height 0) ∷ [] }) n4
    acked0 = stores_nothing chain n3 (ack_given 0) (record { no_effect = refl; no_storing = refl; untold = refl; no_query = refl; no_fault = refl; no_puts = λ after. refl; no_syncs = λ n. refl; no_tickets = refl; lowest = refl; still_lowest = refl; own_lowest = (0, lit< tt, refl) }) [] n3.blocks.sure n3.certs.sure n4.meta (record { in_order = tt; counted = refl; out = refl; below_barrier = tt }) tt (λ h v is. is) (λ h v is. is) refl tt (inl refl)

    acks0 : LineDone config chain fresh (running n3) (ack_line 0) (making (record nothing_made { asks = retain (above_height 0) ∷ [] })) (running n4)
    acks0 = (_, record { unticketed = n4; advances = acked0; ticket = refl; rests = block_missing refl; good = good4 }, refl, refl, refl)

    acked1 : Advances config chain n4 (ack_given 1) (record nothing_made { asks = retain (above_height 1) ∷ retain (above_round (at_round r1)) ∷ [] }) n5
    acked1 = stores_nothing chain n4 (ack_given 1) (record { no_effect = refl; no_storing = refl; untold = refl; no_query = refl; no_fault = refl; no_puts = λ after. refl; no_syncs = λ n. refl; no_tickets = refl; lowest = refl; still_lowest = refl; own_lowest = (0, lit< tt, refl) }) [] n4.blocks.sure n4.certs.sure n5.meta (record { in_order = tt; counted = refl; out = refl; below_barrier = tt }) tt (λ h v is. is) (λ h v is. is) refl tt (inl refl)

    acks1 : LineDone config chain fresh (running n4) (ack_line 1) (making (record nothing_made { asks = retain (above_height 1) ∷ retain (above_round (at_round r1)) ∷ [] })) (running n5)
    acks1 = (_, record { unticketed = n5; advances = acked1; ticket = refl; rests = block_missing refl; good = good5 }, refl, refl, refl)

    -- all of it is a run of lives
    pub delivery_is_run : Run config chain fresh (stopped empty_stores) delivery_run (running n5)
    delivery_is_run = (opens, record { luck = refl; calls = none_failed }, (buffers, record { luck = refl; calls = none_failed }, (finals, record { luck = refl; calls = none_failed }, (syncs, record { luck = refl; calls = none_failed }, (acks0, record { luck = refl; calls = none_failed }, (acks1, record { luck = refl; calls = none_failed }, refl))))))

    -- and so is its first line: nothing more is handed over, since block 1 is missing
    pub opening_is_run : Run config chain fresh (stopped empty_stores) (take 1 delivery_run) (running n0)
    opening_is_run = (opens, record { luck = refl; calls = none_failed }, refl)
