-- Two syncs are open, of the same finalization told twice, and the later one finishes first: it covers both writes, and the earlier one
-- then has nothing left to cover.
use Rattle.std.proofs.Common.{◌≡◌, ℕ, ◌==◌, List, [], ◌∷◌, ◌++◌, None, refl, inl, inr, Contains, ◌⊎◌, ◌||◌, false, not, nat_lt, zero, suc, lit<, lit≤, ◌≤◌, option_map, arith, codes}
use Rattle.std.proofs.lemmas.List.Elements.{Contains-append_left}
use Rattle.std.specs.Fmt.{digits}
use Rattle.hex.specs.Hex.{encode_with}
use Rattle.mar_key.specs.Processed.{height_in}
use Rattle.mar_store.specs.Kept.{has_height}
use Rattle.mar_model.specs.Cache.{AdvancesCache}
use Rattle.mar_model.specs.Messages.{report_finalization}
use Rattle.mar_model.specs.Node.{FloorSafe, IsGood, IsGoodDelivery, Node, window_full, write_uncovered}
use Rattle.mar_model.specs.Event.{message_told, no_floor, sync_finished}
use Rattle.mar_model.specs.Step.{handed_over, nothing_made, Advances}
use Rattle.mar_script.specs.Script.{tell_line, sync_line}
use Rattle.mar_script.specs.Text.{output_text, running, Done}
use Rattle.mar_script.specs.Run.{LineDone, Run}
use Rattle.mar_model_tests.proofs.SmallChain.{b0, b1, f1, chain, config}
use Rattle.mar_model_tests.proofs.DeliveryRun.{fresh, making, none_failed, n2, n3, line, one_entry}
use Rattle.mar_model_tests.proofs.DeliverySteps.{blocks_nested, blocks_written, both_blocks, certs_written, first_stays, one_certificate}
use Rattle.mar_model_tests.proofs.SmallCutoffs.{zero_safe, finalizes}
use Rattle.mar_model_tests.proofs.SmallEntries.{cached_of, reported}
use Rattle.mar_model_tests.proofs.SmallFacts.{not_entered, same_kept}
use Rattle.mar_model_tests.proofs.SmallSteps.{passes_none, settled, settled_good, stores_nothing, two_held}

-- after the second telling, the later sync, and the earlier one
abbrev pub told_twice : Node
told_twice = record n2 { uncovered = 1 ∷ 1 ∷ []; syncs = record { ticket = 0; position = 1 } ∷ record { ticket = 1; position = 2 } ∷ []; next_sync = 2 }

abbrev pub later_first : Node
later_first = record n3 { covered = 2; syncs = record { ticket = 0; position = 1 } ∷ []; next_sync = 2 }

abbrev pub both_finished : Node
both_finished = record later_first { syncs = [] }

more : {A : Type 0} (h : ℕ) → A ⊎ Contains (1 ∷ []) h → A ⊎ Contains (1 ∷ 1 ∷ []) h
more h (inl sure) = inl sure
more h (inr (zero, lt, e)) = inr (0, lit< tt, e)
more h (inr (suc k, lt, e)) = absurd (omega arith)

good_told : IsGood config chain told_twice
good_told = record {
  heights = record {
    stores = record {
      nested_blocks = record { sure_held = blocks_nested; held_may = λ h is. is };
      nested_certs = record { sure_held = λ h is. absurd cc; held_may = λ h is. is };
      sure_blocks = λ h held. more h (blocks_written h held);
      sure_certs = λ h held. more h (certs_written h held);
    };
    delivery = record {
      consecutive = (refl, tt);
      out_sure = (refl, tt);
      within_window = lit≤ tt;
      anchored = tt;
    };
    floor_clears = λ some. cc;
    own_pair = refl;
    sync_open = λ some. (1, lit< tt, refl);
  };
  of_chain = record {
    stores = record {
      held_blocks = (refl, (refl, tt));
      may_blocks = (refl, (refl, tt));
      held_certs = (finalizes, tt);
      may_certs = (finalizes, tt);
    };
    cache = cached_of chain finalizes;
    asks = record { requests = tt; ready = tt; overflow = tt };
    awaits = tt;
    not_at_hand = tt;
    floor_safe = zero_safe;
    tip_reported = (lit≤ tt, tt);
  };
}

-- once one of them finished, all is sure
settled_both : (n : Node) → IsGoodDelivery config.window both_blocks n.processed n.out → FloorSafe (option_map height_in n.processed) n.cutoff both_blocks chain → 1 ≤ n.tip → IsGood config chain (settled n both_blocks one_certificate one_entry)
settled_both n delivery safe told_tip = settled_good chain n both_blocks one_certificate one_entry delivery (refl, (refl, tt)) (finalizes, tt) (cached_of chain finalizes) safe (told_tip, tt)

good_later : IsGood config chain later_first
good_later = settled_both later_first (record { consecutive = (refl, (refl, tt)); out_sure = (refl, (refl, tt)); within_window = lit≤ tt; anchored = tt }) zero_safe (lit≤ tt)

good_both : IsGood config chain both_finished
good_both = settled_both both_finished (record { consecutive = (refl, (refl, tt)); out_sure = (refl, (refl, tt)); within_window = lit≤ tt; anchored = tt }) zero_safe (lit≤ tt)

abbrev unticketed : Node
unticketed = record told_twice { syncs = n2.syncs; next_sync = 1 }

-- its finalization is cached already
cached_before : AdvancesCache config n2 reported no_floor unticketed
cached_before = record {
  kept = λ x there. inl there;
  nothing_else = λ x there. there;
  stays_sure = λ x sure held. held;
  stays = λ x there. inl there;
  first_stays = λ r b first held. first;
  synced = λ x is held. held;
  finished = λ x there held. held;
  lowest = refl;
  lowests = λ k there. Contains-append_left (0 ∷ []) (0 ∷ []) k there;
  own_lowest = (0, lit< tt, refl);
  cache_syncs = record { still = []; still_open = tt; started = []; started_open = tt; are = refl };
  witnessed = refl;
}

told : Advances config chain n2 (message_told None (report_finalization f1)) nothing_made unticketed
told = record {
  hands = record { in_order = tt; counted = refl; out = refl; below_barrier = tt };
  hands_chain = tt;
  processed = refl;
  cutoff = refl;
  blocks = same_kept 0 n2.blocks;
  certs = same_kept 0 n2.certs;
  may_blocks = λ x has. inl has;
  may_certs = λ x has. inl has;
  certificates = record { entered = λ h f is. inl is; own = λ s f stores told free. inl free };
  writes = record {
    repaired = [];
    by_repair = λ h. not_entered (nat_lt 0 h) (has_height n2.blocks.held h) (not (1 == h || false));
    each_once = λ h. lit≤ tt;
    blocking = 0;
    within = lit≤ tt;
    at_least = lit≤ tt;
    covered = refl;
    uncovered = refl;
    syncs = refl;
  };
  repairs = record { at_hand = λ h b is. absurd cc; with_finalization = λ h b is. absurd cc };
  unrepaired = λ is. refl;
  unblocked = λ is. refl;
  enters = record { blocks = λ h has. inl has; certs = λ h has. inl has };
  tips = refl;
  tips_chain = tt;
  awaited = refl;
  cache = cached_before;
  may_cached = λ x has. inl has;
  stored = record { block = inl refl; certificate = λ with_it above. refl };
  stored_late = λ with_it late held. absurd (omega arith);
  floor_stored = tt;
  query = λ is. cc;
  no_fault = refl;
  beside = record { more = []; asks = refl; passes = passes_none n2 (message_told None (report_finalization f1)) unticketed (inr (two_held unticketed b0 b1 f1 refl refl)); sends = refl; answers = refl; subscriptions = refl; certified = λ h c. refl; next_sync = refl; untouched = refl };
}

tells : LineDone config chain fresh (running n2) (tell_line (report_finalization f1)) (making nothing_made) (running told_twice)
tells = (_, record { unticketed = unticketed; advances = told; ticket = refl; rests = write_uncovered 1 (0, lit< tt, refl) (lit≤ tt); good = good_told }, refl, refl, refl)

later : Advances config chain told_twice (sync_finished 1) (record nothing_made { reports = handed_over 1 b1 ∷ [] }) later_first
later = stores_nothing chain told_twice (sync_finished 1) (record { no_effect = refl; no_storing = refl; untold = refl; no_query = refl; no_fault = refl; no_puts = λ after. refl; no_syncs = λ n. refl; no_tickets = refl; lowest = refl; still_lowest = refl; own_lowest = (0, lit< tt, refl) }) (handed_over 1 b1 ∷ []) n2.blocks.held n2.certs.held n2.meta
    (record { in_order = (refl, refl, refl, tt); counted = refl; out = refl; below_barrier = (tt, tt) }) ((refl, refl), tt) first_stays (λ h v is. absurd cc) refl tt (inl refl)

laters : LineDone config chain fresh (running told_twice) (sync_line 1) (making (record nothing_made { reports = handed_over 1 b1 ∷ [] })) (running later_first)
laters = (_, record { unticketed = later_first; advances = later; ticket = refl; rests = window_full refl; good = good_later }, refl, refl, refl)

earlier : Advances config chain later_first (sync_finished 0) nothing_made both_finished
earlier = stores_nothing chain later_first (sync_finished 0) (record { no_effect = refl; no_storing = refl; untold = refl; no_query = refl; no_fault = refl; no_puts = λ after. refl; no_syncs = λ n. refl; no_tickets = refl; lowest = refl; still_lowest = refl; own_lowest = (0, lit< tt, refl) }) [] later_first.blocks.sure later_first.certs.sure later_first.meta (record { in_order = tt; counted = refl; out = refl; below_barrier = tt }) tt (λ h v is. is) (λ h v is. is) refl tt (inl refl)

earliers : LineDone config chain fresh (running later_first) (sync_line 0) (making nothing_made) (running both_finished)
earliers = (_, record { unticketed = both_finished; advances = earlier; ticket = refl; rests = window_full refl; good = good_both }, refl, refl, refl)

abbrev pub three_lines : List Done
three_lines =
    record { line = tell_line (report_finalization f1); output = making nothing_made; after = running told_twice; account = fresh }
    ∷ record { line = sync_line 1; output = making (record nothing_made { reports = handed_over 1 b1 ∷ [] }); after = running later_first; account = fresh }
    ∷ record { line = sync_line 0; output = making nothing_made; after = running both_finished; account = fresh }
    ∷ []

pub two_syncs_are_run : Run config chain fresh (running n2) three_lines (running both_finished)
two_syncs_are_run = (tells, record { luck = refl; calls = none_failed }, (laters, record { luck = refl; calls = none_failed }, (earliers, record { luck = refl; calls = none_failed }, refl)))

two_syncs_text : output_text (making nothing_made) (running told_twice) ++ output_text (making (record nothing_made { reports = handed_over 1 b1 ∷ [] })) (running later_first) ++ output_text (making nothing_made) (running both_finished) ≡
    line (codes "node p=- o=0:0 c=0.0 w=- b=0-1 bs=0-0 f=1-1 fs=- u=1,1 s=0:1,1:2 y=-")
    ++ line (codes "block 1 1 ce32c67642e5135e430855a082568f3b774ee1efc23b9f2d1bc13c3f65ce873a")
    ++ line (codes "node p=- o=0:0,1:1 c=0.0 w=- b=0-1 bs=0-1 f=1-1 fs=1-1 u=- s=0:1 y=-")
    ++ line (codes "node p=- o=0:0,1:1 c=0.0 w=- b=0-1 bs=0-1 f=1-1 fs=1-1 u=- s=- y=-")
unfolding output_text digits encode_with line
two_syncs_text = refl
