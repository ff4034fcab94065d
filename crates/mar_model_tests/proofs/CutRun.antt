-- A metadata sync that fails: the acknowledgement is cut, and a crash may have kept either pair.
use Rattle.std.proofs.Common.{◌≡◌, List, [], ◌∷◌, ◌++◌, Some, None, refl, lit<, lit≤, inl, codes}
use Rattle.std.specs.Fmt.{digits}
use Rattle.hex.specs.Hex.{encode_with}
use Rattle.mar_key.specs.Cutoff.{cutoff_zero}
use Rattle.mar_key.specs.Keys.{retain, above_height}
use Rattle.mar_model.specs.Node.{Ended}
use Rattle.mar_model.specs.Event.{ack_given}
use Rattle.mar_model.specs.Faults.{StoreName, block_store, cache_store, cert_store, store_fault, meta_store}
use Rattle.mar_model.specs.Held.{Breaks, FailsBy, Passes, watch_of, with_armed}
use Rattle.mar_model.proofs.Passing.{Passes-refl}
use Rattle.mar_model.specs.Step.{nothing_made}
use Rattle.mar_model.specs.Lives.{CutsEvent, IsGoodEnded, reached_before}
use Rattle.mar_script.specs.Accounts.{Account, fresh_watches}
use Rattle.mar_script.specs.Script.{ack_line, fail_line}
use Rattle.mar_script.specs.Text.{Done, silent_output, output_text, running, stopped}
use Rattle.mar_script.specs.Run.{LineDone, Run, next_picks}
use Rattle.mar_model_tests.proofs.SmallChain.{chain, config}
use Rattle.mar_model_tests.proofs.DeliveryRun.{fresh, n0}
use Rattle.mar_model_tests.proofs.SmallCutoffs.{zero_safe, safe_at_zero}

abbrev pub cut_at_meta : Ended
cut_at_meta = record {
  blocks_sure = n0.blocks.sure;
  blocks_may = n0.blocks.may;
  certs_sure = [];
  certs_may = [];
  cache_sure = [];
  cache_may = [];
  lowests = 0 ∷ [];
  meta = record { processed = None; cutoff = cutoff_zero } ∷ record { processed = Some 0; cutoff = cutoff_zero } ∷ [];
}

good : IsGoodEnded chain cut_at_meta
good = record { may_blocks = (refl, tt); may_certs = tt; may_cached = tt; may_cached_blocks = tt; backed = (tt, (inl refl, tt)); floor_safe = (zero_safe, (safe_at_zero cut_at_meta.blocks_sure, tt)) }

cut : CutsEvent config chain n0.meta None n0 (ack_given 0) (record nothing_made { asks = retain (above_height 0) ∷ [] }) (store_fault meta_store) cut_at_meta
cut = record {
  tip = 0;
  tips = refl;
  tips_chain = tt;
  reached = reached_before n0 (ack_given 0);
  reached_is = inl refl;
  in_order = tt;
  hands_chain = tt;
  leaves = record {
    sure_blocks = λ h b e above. e;
    sure_certs = λ h f e above. e;
    sure_cache = λ x e. inl e;
    lowests = λ k e. e;
    some_pair = lit< tt;
    pairs = ((0, lit< tt, refl), ((2, lit< tt, refl), tt));
    good = good;
  };
  may = record {
    held_blocks = λ h above held. held;
    held_certs = λ h above held. held;
    blocks = λ x has. inl has;
    certs = λ x has. inl has;
    sure_blocks = λ h sure. sure;
    sure_certs = λ h sure. sure;
    cached = λ x has. inl has;
  };
  asks = inl ([], refl);
  sends = ([], refl);
  answers = (0, ([], refl));
  first_pair = inl refl;
  no_lower = (lit≤ tt, (lit≤ tt, tt));
  cause = λ by_value. cc;
  refused = λ is. cc;
  unsynced = λ is. cc;
}

failed_sync_line : LineDone config chain fresh (running n0) (ack_line 0) (record silent_output { made = record nothing_made { asks = retain (above_height 0) ∷ [] }; fault = Some (store_fault meta_store) }) (stopped cut_at_meta)
failed_sync_line = (
  store_fault meta_store,
  refl,
  refl,
  record {
    finished = [];
    event = ack_given 0;
    others = [];
    split = refl;
    first = nothing_made;
    later = record nothing_made { asks = retain (above_height 0) ∷ [] };
    made_is = refl;
    mid = n0;
    advances = (refl, refl);
    cut = cut;
  },
  ([], refl),
)

-- THE SAME AS A RUN

-- the next call of the metadata is armed, and then it failed
abbrev armed_once : Account
armed_once = record fresh { watches = with_armed meta_store 1 fresh_watches }

abbrev pub failed_once : Account
failed_once = record { watches = record fresh_watches { meta = record (fresh_watches.meta) { faults = 1 } }; luck = 0 }

abbrev failed_run : List Done
failed_run =
    record { line = fail_line meta_store 1; output = silent_output; after = running n0; account = armed_once }
    ∷ record { line = ack_line 0; output = record silent_output { made = record nothing_made { asks = retain (above_height 0) ∷ [] }; fault = Some (store_fault meta_store) }; after = stopped cut_at_meta; account = failed_once }
    ∷ []

fails : FailsBy armed_once.watches (store_fault meta_store) failed_once.watches
fails = record { broke = broke; passed = passed }
  where
    broke : (s : StoreName) → store_fault meta_store ≡ store_fault s → Breaks (watch_of armed_once.watches s) (watch_of failed_once.watches s)
    broke meta_store is = record { mid = armed_once.watches.meta; passes = Passes-refl armed_once.watches.meta; strikes = inl (record { rose = lit≤ tt; armed = λ only. refl; same = refl }) }
    broke block_store is = absurd cc
    broke cert_store is = absurd cc
    broke cache_store is = absurd cc

    passed : (s : StoreName) → (store_fault meta_store ≡ store_fault s → ⊥) → Passes (watch_of armed_once.watches s) (watch_of failed_once.watches s)
    passed meta_store other = absurd (other refl)
    passed block_store other = Passes-refl fresh_watches.blocks
    passed cert_store other = Passes-refl fresh_watches.certs
    passed cache_store other = Passes-refl fresh_watches.cache

failed_is_run : Run config chain fresh (running n0) failed_run (stopped cut_at_meta)
failed_is_run = ((refl, refl), record { luck = refl; calls = refl }, (failed_sync_line, record { luck = refl; calls = fails }, refl))

-- an opening reads the pair of the last sync, or with a luck whose lowest bit is set that of the sync that failed
reads_synced : (next_picks failed_once cut_at_meta).pair ≡ Some (Some (record { processed = None; cutoff = cutoff_zero }))
reads_synced = refl

reads_failed : (next_picks (record failed_once { luck = 1 }) cut_at_meta).pair ≡ Some (Some (record { processed = Some 0; cutoff = cutoff_zero }))
reads_failed = refl

failed_sync_text : output_text (record silent_output { made = record nothing_made { asks = retain (above_height 0) ∷ [] }; fault = Some (store_fault meta_store) }) (stopped cut_at_meta)
    ≡ (codes "retain height 0" ++ 10 ∷ []) ++ (codes "fault StoreFault meta" ++ 10 ∷ []) ++ codes "node end p=- c=0.0 bs=0-0 bm=0-0 fs=- fm=-" ++ 10 ∷ []
unfolding output_text digits encode_with
failed_sync_text = refl
