-- An event that reached some node, and handed over from there, is a step or a cut.
use Rattle.std.proofs.Common.{◌≡◌, ◌⊎◌, inr, ℕ, ◌+◌, ◌<◌, ◌≤◌, List, [], ◌∷◌, ◌++◌, length, map, false, Option, Some, option_map, Result, Ok, Err, IsTrue, Contains, refl, sym, ◌∙◌, ap, subst, arith, append-nil, ap₂, inl}
use Rattle.std.specs.List.{AllByRecursion}
use Rattle.mar_cert.specs.Block.{Block}
use Rattle.mar_key.specs.Hears.{Hears}
use Rattle.mar_key.specs.Keys.{Call}
use Rattle.mar_key.specs.Processed.{first_unprocessed, height_in}
use Rattle.mar_store.specs.Kept.{has_height, value_at}
use Rattle.mar_store.specs.Changes.{KeepsValues, left_of}
use Rattle.mar_store.proofs.Lookups.{has_height-from_value}
use Rattle.mar_model.specs.Metadata.{Pair, first_pair, pair_of}
use Rattle.mar_model.specs.Chain.{Chain}
use Rattle.mar_model.specs.Answers.{sends_of}
use Rattle.mar_model.specs.Config.{Config}
use Rattle.mar_model.specs.Event.{Event, cutoff_after, no_floor, processed_after, undrained_blocks}
use Rattle.mar_model.specs.Faults.{Fault, is_by_value, next_after}
use Rattle.mar_model.specs.Held.{Ending, LeavesStore, Seen, blocks_left, cache_left, certs_left, seen}
use Rattle.mar_model.specs.Lives.{Cuts, NotBelow, Reached, is_dropped_ack, is_refused_floor, reached_after, AsksUntilCut}
use Rattle.mar_model.specs.Moves.{IsStarted, IsStill, handed_report, next_in, with_handed}
use Rattle.mar_model.specs.Node.{Ended, IsGood, Node, Rest}
use Rattle.mar_gate.specs.Writing.{total_writes}
use Rattle.mar_model.specs.Promise.{FinishesStep, IsGoodUntold, IsLawfulStep, StepsOrCuts, Waiting, asked_since, heard_by, made_of, node_of, knowing, IsKnownSince}
use Rattle.mar_model.specs.Requests.{own_asks, IsRepairFetch, is_pass, may_repair, repairs_twice}
use Rattle.mar_model.specs.Sound.{IsSafePair}
use Rattle.mar_model.specs.Step.{AreHandedOf, HandedBlock, HandedFrom, Report, Steps, handed_blocks}
use Rattle.mar_model.proofs.Cutting.{Cuts-left, LeavesStores, MayBeLeft, contains_first, keeps_heights, keeps_sure, never, only_one, some_from_first}
use Rattle.mar_model.proofs.CacheOver.{LeavesCache-still}
use Rattle.mar_model.proofs.FloorSafety.{next_after-is}
use Rattle.mar_model.proofs.Growing.{LeavesStore-then}
use Rattle.mar_model.proofs.Handing.{AreHandedOf-values, HandedFrom-held, Hears-then, Ran, sure_below, sure_value, with_handed-none, Stops}
use Rattle.mar_model.proofs.OutstandingLemmas.{first_unprocessed-rises}
use Rattle.mar_model.proofs.Reaching.{HandsSure-next, HandsSure-none, IsGood-handed, Reaches, ReachesBy, Rest-still, Steps-reached, Steps-started, handed_after_tips, next_is, tips_before_handed, tips_of_both, unpassed}
use Rattle.mar_model.proofs.SyncTickets.{IsTicketed}
use Rattle.mar_model.proofs.Soundness.{from_none, IsSafePair-kept, own_pair_safe, untold}

module _ {P E : Type 0} (config : Config) (chain : Chain) (a m : Seen P E) (e : Event) (buffer : List Block) (waiting : Waiting) (tips : List Report) (more : List Call)
    (window : config.window ≡ m.life.sizes.window) (step : IsLawfulStep config chain (node_of a buffer waiting) (e ∷ [])) (unrefused : (fault : Fault) → is_refused_floor e fault ≡ false)
    (reach : ReachesBy config chain a e buffer waiting tips more m) (good : IsGood config chain (node_of m buffer waiting)) (ticketed : IsTicketed a.held.writes m.held.writes) (sure_held : KeepsValues m.held.blocks.sure m.held.blocks.held)
  where
    abbrev pub n : Node
    n = node_of a buffer waiting

    -- the node before, once some tip is told
    good_before : IsGoodUntold config chain n
    good_before = untold config chain n e step.good

    -- all of it was asked
    asked : AsksUntilCut config chain n e no_floor (own_asks config n e no_floor ++ more)
    asked = by reach.fetches
      where
        by : (more ≡ []) ⊎ (IsTrue (may_repair e) × AllByRecursion (IsRepairFetch chain) more) → AsksUntilCut config chain n e no_floor (own_asks config n e no_floor ++ more)
        by (inl none) = inl ([], sym (append-nil (own_asks config n e no_floor ++ more) ∙ (ap (λ xs. own_asks config n e no_floor ++ xs) none ∙ append-nil (own_asks config n e no_floor))))
        by (inr (may, fetches)) = inr (may, more, refl, fetches)

    -- the pair of the reached node is what the event gives to the metadata
    pub pair_is : pair_of (processed_after n e no_floor) (cutoff_after config n e no_floor) ≡ pair_of m.held.processed m.held.cutoff
    pair_is = ap₂ pair_of (sym reach.comes.processed) (sym reach.comes.cutoff)

    not_below : NotBelow (option_map height_in a.held.processed) (option_map height_in m.held.processed)
    not_below =
        let before : next_after (option_map height_in a.held.processed) ≡ first_unprocessed a.held.processed = next_after-is a.held.processed in
        let after : next_after (option_map height_in m.held.processed) ≡ first_unprocessed m.held.processed = next_after-is m.held.processed in
        let rises : first_unprocessed a.held.processed ≤ first_unprocessed m.held.processed = subst (λ p. first_unprocessed a.held.processed ≤ first_unprocessed p) (sym reach.comes.processed) (first_unprocessed-rises n e no_floor good_before.1.heights.delivery.consecutive) in
        omega arith

    module _ (handed : List HandedBlock) (x : Ending) (stops : Stops m handed x) where
      abbrev left : Ended
      left = x.remains.ended

      m_blocks : LeavesStore m.held.blocks 0 [] (blocks_left left)
      m_blocks = stops.lost.leaves.blocks

      leaves : LeavesStores config chain n e left
      leaves = record {
        put_blocks = reach.comes.blocks.put;
        put_certs = reach.comes.certs.put;
        blocks = LeavesStore-then a.held.blocks reach.comes.blocks.put m.held.blocks (blocks_left left) reach.comes.blocks.grown m_blocks;
        certs = LeavesStore-then a.held.certs reach.comes.certs.put m.held.certs (certs_left left) reach.comes.certs.grown stops.lost.leaves.certs;
        of_blocks = reach.comes.blocks.of_chain;
        of_certs = reach.comes.certs.of_chain;
        own_blocks = reach.comes.blocks.own;
        own_certs = reach.comes.certs.own;
        put_cached = reach.comes.cache.put;
        prunes = reach.comes.cache.prunes;
        own_cache = reach.comes.cache.own;
        cache = LeavesCache-still (left_of a.held.cache.kept) a.held.lowests reach.comes.cache.put reach.comes.cache.prunes (left_of m.held.cache.kept) m.held.lowests (cache_left left) left.lowests reach.comes.cache.leaves stops.lost.leaves.cache;
      }

      kept : KeepsValues m.held.blocks.sure left.blocks_sure
      kept = keeps_sure m.held.blocks [] (blocks_left left) m_blocks

      sure_from_held : (h : ℕ) → AllByRecursion (λ k. h < k) m.held.writes.uncovered → IsTrue (has_height m.held.blocks.held h) → IsTrue (has_height left.blocks_sure h)
      sure_from_held h low has = keeps_heights m.held.blocks.sure left.blocks_sure kept h (sure_below m.held.blocks m.held.writes.uncovered h good.heights.stores.sure_blocks low has)

      value_from_held : (h : ℕ) (b : Block) → AllByRecursion (λ k. h < k) m.held.writes.uncovered → value_at m.held.blocks.held h ≡ Some b → value_at left.blocks_sure h ≡ Some b
      value_from_held h b low is = kept h b (sure_value m.held.blocks.held m.held.blocks.sure h b sure_held (sure_below m.held.blocks m.held.writes.uncovered h good.heights.stores.sure_blocks low (has_height-from_value m.held.blocks.held h b is)) is)

      blocks_are : handed_blocks (tips ++ map handed_report handed) ≡ handed
      blocks_are = handed_after_tips tips handed reach.comes.are_tips

      first : first_pair left.meta ≡ Some (pair_of m.held.processed m.held.cutoff)
      first = stops.lost.leaves.pairs.first ∙ ap first_pair good.heights.own_pair

      in_order : HandedFrom left.blocks_sure a.life.next_ack (next_after (option_map height_in m.held.processed) + length (undrained_blocks n e)) handed
      in_order =
          subst (λ k. HandedFrom left.blocks_sure a.life.next_ack (k + length (undrained_blocks n e)) handed) (sym (next_after-is m.held.processed))
          (subst (λ o. HandedFrom left.blocks_sure a.life.next_ack (first_unprocessed m.held.processed + length o) handed) reach.comes.kept
          (subst (λ t. HandedFrom left.blocks_sure t (first_unprocessed m.held.processed + length m.life.out) handed) reach.comes.next_ack
          (subst (λ k. HandedFrom left.blocks_sure m.life.next_ack k handed) (next_is config chain m buffer waiting good)
          (HandedFrom-held m.held.blocks.held left.blocks_sure m.held.writes.uncovered m.life.next_ack (next_in m) handed sure_from_held stops.below_barrier stops.next))))

      each : (p : Pair) → Contains left.meta p → MayBeLeft config chain a e buffer waiting left.blocks_sure p
      each p has = inr (pair_is ∙ is, subst (IsSafePair chain left.blocks_sure) is safe, subst (λ q. NotBelow (option_map height_in a.held.processed) q.processed) is not_below)
        where
          is : pair_of m.held.processed m.held.cutoff ≡ p
          is = only_one (pair_of m.held.processed m.held.cutoff) p (subst (λ ps. Contains ps p) (append-nil m.held.pairs ∙ good.heights.own_pair) (stops.lost.leaves.pairs.within p has))

          safe : IsSafePair chain left.blocks_sure (pair_of m.held.processed m.held.cutoff)
          safe = IsSafePair-kept chain 0 m.held.blocks.sure left.blocks_sure (pair_of m.held.processed m.held.cutoff)
              (λ h low there. keeps_heights m.held.blocks.sure left.blocks_sure kept h there) (from_none (option_map height_in m.held.processed))
              (own_pair_safe chain (node_of m buffer waiting) good.heights.delivery.anchored good.of_chain.floor_safe)

      abbrev reached : Reached
      reached = reached_after n e no_floor

      processed_is : reached.processed ≡ option_map height_in m.held.processed
      processed_is = ap (option_map height_in) (sym reach.comes.processed)

      -- a life that ended while blocks were handed over is cut there
      pub Cuts-handing : Cuts config chain n (e ∷ []) (made_of (tips ++ map handed_report handed) (own_asks config n e no_floor ++ more)) x.fault left
      Cuts-handing =
          Cuts-left config chain a e buffer waiting good_before.0 good_before.1 reach.comes.no_part.no_effect [] (sends_of n e, refl) (tips ++ map handed_report handed) (own_asks config n e no_floor ++ more) m.life.tip reached x.fault left
          (tips_before_handed a.life.tip m.life.tip tips handed reach.comes.are_tips reach.comes.tips_rise) (tips_of_both chain tips handed reach.comes.are_tips reach.comes.tips_chain)
          (inr (refl, subst (Contains (map (λ p. p.processed) left.meta)) (sym processed_is) (contains_first left.meta (pair_of m.held.processed m.held.cutoff) first)))
          (subst (λ p. HandedFrom left.blocks_sure a.life.next_ack (next_after p + length (undrained_blocks n e)) (handed_blocks (tips ++ map handed_report handed))) (sym processed_is)
          (subst (λ xs. HandedFrom left.blocks_sure a.life.next_ack (next_after (option_map height_in m.held.processed) + length (undrained_blocks n e)) xs) (sym blocks_are) in_order))
          (subst (AreHandedOf chain left.blocks_sure) (sym blocks_are) (AreHandedOf-values chain m.held.blocks.held left.blocks_sure m.held.writes.uncovered m.life.next_ack (next_in m) handed good.of_chain.stores.held_blocks value_from_held stops.below_barrier stops.next))
          leaves (some_from_first left.meta (pair_of m.held.processed m.held.cutoff) first)
          (inr (stops.unsynced, first ∙ ap Some (sym pair_is)))
          each
          (λ is. absurd (never (is_by_value x.fault) stops.no_value is))
          (never (is_refused_floor e x.fault) (unrefused x.fault))
          (λ is. absurd (never (is_dropped_ack x.fault) stops.undropped is))
          asked

    -- what a dispatch from the reached node makes of the step
    pub dispatched-by : (told told1 told' : Option (List Report)) (heard heard' : Option (List Call)) (result : Result (Seen P E) Ending) → Hears told tips told1 → Ran m told1 told' result → Hears heard (own_asks config n e no_floor ++ more) heard' → StepsOrCuts config chain n (e ∷ []) (heard_by told heard) (heard_by told' heard') result
    dispatched-by told told1 told' heard heard' (Ok d) tips_heard (handed, handed_heard, ran) asks_heard = record {
      made = made_of (tips ++ map handed_report handed) (own_asks config n e no_floor ++ more);
      heard = record { reports = Hears-then told told1 told' tips (map handed_report handed) tips_heard handed_heard; asks = asks_heard; sends = refl; answers = refl };
      steps = λ certified known. subst (λ s. Steps config chain n (e ∷ []) (made_of (tips ++ map handed_report handed) (own_asks config n e no_floor ++ more)) (node_of (seen s.held s.life) buffer (knowing certified (asked_since waiting (own_asks config n e no_floor ++ more))))) (sym ran.same)
          (Steps-reached config chain a m e buffer waiting tips more handed step.reported.0 good_before.1.of_chain.asks.requests reach (HandsSure-next config chain m buffer waiting handed good sure_held ran.next ran.below_barrier) certified (subst (λ s. IsKnownSince config n e s.life.tip certified) ran.same known) ticketed handed_good
          (Rest-still config chain (with_handed m handed) buffer waiting step.lawful window handed_good (subst IsStill ran.same ran.still)));
    }
      where
        handed_good : IsGood config chain (node_of (with_handed m handed) buffer waiting)
        handed_good = IsGood-handed config chain m buffer waiting handed window good ran.next ran.below_barrier ran.room
    dispatched-by told told1 told' heard heard' (Err x) tips_heard (handed, handed_heard, stops) asks_heard = record {
      made = made_of (tips ++ map handed_report handed) (own_asks config n e no_floor ++ more);
      heard = record { reports = Hears-then told told1 told' tips (map handed_report handed) tips_heard handed_heard; asks = asks_heard; sends = refl; answers = refl };
      cuts = Cuts-handing handed x stops;
    }

    -- what a step without a dispatch makes of it, where the reached node rests
    pub undispatched-by : (told told' : Option (List Report)) (heard heard' : Option (List Call)) → Hears told tips told' → Hears heard (own_asks config n e no_floor ++ more) heard' → Rest config.window (node_of m buffer waiting) → FinishesStep config chain n (e ∷ []) (heard_by told heard) (heard_by told' heard') m.held m.life
    undispatched-by told told' heard heard' tips_heard asks_heard rests = record {
      made = made_of tips (own_asks config n e no_floor ++ more);
      heard = record { reports = tips_heard; asks = asks_heard; sends = refl; answers = refl };
      steps = λ certified known. subst (λ rs. Steps config chain n (e ∷ []) (made_of rs (own_asks config n e no_floor ++ more)) (node_of (seen m.held m.life) buffer (knowing certified (asked_since waiting (own_asks config n e no_floor ++ more))))) (append-nil tips)
          (subst (λ s. Steps config chain n (e ∷ []) (made_of (tips ++ []) (own_asks config n e no_floor ++ more)) (node_of (seen s.held s.life) buffer (knowing certified (asked_since waiting (own_asks config n e no_floor ++ more))))) (with_handed-none m)
          (Steps-reached config chain a m e buffer waiting tips more [] step.reported.0 good_before.1.of_chain.asks.requests reach (HandsSure-none chain m) certified known ticketed (subst (λ s. IsGood config chain (node_of s buffer waiting)) (sym (with_handed-none m)) good) (subst (λ s. Rest config.window (node_of s buffer waiting)) (sym (with_handed-none m)) rests)));
    }

-- An event that wrote ends with a sync that covers what it wrote.
module _ {P E : Type 0} (config : Config) (chain : Chain) (a m : Seen P E) (e : Event) (buffer : List Block) (waiting : Waiting) (tips : List Report) (more : List Call) (step : IsLawfulStep config chain (node_of a buffer waiting) (e ∷ [])) (reach : ReachesBy config chain a e buffer waiting tips more m) where
  pub started-by : (new : Seen P E) → IsStarted m new → total_writes a.held.writes < total_writes m.held.writes → 0 < length m.held.writes.uncovered → IsGood config chain (node_of new buffer waiting) → Rest config.window (node_of new buffer waiting) → (told told' : Option (List Report)) (heard heard' : Option (List Call)) → Hears told tips told' → Hears heard (own_asks config (node_of a buffer waiting) e no_floor ++ more) heard' → FinishesStep config chain (node_of a buffer waiting) (e ∷ []) (heard_by told heard) (heard_by told' heard') new.held new.life
  started-by new is written some good rests told told' heard heard' tips_heard asks_heard = record {
    made = made_of tips (own_asks config (node_of a buffer waiting) e no_floor ++ more);
    heard = record { reports = tips_heard; asks = asks_heard; sends = refl; answers = refl };
    steps = λ certified known. subst (λ rs. Steps config chain (node_of a buffer waiting) (e ∷ []) (made_of rs (own_asks config (node_of a buffer waiting) e no_floor ++ more)) (node_of (seen new.held new.life) buffer (knowing certified (asked_since waiting (own_asks config (node_of a buffer waiting) e no_floor ++ more))))) (append-nil tips)
        (Steps-started config chain a m e buffer waiting tips more [] step.reported.0 (untold config chain (node_of a buffer waiting) e step.good).1.of_chain.asks.requests reach (HandsSure-none chain m) certified (subst (λ s. IsKnownSince config (node_of a buffer waiting) e s.life.tip certified) is known) new (subst (λ s. IsStarted s new) (sym (with_handed-none m)) is) written some good rests);
  }

-- AN EVENT THAT ASKS FOR NO MORE

module _ {P E : Type 0} (config : Config) (chain : Chain) (a m : Seen P E) (e : Event) (buffer : List Block) (waiting : Waiting) (tips : List Report)
    (window : config.window ≡ m.life.sizes.window) (step : IsLawfulStep config chain (node_of a buffer waiting) (e ∷ [])) (unrefused : (fault : Fault) → is_refused_floor e fault ≡ false)
    (no_pass : (n' : Node) → is_pass (node_of a buffer waiting) e no_floor n' ≡ false) (once : repairs_twice e no_floor ≡ false)
    (reach : Reaches config chain a e buffer waiting tips m) (good : IsGood config chain (node_of m buffer waiting)) (unwritten : total_writes m.held.writes ≤ total_writes a.held.writes) (sure_held : KeepsValues m.held.blocks.sure m.held.blocks.held)
  where
    more_none : (heard heard' : Option (List Call)) → Hears heard (own_asks config (node_of a buffer waiting) e no_floor) heard' → Hears heard (own_asks config (node_of a buffer waiting) e no_floor ++ []) heard'
    more_none heard heard' asks = subst (λ xs. Hears heard xs heard') (sym (append-nil (own_asks config (node_of a buffer waiting) e no_floor))) asks

    pub dispatched : (told told1 told' : Option (List Report)) (heard heard' : Option (List Call)) (result : Result (Seen P E) Ending) → Hears told tips told1 → Ran m told1 told' result
        → Hears heard (own_asks config (node_of a buffer waiting) e no_floor) heard' → StepsOrCuts config chain (node_of a buffer waiting) (e ∷ []) (heard_by told heard) (heard_by told' heard') result
    dispatched told told1 told' heard heard' result tips_heard ran asks =
        dispatched-by config chain a m e buffer waiting tips [] window step unrefused (unpassed config chain a e buffer waiting tips m no_pass once reach) good (inl unwritten) sure_held told told1 told' heard heard' result tips_heard ran (more_none heard heard' asks)

    pub undispatched : (told told' : Option (List Report)) (heard heard' : Option (List Call)) → Hears told tips told' → Hears heard (own_asks config (node_of a buffer waiting) e no_floor) heard'
        → Rest config.window (node_of m buffer waiting) → FinishesStep config chain (node_of a buffer waiting) (e ∷ []) (heard_by told heard) (heard_by told' heard') m.held m.life
    undispatched told told' heard heard' tips_heard asks rests =
        undispatched-by config chain a m e buffer waiting tips [] window step unrefused (unpassed config chain a e buffer waiting tips m no_pass once reach) good (inl unwritten) sure_held told told' heard heard' tips_heard (more_none heard heard' asks) rests
