-- What openings make of a line where no life runs.
use Rattle.std.proofs.Common.{Contains, List, None, Option, Some, [], ap, append-nil, arith, inl, inr, option_map, refl, subst, sym, ℕ, ◌*◌, ◌++◌, ◌+◌, ◌∷◌, ◌≡◌, ◌≤◌, ◌⊎◌}
use Rattle.std.specs.List.{filter_map}
use Rattle.std.proofs.lemmas.List.Elements.{Contains-append_cases, Contains-append_left, Contains-append_right}
use Rattle.mar_types.specs.declared.Sha256Digest.{Sha256Digest}
use Rattle.mar_cert.specs.Block.{Block}
use Rattle.mar_key.specs.Processed.{height_in}
use Rattle.mar_model.specs.Metadata.{Pair, pair_of}
use Rattle.mar_store.specs.Kept.{Kept}
use Rattle.mar_store.proofs.Lookups.{AllByRecursion-weaker}
use Rattle.mar_model.specs.Cached.{Cached, cached_block}
use Rattle.mar_model.specs.Chain.{Chain, IsBlockAt}
use Rattle.mar_model.specs.Config.{Config}
use Rattle.mar_model.specs.Event.{cutoff_after, effect_of, life_started, processed_after}
use Rattle.mar_model.specs.Faults.{Begin, Fault, event_fault, from_genesis, ticket_limit}
use Rattle.mar_model.specs.Held.{IsUsual, Seen}
use Rattle.mar_model.specs.Lives.{Cuts, CutsEvent, CutsReopening, Finds, IsOpeningFault, NotBelow, Picks, TakesUp}
use Rattle.mar_model.specs.Node.{CacheSync, Ended, Node}
use Rattle.mar_model.specs.Promise.{IsGoodUntold, IsLawfulOpening, IsLawfulStep, asked_since, knowing, known_blocks, node_of, none_waiting}
use Rattle.mar_model.specs.Step.{Made, Steps, nothing_made}
use Rattle.mar_model.specs.declared.fault.Fault.{Fault as FaultCode}
use Rattle.mar_model.specs.declared.fault.TicketKind.{TicketKind}
use Rattle.mar_model.specs.Views.{kind_of}
use Rattle.mar_model.proofs.Cutting.{only_one}
use Rattle.mar_model.proofs.GoodOpenings.{IsOpeningFault-none}
use Rattle.mar_script.specs.Plays.{IsBetween, IsLawfulLine, known_in, max_window}
use Rattle.mar_script.specs.Run.{OpenDone}
use Rattle.mar_script.specs.Script.{open_line}
use Rattle.mar_script.specs.Text.{running, stopped}
use Rattle.mar_script.specs.Shown.{plain_fault}
use Rattle.mar_replay.specs.Turn.{output_of}
use Rattle.mar_replay.specs.declared.play.Outcome.TheVariants as outcome
use Rattle.mar_model.proofs.EntryLists.{contains_none}
use Rattle.mar_model.proofs.KnownBlocks.{AreOne-within}
use Rattle.mar_replay.proofs.CachedLines.{begun_cached, found_cached, found_within, step_cached}
use Rattle.mar_replay.proofs.Lasting.{Undropped, undropped-start}
use Rattle.mar_replay.proofs.LineTurns.{cut_blocks, only_cut, usual}

-- a start tells no block
none_more : (xs : List Block) (b : Block) → Contains (xs ++ []) b → Contains xs b
none_more xs b has = subst (λ ys. Contains ys b) (append-nil xs) has

-- BEFORE THE START

-- the node that an opening finds has handed nothing over, and given no ticket
pub undropped-found : (config : Config) (e : Ended) (picks : Picks) (begin : Begin) (n : Node) → Finds config e picks begin n → Undropped n.out × (n.next_ack ≡ 0) × (n.next_sync ≡ 0)
undropped-found config e picks begin n finds = (subst (λ m. Undropped m.out) (sym finds.node) tt, ap (λ m. m.next_ack) finds.node, ap (λ m. m.next_sync) finds.node)

-- what an opening asks is asked of its line
pub lawful_opening : (config : Config) (chain : Chain) (e : Ended) (g : Block) (k : ℕ) → IsLawfulLine config chain k (stopped e) (open_line (from_genesis g)) → IsLawfulOpening config chain e (from_genesis g)
lawful_opening config chain e g k lawful = record {
  partition = lawful.partition;
  lawful = lawful.lawful;
  one = AreOne-within config.inner chain.blocks (g ∷ known_in chain (stopped e)) (λ b has. Contains-append_right (g ∷ []) (known_in chain (stopped e)) b (Contains-append_left chain.blocks ([] ++ filter_map cached_block e.cache_may) b has)) lawful.one;
  good = lawful.between.0;
  some_pair = lawful.between.1;
  genesis = λ b is. subst (IsBlockAt chain 0) (same b is) (lawful.genesis g refl);
}
  where
    same : (b : Block) → from_genesis g ≡ from_genesis b → g ≡ b
    same b is = cc

module _ (config : Config) (chain : Chain) (e : Ended) (picks : Picks) (g : Block) where
  -- an opening that was cut before its start
  pub opening_cut : (fault : FaultCode Sha256Digest) (left : Ended) → CutsReopening config chain e picks (from_genesis g) nothing_made (plain_fault fault) left → OpenDone config chain e picks (from_genesis g) (output_of nothing_made (outcome.Fault fault)) (stopped left)
  opening_cut fault left cuts = (plain_fault fault, refl, refl, inl cuts, refl)

  -- it has no fault that values call for
  pub opening_usual : (fault : FaultCode Sha256Digest) (k : ℕ) → IsLawfulLine config chain k (stopped e) (open_line (from_genesis g)) → IsUsual (plain_fault fault) ⊎ IsOpeningFault e picks (from_genesis g) (plain_fault fault) → IsUsual (plain_fault fault)
  opening_usual fault k lawful (inl own) = own
  opening_usual fault k lawful (inr faulty) = absurd (IsOpeningFault-none config chain e picks (from_genesis g) (plain_fault fault) (lawful_opening config chain e g k lawful) faulty)

  -- THE START

  module _ {P E : Type 0} (a : Seen P E) (finds : Finds config e picks (from_genesis g) (node_of a [] none_waiting)) where
    abbrev first : Node
    first = node_of a [] none_waiting

    -- the blocks that it may meet might be met before
    known_first : (b : Block) → Contains (known_blocks chain first) b → Contains (known_in chain (stopped e)) b
    known_first b has = by (Contains-append_cases chain.blocks ([] ++ filter_map cached_block (first.cache.held ++ first.cache.may)) b has)
      where
        by : Contains chain.blocks b ⊎ Contains ([] ++ filter_map cached_block (first.cache.held ++ first.cache.may)) b → Contains (known_in chain (stopped e)) b
        by (inl of_chain) = Contains-append_left chain.blocks ([] ++ filter_map cached_block e.cache_may) b of_chain
        by (inr cached) = Contains-append_right chain.blocks ([] ++ filter_map cached_block e.cache_may) b (found_within cached_block (first.cache.held ++ first.cache.may) e.cache_may (found_cached config e picks (from_genesis g) first finds) b cached)

    -- what is asked of its start
    pub lawful_start : (k : ℕ) → IsLawfulLine config chain k (stopped e) (open_line (from_genesis g)) → IsGoodUntold config chain first → IsLawfulStep config chain first (life_started None ∷ [])
    lawful_start k lawful good = record { lawful = lawful.lawful; one = AreOne-within config.inner (known_blocks chain first) (g ∷ known_in chain (stopped e)) (λ b has. Contains-append_right (g ∷ []) (known_in chain (stopped e)) b (known_first b has)) lawful.one; reported = (tt, tt); good = good; rests = tt }

    module _ (begun : Node) where
      -- what holds whatever is cached holds where the start begins
      begun_has : (Has : Node → Type 0) → ((kept : Kept Cached) (syncs : List CacheSync) → Has (record first { cache = kept; cache_syncs = syncs })) → (begun ≡ first) ⊎ TakesUp picks.cache first begun → Has begun
      begun_has Has each (inl is) = subst Has (sym is) (each first.cache first.cache_syncs)
      begun_has Has each (inr takes) = subst Has (sym takes.begun_is) (each takes.cache takes.syncs)

      -- an actor whose cache holds this, and has these open syncs
      abbrev with_kept : Kept Cached → List CacheSync → Seen P E
      with_kept kept syncs = record a { held = record a.held { cache = record a.held.cache { kept = kept; syncs = syncs } } }

      -- an opening that finished
      module _ (takes : TakesUp picks.cache first begun) (made : Made) (b : Seen P E) (kept : List Block) (steps : Steps config chain begun (life_started None ∷ []) made (node_of b kept (knowing b.certified (asked_since none_waiting made.asks)))) where
        pub opening_done : OpenDone config chain e picks (from_genesis g) (output_of made outcome.Done) (running (node_of b kept (knowing b.certified (asked_since none_waiting made.asks))))
        opening_done = (made, record { first = first; finds = finds; begun = begun; takes = takes; start = steps }, refl, refl)

        pub opening_between : (k : ℕ) → b.life.next_ack ≤ max_window * (k + 1) → b.held.writes.next_sync ≤ 2 * (k + 1) → IsBetween config chain (k + 1) (running (node_of b kept (knowing b.certified (asked_since none_waiting made.asks))))
        opening_between k tickets sync_tickets = (
          steps.good,
          steps.rests,
          record {
            tickets = tickets;
            sync_tickets = sync_tickets;
            answer_tickets = omega arith;
          },
        )

        pub opening_undropped : Undropped b.life.out
        opening_undropped = begun_has (λ n. Steps config chain n (life_started None ∷ []) made (node_of b kept (knowing b.certified (asked_since none_waiting made.asks))) → Undropped b.life.out)
            (λ c syncs started. undropped-start config chain (with_kept c syncs) [] none_waiting made (node_of b kept (knowing b.certified (asked_since none_waiting made.asks))) started (undropped-found config e picks (from_genesis g) first finds).0) (inr takes) steps

        -- no block is cached behind it but what might be left
        pub opening_cached : (c : Block) → Contains (filter_map cached_block (b.held.cache.kept.held ++ b.held.cache.kept.may)) c → Contains (filter_map cached_block e.cache_may) c
        opening_cached c has =
            found_within cached_block (begun.cache.held ++ begun.cache.may) e.cache_may (λ x there. found_cached config e picks (from_genesis g) first finds x (Contains-append_right first.cache.held first.cache.may x (begun_cached picks.cache first begun takes x there))) c
            (none_more _ c (step_cached config chain begun (life_started None) [] made (node_of b kept (knowing b.certified (asked_since none_waiting made.asks))) (λ fx after x put. contains_none x put) steps c has))

      -- the pairs of its start
      abbrev later : List Pair
      later = pair_of begun.processed begun.cutoff ∷ pair_of (processed_after begun (life_started None) (effect_of config begun (life_started None))) (cutoff_after config begun (life_started None) (effect_of config begun (life_started None))) ∷ []

      -- an opening that was cut in its start
      module _ (takes : (begun ≡ first) ⊎ TakesUp picks.cache first begun) (made : Made) (fault : FaultCode Sha256Digest) (left : Ended) (cuts : Cuts config chain begun (life_started None ∷ []) made (plain_fault fault) left) where
        pub start_cut : IsGoodUntold config chain first → OpenDone config chain e picks (from_genesis g) (output_of made (outcome.Fault fault)) (stopped left)
        start_cut good = (plain_fault fault, refl, refl, inr (record { first = first; finds = finds; begun = begun; takes = takes; cut = from_left (only_cut config chain begun (life_started None) made (plain_fault fault) left cuts) }), refl)
          where
            own_pair : begun.meta ≡ pair_of begun.processed begun.cutoff ∷ []
            own_pair = begun_has (λ n. n.meta ≡ pair_of n.processed n.cutoff ∷ []) (λ c syncs. good.1.heights.own_pair) takes

            -- the pair of the opened node is the one that its start stands on
            pair_before : (p : Pair) → Contains (begun.meta ++ later) p → Contains (e.meta ++ later) p
            pair_before p has = by (Contains-append_cases begun.meta later p has)
              where
                by : Contains begun.meta p ⊎ Contains later p → Contains (e.meta ++ later) p
                by (inl own) = Contains-append_right e.meta later p (0, omega arith, only_one (pair_of begun.processed begun.cutoff) p (subst (λ ps. Contains ps p) own_pair own))
                by (inr later_one) = Contains-append_right e.meta later p later_one

            from_left : CutsEvent config chain begun.meta (option_map height_in begun.processed) begun (life_started None) made (plain_fault fault) left → CutsEvent config chain e.meta None begun (life_started None) made (plain_fault fault) left
            from_left cut = record {
              tip = cut.tip;
              tips = cut.tips;
              tips_chain = cut.tips_chain;
              reached = cut.reached;
              reached_is = cut.reached_is;
              in_order = cut.in_order;
              hands_chain = cut.hands_chain;
              leaves = record {
                sure_blocks = cut.leaves.sure_blocks;
                sure_certs = cut.leaves.sure_certs;
                sure_cache = cut.leaves.sure_cache;
                lowests = cut.leaves.lowests;
                some_pair = cut.leaves.some_pair;
                pairs = AllByRecursion-weaker _ _ pair_before left.meta cut.leaves.pairs;
                good = cut.leaves.good;
              };
              may = cut.may;
              asks = cut.asks;
              sends = cut.sends;
              answers = cut.answers;
              first_pair = cut.first_pair;
              no_lower = AllByRecursion-weaker _ (λ p. NotBelow None p.processed) (λ p any. omega arith) left.meta cut.no_lower;
              cause = cut.cause;
              refused = cut.refused;
              unsynced = cut.unsynced;
            }

        -- no value calls for its fault
        pub start_usual : ((kind : TicketKind) → plain_fault fault ≡ ticket_limit (kind_of kind) → ⊥) → IsUsual (plain_fault fault)
        start_usual limit = usual fault (λ by_value. never (event_fault config begun (life_started None)) (begun_has (λ n. event_fault config n (life_started None) ≡ None) (λ c syncs. refl) takes) ((only_cut config chain begun (life_started None) made (plain_fault fault) left cuts).cause by_value)) limit
          where
            never : (o : Option Fault) → o ≡ None → o ≡ Some (plain_fault fault) → ⊥
            never o p q = absurd cc

        -- and no block more is left cached
        pub start_cached : (c : Block) → Contains (filter_map cached_block left.cache_may) c → Contains (filter_map cached_block e.cache_may) c
        start_cached c has = found_within cached_block begun.cache.may e.cache_may (λ x there. found_cached config e picks (from_genesis g) first finds x (Contains-append_right first.cache.held first.cache.may x (by takes x there))) c
            (none_more _ c (cut_blocks config chain begun (life_started None) [] made (plain_fault fault) left (λ fx after x put. contains_none x put) cuts c has))
          where
            by : (begun ≡ first) ⊎ TakesUp picks.cache first begun → (x : Cached) → Contains begun.cache.may x → Contains first.cache.may x
            by (inl is) x may = subst (λ n. Contains n.cache.may x) is may
            by (inr taken) x may = begun_cached picks.cache first begun taken x (Contains-append_right begun.cache.held begun.cache.may x may)
