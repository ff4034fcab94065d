-- What is the same in each of the small steps: nodes whose stores are settled, and events that store nothing.
use Rattle.std.proofs.Common.{◌≡◌, ◌≤◌, ℕ, List, [], ◌∷◌, ◌++◌, Contains, IsTrue, Some, None, option_map, false, true, nat_lt, drop, length, map, max, refl, sym, subst, ap, inl, lit≤, arith, ◌-◌, ◌+◌, ◌∙◌, ◌⊎◌, ⊎_elim, ◌==◌, Bool, Option, is_some, if◌then◌else◌, append-nil, inr}
use Rattle.std.specs.List.{AllByRecursion}
use Rattle.std.specs.Prelude.{IfSome, fold}
use Rattle.std.proofs.lemmas.Bool.Decides.{nat_tests}
use Rattle.std.proofs.lemmas.List.Elements.{Contains-append_left}
use Rattle.mar_cert.specs.Block.{Block}
use Rattle.mar_cert.specs.Finalization.{Finalization}
use Rattle.mar_key.specs.Processed.{height_in, height_of}
use Rattle.mar_store.specs.Changes.{KeepsValues}
use Rattle.mar_store.specs.Kept.{At, has_height, reopened_store, value_at}
use Rattle.mar_model.specs.Answers.{answers_of, certified_after, sends_of, subscriptions_after}
use Rattle.mar_model.specs.Cache.{AdvancesCache, answer_ticket, entries_put, finished_covers, first_verified, is_pruned, is_synced, lowest_after, started_syncs, tickets_from, without_cache_sync, witnessing_of}
use Rattle.mar_model.specs.Cached.{Cached, with_entry}
use Rattle.mar_model.specs.Chain.{Chain}
use Rattle.mar_model.specs.Event.{Event, awaited_after, cutoff_after, effect_of, is_query, life_started, no_floor, own_writes, processed_after, storing_of, sync_finished, told_finalization, undrained_blocks}
use Rattle.mar_model.specs.Faults.{event_fault}
use Rattle.mar_model.specs.OpenSyncs.{AreStillOpen, covered_by, without_ticket}
use Rattle.mar_model.specs.Metadata.{Pair, pair_of}
use Rattle.mar_model.specs.Node.{AreBlocksOf, AreFinalizationsOf, FloorSafe, IsCacheOf, IsGood, IsGoodDelivery, Node, empty_peers}
use Rattle.mar_model.specs.Requests.{IsGapIn, Passes, Repaired, is_pass, own_asks, repairs_twice}
use Rattle.mar_model.specs.Step.{Advances, AdvancesBy, AreHandedOf, AreTipsOf, HandsOver, IsStored, IsStoredLate, Made, Report, TipsFrom, finished_position, handed_blocks, outstanding_of, without_finished}
use Rattle.mar_model_tests.proofs.SmallChain.{config}
use Rattle.mar_model_tests.proofs.SmallEntries.{same_certificates, settled_of, settled_stores}
use Rattle.mar_model_tests.proofs.SmallFacts.{none_in, not_entered}

-- GOOD NODES

-- a node with these stores, of which all is sure, its own pair, and nothing beside them
abbrev pub settled : Node → List (At Block) → List (At Finalization) → List Cached → Node
settled n blocks certs entries = record n {
  blocks = reopened_store blocks;
  certs = reopened_store certs;
  meta = pair_of n.processed n.cutoff ∷ [];
  awaited = None;
  uncovered = [];
  cache = reopened_store entries;
  asked = [];
  peers = empty_peers 8;
}

pub settled_good : (chain : Chain) (n : Node) (blocks : List (At Block)) (certs : List (At Finalization)) (entries : List Cached)
    → IsGoodDelivery config.window blocks n.processed n.out → AreBlocksOf chain blocks → AreFinalizationsOf chain certs → IsCacheOf chain (reopened_store entries)
    → FloorSafe (option_map height_in n.processed) n.cutoff blocks chain → AllByRecursion (λ x. x.height ≤ n.tip) certs → IsGood config chain (settled n blocks certs entries)
settled_good chain n blocks certs entries delivery of_blocks of_certs of_entries safe told = record {
  heights = record {
    stores = settled_stores blocks certs;
    delivery = delivery;
    floor_clears = λ some. absurd cc;
    own_pair = refl;
    sync_open = λ more. absurd (omega arith);
  };
  of_chain = record {
    stores = settled_of chain blocks certs of_blocks of_certs;
    cache = of_entries;
    asks = record { requests = tt; ready = tt; overflow = tt };
    awaits = tt;
    not_at_hand = tt;
    floor_safe = safe;
    tip_reported = told;
  };
}

-- PASSES THAT ASK FOR NOTHING

-- where nothing is missing, a pass asks for nothing
nothing_missing : (n : Node) → ((k : ℕ) → IsTrue (has_height n.blocks.held k) → k ≤ 1) → ((h : ℕ) (f : Finalization) → value_at n.certs.held h ≡ Some f → IsTrue (has_height n.blocks.held h)) → Repaired config n []
nothing_missing n low certified = record {
  heights = λ h below gap all few. absurd (no_gap h gap);
  at_most = omega arith;
  only = tt;
  parent = λ b upper. absurd (no_gap (b.height - 1) upper.0);
  newest_block = λ h f there above certs blocks. inl (certified h f there);
}
  where
    no_gap : (h : ℕ) → IsGapIn n.blocks.held (height_of n.processed + 1) h → ⊥
    no_gap h (above, missing, k, below, held) = let most : k ≤ 1 = low k held in absurd (omega arith)

-- block 0 alone is held
pub first_held : (n : Node) (b : Block) → n.blocks.held ≡ record { height = 0; value = b } ∷ [] → n.certs.held ≡ [] → Repaired config n []
first_held n b blocks certs = nothing_missing n (subst (λ xs. (k : ℕ) → IsTrue (has_height xs k) → k ≤ 1) (sym blocks) low)
    (subst (λ xs. (h : ℕ) (f : Finalization) → value_at xs h ≡ Some f → IsTrue (has_height n.blocks.held h)) (sym certs) (λ h f there. absurd cc))
  where
    low : (k : ℕ) → IsTrue (has_height (record { height = 0; value = b } ∷ []) k) → k ≤ 1
    low k = by (0 == k) refl
      where
        by : (a : Bool) → (0 == k) ≡ a → IsTrue (is_some (if a then Some b else None)) → k ≤ 1
        by true is held = grind (arith, nat_tests)
        by false is held = absurd cc

-- blocks 0 and 1 are held, and the certificate of block 1
pub two_held : (n : Node) (b c : Block) (f : Finalization) → n.blocks.held ≡ record { height = 0; value = b } ∷ record { height = 1; value = c } ∷ [] → n.certs.held ≡ record { height = 1; value = f } ∷ [] → Repaired config n []
two_held n b c f blocks certs = nothing_missing n (subst (λ xs. (k : ℕ) → IsTrue (has_height xs k) → k ≤ 1) (sym blocks) low)
    (subst (λ xs. (h : ℕ) (g : Finalization) → value_at xs h ≡ Some g → IsTrue (has_height n.blocks.held h)) (sym certs)
    (subst (λ ys. (h : ℕ) (g : Finalization) → value_at (record { height = 1; value = f } ∷ []) h ≡ Some g → IsTrue (has_height ys h)) (sym blocks) certified))
  where
    low : (k : ℕ) → IsTrue (has_height (record { height = 0; value = b } ∷ record { height = 1; value = c } ∷ []) k) → k ≤ 1
    low k = by (0 == k) (1 == k) refl refl
      where
        by : (p q : Bool) → (0 == k) ≡ p → (1 == k) ≡ q → IsTrue (is_some (if p then Some b else if q then Some c else None)) → k ≤ 1
        by true q is other held = grind (arith, nat_tests)
        by false true is other held = grind (arith, nat_tests)
        by false false is other held = absurd cc

    certified : (h : ℕ) (g : Finalization) → value_at (record { height = 1; value = f } ∷ []) h ≡ Some g → IsTrue (has_height (record { height = 0; value = b } ∷ record { height = 1; value = c } ∷ []) h)
    certified h g = by (0 == h) (1 == h)
      where
        by : (p q : Bool) → ◌≡◌ {A = Option Finalization} (if q then Some f else None) (Some g) → IsTrue (is_some (if p then Some b else if q then Some c else None))
        by true q there = refl
        by false true there = refl
        by false false there = absurd cc

single : (e : Event) → repairs_twice e no_floor ≡ false
single (life_started f) = refl
single _ = refl

-- a step in which no pass runs, or one that asks for nothing
pub passes_none : (n : Node) (e : Event) (n' : Node) → (is_pass n e no_floor n' ≡ false) ⊎ Repaired config n' [] → Passes config n e no_floor n' []
passes_none n e n' quiet = record {
  first = [];
  second = [];
  split = refl;
  idle = λ is. refl;
  once = λ is. refl;
  repaired_first = λ twice none. absurd (let no : false ≡ true = sym (single e) ∙ twice in cc);
  repaired = λ pass none. ⊎_elim (λ idle. absurd (let no : false ≡ true = sym idle ∙ pass in cc)) (λ repaired. repaired) quiet;
}

-- EVENTS THAT STORE NOTHING

-- An event that stores and caches nothing, has no effect on a floor and tells of no finalization. No sync of the cache is open, and
-- its lowest epoch is and stays 0; what a prune covers may stay.
pub record StoresNothing (n : Node) (e : Event) : Type 0 where
  pub no_effect : effect_of config n e ≡ no_floor
  pub no_storing : storing_of n e ≡ None
  pub untold : told_finalization n e ≡ None
  pub no_query : is_query e ≡ false
  pub no_fault : event_fault config n e ≡ None
  pub no_puts : (after : List Cached) → entries_put config n after e no_floor ≡ []
  pub no_syncs : (n' : Node) → started_syncs n n' e ≡ []
  pub no_tickets : n.cache_syncs ≡ []
  pub lowest : n.lowest ≡ 0
  pub still_lowest : lowest_after config n e no_floor ≡ 0
  pub own_lowest : Contains n.lowests n.lowest

module _ (chain : Chain) (n : Node) (e : Event) (nothing : StoresNothing n e) (reports : List Report) (blocks_sure : List (At Block)) (certs_sure : List (At Finalization)) (meta : List Pair) where
  -- how many writes are covered after it
  abbrev pub covered : ℕ
  covered = max (max n.covered (finished_position n.syncs e)) 0

  -- the node after it, of which these are sure and may be left
  abbrev pub reached : Node
  reached = record n {
    blocks = record n.blocks { sure = blocks_sure };
    certs = record n.certs { sure = certs_sure };
    processed = processed_after n e no_floor;
    cutoff = cutoff_after config n e no_floor;
    meta = meta;
    out = undrained_blocks n e ++ map outstanding_of (handed_blocks reports);
    awaited = awaited_after n no_floor (cutoff_after config n e no_floor);
    covered = covered;
    uncovered = drop (covered - n.covered) (n.uncovered ++ []);
    syncs = without_finished e n.syncs;
    subscriptions = subscriptions_after n e no_floor;
    certified = certified_after n e no_floor n.tip;
    witnessed = (witnessing_of config n e no_floor).last;
    next_ack = n.next_ack + length (handed_blocks reports);
  }

  abbrev pub made : Made
  made = record { reports = reports; asks = own_asks config n e no_floor; sends = sends_of n e; answers = answers_of config n n.lowest e no_floor }

  none_written : own_writes n (storing_of n e) no_floor ≡ []
  none_written = ap (λ s. own_writes n s no_floor) nothing.no_storing

  -- what is cached stays
  none_covered : (d : Event) → finished_covers n d ≡ []
  none_covered (sync_finished t) = ap (covered_by t) nothing.no_tickets
  none_covered _ = refl

  none_open : (d : Event) → without_cache_sync d n.cache_syncs ≡ []
  none_open (sync_finished t) = ap (without_ticket t) nothing.no_tickets
  none_open _ = nothing.no_tickets

  cache_stays : AdvancesCache config n e no_floor reached
  cache_stays = record {
    kept = λ x there. inl (subst (λ xs. Contains (fold with_entry n.cache.held xs) x) (nothing.no_puts n.cache.held) there);
    nothing_else = λ x there. subst (λ xs. Contains (fold with_entry n.cache.held xs) x) (sym (nothing.no_puts n.cache.held)) there;
    stays_sure = λ x sure held. sure;
    stays = λ x there. inl there;
    first_stays = λ r b first held. subst (λ xs. first_verified (fold with_entry n.cache.held xs) r ≡ Some b) (nothing.no_puts n.cache.held) first;
    synced = λ x is held. absurd (let none : IsTrue (is_synced e [] x) = subst (λ xs. IsTrue (is_synced e xs x)) (nothing.no_puts n.cache.held) is in cc);
    finished = λ x there held. absurd (none_in x (subst (λ xs. Contains xs x) (none_covered e) there));
    lowest = nothing.lowest ∙ sym nothing.still_lowest;
    lowests = λ k there. Contains-append_left n.lowests (n.lowest ∷ []) k there;
    own_lowest = nothing.own_lowest;
    cache_syncs = record {
      still = [];
      still_open = subst (λ syncs. AreStillOpen (is_pruned config n e no_floor) syncs []) (sym (none_open e)) tt;
      started = [];
      started_open = subst (λ tests. AreStillOpen (λ x. false) (tickets_from n.next_sync (answer_ticket e) n.cache.held tests) []) (sym (nothing.no_syncs reached)) tt;
      are = nothing.no_tickets;
    };
    witnessed = refl;
  }

  -- it goes on from there, where its blocks are the next ones and sure, no tip is told and nothing sure is lost
  pub stores_nothing : HandsOver n (undrained_blocks n e) reports reached → AreHandedOf chain blocks_sure (handed_blocks reports) → KeepsValues n.blocks.sure blocks_sure → KeepsValues n.certs.sure certs_sure → TipsFrom n.tip reports n.tip → AreTipsOf chain reports → (is_pass n e no_floor reached ≡ false) ⊎ Repaired config reached [] → Advances config chain n e made reached
  stores_nothing hands hands_chain blocks_kept certs_kept tips tips_chain quiet = subst (λ fx. AdvancesBy config chain n e fx made reached) (sym nothing.no_effect) (record {
    hands = hands;
    hands_chain = hands_chain;
    processed = refl;
    cutoff = refl;
    blocks = record { held = λ h v above is. is; sure = λ h v is still. blocks_kept h v is };
    certs = record { held = λ h v above is. is; sure = λ h v is still. certs_kept h v is };
    may_blocks = λ x has. inl has;
    may_certs = λ x has. inl has;
    certificates = same_certificates n e reached nothing.untold refl;
    writes = record {
      repaired = [];
      by_repair = λ h. not_entered (nat_lt (height_of (processed_after n e no_floor)) h) (has_height n.blocks.held h) _;
      each_once = λ h. lit≤ tt;
      blocking = 0;
      within = omega arith;
      at_least = lit≤ tt;
      covered = refl;
      uncovered = sym (ap (λ ws. drop (covered - n.covered) (n.uncovered ++ (ws ++ []))) none_written);
      syncs = refl;
    };
    repairs = record { at_hand = λ h b is. absurd cc; with_finalization = λ h b is. absurd cc };
    unrepaired = λ is. refl;
    unblocked = λ is. refl;
    enters = record { blocks = λ h has. inl has; certs = λ h has. inl has };
    tips = tips;
    tips_chain = tips_chain;
    awaited = refl;
    cache = cache_stays;
    may_cached = λ x has. inl has;
    stored = subst (λ s. IfSome s (IsStored reached)) (sym nothing.no_storing) tt;
    stored_late = subst (λ s. IfSome s (IsStoredLate n no_floor reached)) (sym nothing.no_storing) tt;
    floor_stored = tt;
    query = λ is. absurd (let none : false ≡ true = sym nothing.no_query ∙ is in cc);
    no_fault = nothing.no_fault;
    beside = record {
      more = [];
      asks = sym (append-nil (own_asks config n e no_floor));
      passes = passes_none n e reached quiet;
      sends = refl;
      answers = refl;
      subscriptions = refl;
      certified = λ h c. refl;
      next_sync = sym (ap (λ xs. n.next_sync + length xs) (nothing.no_syncs reached) ∙ plus_none n.next_sync);
      untouched = refl;
    };
  })
    where
      plus_none : (k : ℕ) → k + 0 ≡ k
      plus_none k = omega arith
