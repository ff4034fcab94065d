-- A start that took up its cache, with the pass of repair and the sync behind it: what is promised of it.
use Rattle.std.proofs.Common.{◌≡◌, inr, ⊎_elim, ◌∷◌, [], List, ◌++◌, length, Contains, IsTrue, Option, None, Result, Ok, Err, MatchResult, true, false, option_map, ℕ, ◌≤◌, arith, refl, sym, ◌∙◌, ap, ap₂, subst, append-nil}
use Rattle.std.specs.List.{AllByRecursion, filter_map}
use Rattle.std.proofs.lemmas.List.Elements.{Contains-append_cases, Contains-append_left, Contains-append_right}
use Rattle.mar_types.specs.Epochs.{Epochs}
use Rattle.mar_cert.specs.Block.{Block}
use Rattle.mar_gate.specs.Writing.{Writing}
use Rattle.mar_key.specs.Hears.{Hears}
use Rattle.mar_key.specs.Processed.{height_in}
use Rattle.mar_store.specs.Kept.{has_height}
use Rattle.mar_store.proofs.Lookups.{AllByRecursion-contains, AllByRecursion-from_contains}
use Rattle.mar_model.specs.Acts.{AreLawful, SyncsBoth, SyncsUncovered, caches, load_cache}
use Rattle.mar_model.specs.AllEntries.{LoadsEntries}
use Rattle.mar_model.specs.CacheCalls.{none_goes}
use Rattle.mar_model.specs.Cached.{Cached, cached_block, cached_finalization}
use Rattle.mar_model.specs.Chain.{Chain}
use Rattle.mar_model.specs.Config.{Config}
use Rattle.mar_model.specs.Event.{Event, life_started}
use Rattle.mar_model.specs.Held.{Ending, Grew, Held, HeldCache, Remembered, Seen, nothing_written}
use Rattle.mar_model.specs.Lives.{ArePicked, TakesUp}
use Rattle.mar_model.specs.Metadata.{pair_of}
use Rattle.mar_model.specs.Moves.{IsRead, newest_tip, newest_tips, with_newest}
use Rattle.mar_model.specs.Node.{AreBlocksOf, AreCachedOf, AreFinalizationsOf, FloorSafe, IsCacheOf, IsFinalized, IsGood}
use Rattle.mar_model.specs.OpenSyncs.{AreStillOpen}
use Rattle.mar_model.specs.Promise.{AreOne, CutsStart, FinishesStart, IsLawfulStep, IsSetTo, KeepsStart, StepsOrCuts, Waiting, heard_by, known_blocks, node_of}
use Rattle.mar_model.specs.Ran.{DoesTask, RunsPass, does}
use Rattle.mar_model.specs.Scene.{Scene, Window}
use Rattle.mar_model.specs.Step.{Report}
use Rattle.mar_model.specs.Stored.{newest}
use Rattle.mar_model.proofs.Blocking.{ReachesBy-synced, none_waits, synced_both}
use Rattle.mar_model.proofs.Cutting.{keeps_heights}
use Rattle.mar_model.proofs.Filtered.{all_found_within}
use Rattle.mar_model.proofs.FinalizationEvent.{nested_heights}
use Rattle.mar_model.proofs.FloorSafety.{FloorSafe-still, KeepsHeightsFrom}
use Rattle.mar_model.proofs.FoundBlocks.{chain_known}
use Rattle.mar_model.proofs.Handing.{Hears-then, Ran}
use Rattle.mar_model.proofs.PassFacts as facts
use Rattle.mar_model.proofs.PassOfChain.{Passed, passed}
use Rattle.mar_model.proofs.PassRan.{RowRan}
use Rattle.mar_model.proofs.PassReached as reached
use Rattle.mar_model.proofs.Promises.{dispatched-by}
use Rattle.mar_model.proofs.Reaching.{PutsOwn-may, Reaches, ReachesBy}
use Rattle.mar_model.proofs.StartCuts.{HasToldNewest, with_taken}
use Rattle.mar_model.proofs.StartEvent.{IsLawfulStep-begun, Reaches-start}
use Rattle.mar_model.proofs.StillGood.{IsGood-grown}
use Rattle.mar_model.proofs.SyncPromise.{at}
use Rattle.mar_model.proofs.Tips.{newest_tip-high}

module _ {P E : Type 0} (life : Remembered P E) (epochs : Epochs) (inner : List ℕ → List ℕ) (buffer : List Block) (s m n : Scene) (law : AreLawful s.held) (told : HasToldNewest inner s m) (did : DoesTask inner (does (caches load_cache)) m n)
    (t : Scene) (pass : RunsPass inner buffer n t) (lawful_t : AreLawful t.held) (v : Held) (syncs : SyncsUncovered t.held.writes.uncovered t.held v) (grew : Grew t.held nothing_written v) (lawful_v : AreLawful v) where
  abbrev a : Seen P E
  a = with_taken life epochs inner buffer s m n told did

  abbrev e : Event
  e = life_started None

  abbrev new : Scene
  new = record t { held = v }

  both : SyncsBoth t.held v
  both = synced_both t.held v lawful_t syncs

  cache_is : m.held.cache ≡ s.held.cache
  cache_is = ap (λ (y : Scene). y.held.cache) told.same

  held_n : n.held ≡ record s.held { cache = n.held.cache; watches = n.held.watches }
  held_n = did.0.same ∙ ap (λ (y : Scene). record y.held { cache = n.held.cache; watches = n.held.watches }) told.same

  life_n : n.life ≡ record s.life { tip = newest_tip s.life.tip (newest s.held.certs.held) }
  life_n = ap (λ (y : Scene). y.life) did.3 ∙ ap (λ (y : Scene). y.life) told.same

  read : IsRead (with_newest a) (at life n)
  read = ap (at life) (ap (λ h. record n { held = h }) held_n) ∙ ap (λ l. at life (record n { held = record s.held { cache = n.held.cache; watches = n.held.watches }; life = l })) life_n

  module _ (config : Config) (chain : Chain) (waiting : Waiting) (set : IsSetTo config s.life.sizes epochs inner) (step : IsLawfulStep config chain (node_of a buffer waiting) (e ∷ [])) where
    abbrev tips : List Report
    tips = newest_tips config.inner a.life.tip (newest a.held.certs.held)

    reach : Reaches config chain a e buffer waiting tips (at life n)
    reach = Reaches-start config chain a buffer waiting law.blocks law.certs step.good (at life n) law.cached.own_lowest read step.one

    -- THE SCENE IN WHICH THE PASS BEGINS

    n_blocks : AreBlocksOf chain n.held.blocks.held
    n_blocks = subst (λ h. AreBlocksOf chain h.blocks.held) (sym held_n) step.good.1.of_chain.stores.held_blocks

    n_certs : AreFinalizationsOf chain n.held.certs.held
    n_certs = subst (λ h. AreFinalizationsOf chain h.certs.held) (sym held_n) step.good.1.of_chain.stores.held_certs

    finals : AreCachedOf chain n.held.cache.kept.held
    finals = all_found_within cached_finalization (λ g. IsFinalized chain g.round g.payload) n.held.cache.kept.held (n.held.cache.kept.held ++ n.held.cache.kept.may) (λ x has. Contains-append_left n.held.cache.kept.held n.held.cache.kept.may x has) step.good.1.of_chain.cache.finalizations

    abbrev known : List Block
    known = known_blocks chain (node_of a buffer waiting)

    one : AreOne inner known
    one = subst (λ i. AreOne i known) set.inner_is step.one

    abbrev cached : List Block
    cached = filter_map cached_block (n.held.cache.kept.held ++ n.held.cache.kept.may)

    filtered_left : (xs ys : List Cached) (c : Block) → Contains (filter_map cached_block xs) c → Contains (filter_map cached_block (xs ++ ys)) c
    filtered_left xs ys c has = AllByRecursion-contains (Contains (filter_map cached_block (xs ++ ys))) (filter_map cached_block xs) c
        (all_found_within cached_block (Contains (filter_map cached_block (xs ++ ys))) xs (xs ++ ys) (λ x there. Contains-append_left xs ys x there) (AllByRecursion-from_contains (Contains (filter_map cached_block (xs ++ ys))) (filter_map cached_block (xs ++ ys)) (λ x there. there))) has

    beside_known : (c : Block) → Contains (buffer ++ filter_map cached_block n.held.cache.kept.held) c → Contains known c
    beside_known c has = Contains-append_right chain.blocks (buffer ++ cached) c (⊎_elim (λ own. Contains-append_left buffer cached c own)
        (λ far. Contains-append_right buffer cached c (filtered_left n.held.cache.kept.held n.held.cache.kept.may c far)) (Contains-append_cases buffer (filter_map cached_block n.held.cache.kept.held) c has))

    went : Passed chain inner buffer n t
    went = passed config.epochs chain step.lawful inner buffer n t known one (λ c has. chain_known inner chain a buffer waiting c has) beside_known finals n_blocks n_certs pass

    abbrev ran : RowRan inner chain went.blocks went.certs went.tells went.asks n t
    ran = went.ran

    -- the blocks that are known behind it are the same
    one_t : AreOne inner (known_blocks chain (node_of (at life t) buffer waiting))
    one_t = subst (λ (c : HeldCache). AreOne inner (chain.blocks ++ (buffer ++ filter_map cached_block (c.kept.held ++ c.kept.may)))) (sym (ap (λ h. h.cache) ran.same)) one

    ends : reached.EndsInPass life config chain inner a e buffer waiting tips n t reach went
    ends = record {
      passes = λ k. refl;
      once = refl;
      may = refl;
      blocks_from_none = refl;
      certs_from_none = refl;
      sure_blocks = law.blocks.sure_held;
      sure_certs = law.certs.sure_held;
      lawful = did.2;
      cached_near = λ b has. has;
      finals_near = λ f has. has;
      own_held = λ h any. absurd (let no : false ≡ true = any in cc);
      stored_cert = tt;
      covered = ap (λ h. h.writes.covered) held_n;
      uncovered = ap (λ h. h.writes.uncovered) held_n ∙ sym (append-nil s.held.writes.uncovered);
      finalized = facts.finalized life config chain config.epochs step.lawful inner buffer waiting n t one_t n_certs finals went;
      law = facts.law life config chain config.epochs step.lawful inner buffer waiting n t one_t n_certs finals went (set.max_repair ∙ sym (ap (λ l. l.sizes.max_repair) life_n));
    }

    by_pass : ReachesBy config chain a e buffer waiting (tips ++ ran.tips) went.asks (at life t)
    by_pass = reached.Reaches-passed life config chain inner a e buffer waiting tips n t reach went ends

    covered_t : t.held.writes.covered ≡ s.held.writes.covered
    covered_t = ap (λ (w : Writing). w.covered) ran.writes ∙ ap (λ h. h.writes.covered) held_n

    by_sync : ReachesBy config chain a e buffer waiting (tips ++ ran.tips) went.asks (at life new)
    by_sync = ReachesBy-synced life config chain a buffer waiting (tips ++ ran.tips) went.asks t v by_pass both grew covered_t

    -- WHAT STANDS THEN

    unwaited : v.writes.uncovered ≡ []
    unwaited = ap (λ h. h.writes.uncovered) both.same ∙ none_waits t.held.writes

    life_t : t.life ≡ record s.life { tip = t.life.tip }
    life_t = ran.life ∙ ap (λ (l : Window). record l { tip = t.life.tip }) life_n

    cache_v : v.cache ≡ n.held.cache
    cache_v = ap (λ h. h.cache) both.same ∙ ap (λ h. h.cache) ran.same

    processed_v : v.processed ≡ s.held.processed
    processed_v = ap (λ h. h.processed) both.same ∙ (ap (λ h. h.processed) ran.same ∙ ap (λ h. h.processed) held_n)

    cutoff_v : v.cutoff ≡ s.held.cutoff
    cutoff_v = ap (λ h. h.cutoff) both.same ∙ (ap (λ h. h.cutoff) ran.same ∙ ap (λ h. h.cutoff) held_n)

    pairs_v : v.pairs ≡ s.held.pairs
    pairs_v = ap (λ h. h.pairs) both.same ∙ (ap (λ h. h.pairs) ran.same ∙ ap (λ h. h.pairs) held_n)

    sure_v : KeepsHeightsFrom 0 s.held.blocks.sure v.blocks.sure
    sure_v h low has = keeps_heights t.held.blocks.sure v.blocks.sure both.blocks.sure h (subst (λ xs. IsTrue (has_height xs h)) (sym (ran.sure_blocks ∙ ap (λ k. k.blocks.sure) held_n)) has)

    good : IsGood config chain (node_of (at life new) buffer waiting)
    good = IsGood-grown config chain (record a { life = record a.life { tip = step.good.0 } }) buffer waiting step.good.1 (at life new) (nested_heights v.blocks lawful_v.blocks) (nested_heights v.certs lawful_v.certs) (ap (λ l. l.out) life_t) processed_v
        (subst (λ (c : HeldCache). IsCacheOf chain c.kept) (sym cache_v) step.good.1.of_chain.cache)
        (pairs_v ∙ (step.good.1.heights.own_pair ∙ ap₂ (λ p c. pair_of p c ∷ []) (sym processed_v) (sym cutoff_v))) lawful_v.written.blocks lawful_v.written.certs
        (λ some. absurd (let none : length v.writes.uncovered ≡ 0 = ap length unwaited in omega (arith, some)))
        sure_v (subst (AreBlocksOf chain) (sym both.blocks.held) went.of_blocks) may_blocks
        (subst (AreFinalizationsOf chain) (sym both.certs.held) (facts.certs_then life config chain config.epochs step.lawful inner buffer waiting n t one_t n_certs finals went)) may_certs
        (subst (λ c. FloorSafe (option_map height_in s.held.processed) c v.blocks.sure chain) (sym cutoff_v) (FloorSafe-still chain (option_map height_in s.held.processed) s.held.cutoff s.held.blocks.sure v.blocks.sure (λ has. sure_v _ (omega arith) has) step.good.1.of_chain.floor_safe))
        (subst (AllByRecursion (λ x. x.height ≤ t.life.tip)) (sym both.certs.held) tips_high)
      where
        may_blocks : AreBlocksOf chain v.blocks.may
        may_blocks = PutsOwn-may _ _ _ s.held.blocks v.blocks by_sync.comes.blocks step.good.1.of_chain.stores.may_blocks

        may_certs : AreFinalizationsOf chain v.certs.may
        may_certs = PutsOwn-may _ _ _ s.held.certs v.certs by_sync.comes.certs step.good.1.of_chain.stores.may_certs

        n_high : AllByRecursion (λ x. x.height ≤ n.life.tip) n.held.certs.held
        n_high = subst (λ k. AllByRecursion (λ x. x.height ≤ k) n.held.certs.held) (sym (ap (λ l. l.tip) life_n))
            (subst (λ h. AllByRecursion (λ x. x.height ≤ newest_tip s.life.tip (newest s.held.certs.held)) h.certs.held) (sym held_n) (newest_tip-high s.life.tip s.held.certs.held))

        tips_high : AllByRecursion (λ x. x.height ≤ t.life.tip) t.held.certs.held
        tips_high = AllByRecursion-from_contains (λ x. x.height ≤ t.life.tip) t.held.certs.held (λ x has. ⊎_elim
            (λ old. let low : x.height ≤ n.life.tip = AllByRecursion-contains (λ y. y.height ≤ n.life.tip) n.held.certs.held x n_high old in let up : n.life.tip ≤ t.life.tip = ran.rises in omega arith)
            (λ fresh. ran.reaches x.height (went.certs_told x fresh)) (ran.certs_from x has))

    -- what is handed over behind it
    pub handed : (told' : Option (List Report)) (result : Result (Seen P E) Ending) → Ran (at life new) t.heard.reports told' result
        → StepsOrCuts config chain (node_of a buffer waiting) (e ∷ []) (heard_by s.heard.reports s.heard.asks) (heard_by told' t.heard.asks) result
    handed told' result hands = dispatched-by config chain a (at life new) e buffer waiting (tips ++ ran.tips) went.asks (set.window ∙ sym (ap (λ l. l.sizes.window) life_t)) step (λ fault. refl) by_sync good
        (inr (ap length unwaited)) lawful_v.blocks.sure_held s.heard.reports t.heard.reports told' s.heard.asks t.heard.asks result
        (Hears-then s.heard.reports n.heard.reports t.heard.reports tips ran.tips (subst (λ i. Hears s.heard.reports (newest_tips i s.life.tip (newest s.held.certs.held)) n.heard.reports) (sym set.inner_is)
        (subst (Hears s.heard.reports (newest_tips inner s.life.tip (newest s.held.certs.held))) (sym (ap (λ (y : Scene). y.heard.reports) did.3)) told.tips)) ran.told)
        hands (subst (λ o. Hears o went.asks t.heard.asks) (ap (λ (y : Scene). y.heard.asks) did.3 ∙ ap (λ (y : Scene). y.heard.asks) told.same) ran.asked)

  -- what is promised of the start
  pub promise-passed : (told' : Option (List Report)) (result : Result (Seen P E) Ending) → Ran (at life new) t.heard.reports told' result
      → KeepsStart epochs inner (at life s) (e ∷ []) buffer (heard_by s.heard.reports s.heard.asks) (heard_by told' t.heard.asks) result
  promise-passed told' result hands fresh config chain waiting set step = by result hands
    where
      loaded : LoadsEntries s.held.cache.kept n.held.cache.kept
      loaded = subst (λ (c : HeldCache). LoadsEntries c.kept n.held.cache.kept) cache_is (did.0.loads (ap (λ (c : HeldCache). c.fresh) cache_is ∙ fresh))

      picked : ArePicked s.held.cache.finds n.held.cache.kept.held
      picked = subst (λ (c : HeldCache). ArePicked c.finds n.held.cache.kept.held) cache_is (did.0.by_luck (ap (λ (c : HeldCache). c.fresh) cache_is ∙ fresh))

      takes : TakesUp s.held.cache.finds (node_of (at life s) buffer waiting) (node_of a buffer waiting)
      takes = record { cache = n.held.cache.kept; loads = loaded; by_luck = picked; syncs = n.held.cache.syncs; still_open = subst (λ (c : HeldCache). AreStillOpen none_goes c.syncs n.held.cache.syncs) cache_is did.0.still_open; begun_is = refl }

      begun_step : IsLawfulStep config chain (node_of a buffer waiting) (e ∷ [])
      begun_step = IsLawfulStep-begun config chain (at life s) n.held.cache buffer waiting loaded step

      by : (r : Result (Seen P E) Ending) → Ran (at life new) t.heard.reports told' r
          → MatchResult r (λ x. FinishesStart config chain s.held.cache.finds (node_of (at life s) buffer waiting) (e ∷ []) (heard_by s.heard.reports s.heard.asks) (heard_by told' t.heard.asks) x.held x.life)
          (CutsStart config chain s.held.cache.finds (node_of (at life s) buffer waiting) (e ∷ []) (heard_by s.heard.reports s.heard.asks) (heard_by told' t.heard.asks))
      by (Ok x) ran = record { begun = node_of a buffer waiting; takes = takes; finishes = handed config chain waiting set begun_step told' (Ok x) ran }
      by (Err x) ran = record { begun = node_of a buffer waiting; takes = inr takes; cuts = handed config chain waiting set begun_step told' (Err x) ran }
