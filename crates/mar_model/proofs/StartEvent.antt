-- The start of a life: the newest stored finalization is told as the tip, what a crash left of the cache is taken up, and then
-- blocks are handed over.
use Rattle.std.proofs.Common.{ℕ, ◌≡◌, inl, ⊎_elim, List, [], ◌∷◌, ◌++◌, None, Option, Contains, Err, refl, sym, subst}
use Rattle.std.specs.List.{filter_map}
use Rattle.std.proofs.lemmas.List.Elements.{Contains-append_cases, Contains-append_left, Contains-append_right}
use Rattle.mar_types.specs.Epochs.{Epochs, IsPartition}
use Rattle.mar_cert.specs.Block.{Block}
use Rattle.mar_store.specs.Changes.{IsNested}
use Rattle.mar_store.proofs.Lookups.{AllByRecursion-contains, AllByRecursion-from_contains}
use Rattle.mar_key.specs.Hears.{Hears}
use Rattle.mar_key.specs.Keys.{Call}
use Rattle.mar_model.specs.AllEntries.{LoadsEntries}
use Rattle.mar_model.specs.Cached.{Cached, cached_block, cached_finalization}
use Rattle.mar_model.specs.Chain.{Chain}
use Rattle.mar_model.specs.Config.{Config}
use Rattle.mar_model.specs.Event.{life_started}
use Rattle.mar_model.specs.Held.{Ending, HeldCache, IsUsual, Loses, Seen, nothing_written}
use Rattle.mar_model.specs.Moves.{IsRead, newest_tip, newest_tips, with_newest, with_watches}
use Rattle.mar_model.specs.Stored.{newest}
use Rattle.mar_model.specs.Node.{Agrees, IsFinalized}
use Rattle.mar_model.specs.Promise.{AreOne, IsGoodUntold, IsLawfulStep, KeepsPromise, Waiting, heard_by, known_blocks, node_of}
use Rattle.mar_model.specs.Step.{AreTipsOf, Report}
use Rattle.mar_model.proofs.CacheOver.{moves_none, own_none}
use Rattle.mar_model.proofs.Cutting.{usual_not_by_value, usual_not_dropped}
use Rattle.mar_model.proofs.EntryLists.{contains_none}
use Rattle.mar_model.proofs.EventPromises.{quiet_cut, told_cut}
use Rattle.mar_model.proofs.Filtered.{all_found_within}
use Rattle.mar_model.proofs.KnownBlocks.{AreOne-within}
use Rattle.mar_model.proofs.Handing.{Hears-nothing, HearsFront-nothing}
use Rattle.mar_model.proofs.PlainEvents.{Certificates-same, EntersAt-same, Writes-same}
use Rattle.mar_model.proofs.Reaching.{PutsOwn-same, Reaches}
use Rattle.mar_model.proofs.Tips.{newest_tips-chain, newest_tips-rise, newest_tips-tips}
use Rattle.mar_model.proofs.StillGood.{IsGood-tipped}

module _ {P E : Type 0} (config : Config) (chain : Chain) (a : Seen P E) (buffer : List Block) (waiting : Waiting) (nested : IsNested a.held.blocks) (certs_nested : IsNested a.held.certs) (untold : IsGoodUntold config chain (node_of a buffer waiting)) where
  pub Reaches-start : (m : Seen P E) → a.held.lowests ≡ a.held.lowest ∷ [] → IsRead (with_newest a) m → AreOne config.inner (known_blocks chain (node_of a buffer waiting)) → Reaches config chain a (life_started None) buffer waiting (newest_tips config.inner a.life.tip (newest a.held.certs.held)) m
  Reaches-start m own_lowest same one = subst (Reaches config chain a (life_started None) buffer waiting (newest_tips config.inner a.life.tip (newest a.held.certs.held))) (sym same) (record {
    comes = record {
      no_part = record { no_effect = refl; no_query = refl; no_fault = refl; sends = refl; answers = λ lowest. refl; subscriptions = refl; no_syncs = λ n'. refl };
      kept = refl;
      next_ack = refl;
      next_sync = refl;
      sizes = refl;
      processed = refl;
      cutoff = refl;
      blocks = PutsOwn-same _ _ _ a.held.blocks a.held.blocks nested refl;
      certs = PutsOwn-same _ _ _ a.held.certs a.held.certs certs_nested refl;
      certificates = Certificates-same a (with_newest a) (life_started None) buffer waiting refl;
      writes = (Writes-same a (with_newest a) (life_started None) buffer waiting refl refl refl (λ syncs. refl) (λ syncs. refl)).0;
      are_tips = newest_tips-tips config.inner a.life.tip (newest a.held.certs.held);
      tips_rise = newest_tips-rise config.inner a.life.tip (newest a.held.certs.held);
      tips_chain = newest_tips-chain config.inner chain (buffer ++ filter_map cached_block (a.held.cache.kept.held ++ a.held.cache.kept.may)) one a.life.tip a.held.certs.held untold.1.of_chain.stores.held_certs;
      cache = moves_none config chain a (with_watches (with_newest a) m.held.watches) (life_started None) buffer waiting refl refl refl refl own_lowest refl refl refl refl refl;
      stored = tt;
      stored_late = tt;
    };
    no_repair = (Writes-same a (with_newest a) (life_started None) buffer waiting refl refl refl (λ syncs. refl) (λ syncs. refl)).1;
    unblocked = (Writes-same a (with_newest a) (life_started None) buffer waiting refl refl refl (λ syncs. refl) (λ syncs. refl)).2;
    enters = EntersAt-same _ (node_of a buffer waiting) (node_of (with_newest a) buffer waiting) refl refl;
  })

-- an actor that took up what a crash left of its cache
abbrev with_cache : {P E : Type 0} → Seen P E → HeldCache → Seen P E
with_cache a cache = record a { held = record a.held { cache = cache } }

module _ {P E : Type 0} (config : Config) (chain : Chain) (a : Seen P E) (cache : HeldCache) (buffer : List Block) (waiting : Waiting) (loads : LoadsEntries a.held.cache.kept cache.kept) where
  -- what was taken up might be left before
  within : (x : Cached) → Contains (cache.kept.held ++ cache.kept.may) x → Contains (a.held.cache.kept.held ++ a.held.cache.kept.may) x
  within x has = Contains-append_right a.held.cache.kept.held a.held.cache.kept.may x (⊎_elim (λ held. loads.within_may x held) (λ may. loads.within_may x (loads.may x may)) (Contains-append_cases cache.kept.held cache.kept.may x has))

  abbrev olds : List Cached
  olds = a.held.cache.kept.held ++ a.held.cache.kept.may

  abbrev news : List Cached
  news = cache.kept.held ++ cache.kept.may

  cached_within : (b : Block) → Contains (filter_map cached_block news) b → Contains (filter_map cached_block olds) b
  cached_within b has = AllByRecursion-contains (Contains (filter_map cached_block olds)) (filter_map cached_block news) b (all_found_within cached_block (Contains (filter_map cached_block olds)) news olds within (AllByRecursion-from_contains (Contains (filter_map cached_block olds)) (filter_map cached_block olds) (λ x there. there))) has

  beside_within : (b : Block) → Contains (buffer ++ filter_map cached_block news) b → Contains (buffer ++ filter_map cached_block olds) b
  beside_within b has = ⊎_elim (λ own. Contains-append_left buffer (filter_map cached_block olds) b own) (λ cached. Contains-append_right buffer (filter_map cached_block olds) b (cached_within b cached)) (Contains-append_cases buffer (filter_map cached_block news) b has)

  known_within : (b : Block) → Contains (known_blocks chain (node_of (with_cache a cache) buffer waiting)) b → Contains (known_blocks chain (node_of a buffer waiting)) b
  known_within b has = ⊎_elim (λ own. Contains-append_left chain.blocks (buffer ++ filter_map cached_block olds) b own) (λ others. Contains-append_right chain.blocks (buffer ++ filter_map cached_block olds) b (beside_within b others)) (Contains-append_cases chain.blocks (buffer ++ filter_map cached_block news) b has)

  -- a start may be asked to go on from there
  pub IsLawfulStep-begun : IsLawfulStep config chain (node_of a buffer waiting) (life_started None ∷ []) → IsLawfulStep config chain (node_of (with_cache a cache) buffer waiting) (life_started None ∷ [])
  IsLawfulStep-begun step = record {
    lawful = step.lawful;
    one = AreOne-within config.inner (known_blocks chain (node_of (with_cache a cache) buffer waiting)) (known_blocks chain (node_of a buffer waiting)) known_within step.one;
    reported = step.reported;
    good = (
      step.good.0,
      IsGood-tipped config chain a cache a.held.writes.next_sync a.held.watches buffer buffer waiting waiting step.good.0 step.good.0 step.good.1.of_chain.asks.requests
          (record {
            finalizations = all_found_within cached_finalization (λ f. IsFinalized chain f.round f.payload) news olds within step.good.1.of_chain.cache.finalizations;
            blocks = all_found_within cached_block (Agrees chain) news olds within step.good.1.of_chain.cache.blocks;
          }) step.good.1.of_chain.tip_reported step.good.1,
    );
    rests = tt;
  }

module _ {P E : Type 0} (epochs : Epochs) (inner : List ℕ → List ℕ) (partition : IsPartition epochs) (a : Seen P E) (buffer : List Block) where
  -- nothing could be told
  pub promise-untold : (told told' : Option (List Report)) (heard : Option (List Call)) (x : Ending) → Hears told [] told' → Loses a.held nothing_written x → IsUsual x.fault → KeepsPromise (life_started None ∷ []) epochs inner a buffer (heard_by told heard) (heard_by told' heard) (Err x)
  promise-untold told told' heard x silent lost usual fresh config chain waiting set step = record {
    begun = node_of a buffer waiting;
    takes = inl refl;
    cuts = quiet_cut epochs inner partition a buffer config chain waiting (life_started None) step refl (λ fault. refl) told told' heard heard nothing_written x silent (HearsFront-nothing heard _ heard (Hears-nothing heard)) refl refl (own_none config chain (node_of a buffer waiting) (life_started None)) tt tt (λ y has. contains_none y has) (λ y has. contains_none y has) lost (λ p has. contains_none p has) usual;
  }

  -- the cache could not be taken up
  pub promise-unloaded : (told told' : Option (List Report)) (heard : Option (List Call)) (x : Ending) → Hears told (newest_tips inner a.life.tip (newest a.held.certs.held)) told' → Loses a.held nothing_written x → IsUsual x.fault → KeepsPromise (life_started None ∷ []) epochs inner a buffer (heard_by told heard) (heard_by told' heard) (Err x)
  promise-unloaded told told' heard x tips lost usual fresh config chain waiting set step = record {
    begun = node_of a buffer waiting;
    takes = inl refl;
    cuts = told_cut epochs inner partition a buffer config chain waiting (life_started None) step refl (λ fault. refl) (newest_tips inner a.life.tip (newest a.held.certs.held)) (newest_tip a.life.tip (newest a.held.certs.held))
        (newest_tips-tips inner a.life.tip (newest a.held.certs.held)) (newest_tips-rise inner a.life.tip (newest a.held.certs.held))
        (subst (λ i. AreTipsOf chain (newest_tips i a.life.tip (newest a.held.certs.held))) set.inner_is (newest_tips-chain config.inner chain (buffer ++ filter_map cached_block (a.held.cache.kept.held ++ a.held.cache.kept.may)) step.one a.life.tip a.held.certs.held step.good.1.of_chain.stores.held_certs))
        told told' heard heard nothing_written x tips (HearsFront-nothing heard _ heard (Hears-nothing heard)) refl refl (own_none config chain (node_of a buffer waiting) (life_started None)) tt tt (λ y has. contains_none y has) (λ y has. contains_none y has) lost (λ p has. contains_none p has) (usual_not_by_value x.fault usual) (usual_not_dropped x.fault usual);
  }
