-- What each event's calls make of the step's promise.
use Rattle.std.proofs.Common.{inl, ◌≡◌, ℕ, List, [], ◌∷◌, true, false, Option, None, Result, Ok, Contains, refl, sym, ◌∙◌, ap, subst, arith}
use Rattle.mar_types.specs.Epochs.{Epochs, IsPartition}
use Rattle.mar_cert.specs.Block.{Block}
use Rattle.mar_cert.specs.Finalization.{Finalization}
use Rattle.mar_gate.specs.Writing.{total_writes}
use Rattle.mar_store.specs.Kept.{At}
use Rattle.mar_store.specs.Changes.{IsNested, KeepsValues}
use Rattle.mar_key.specs.Hears.{Hears}
use Rattle.mar_key.specs.Keys.{Call}
use Rattle.mar_model.specs.Messages.{report_finalization}
use Rattle.mar_model.specs.Metadata.{Pair}
use Rattle.mar_model.specs.Chain.{Chain}
use Rattle.mar_model.specs.Answers.{sends_of}
use Rattle.mar_model.specs.OpenSyncs.{NoneHas}
use Rattle.mar_model.specs.Config.{Config}
use Rattle.mar_model.specs.Event.{Event, effect_of, message_told, no_floor, sync_finished}
use Rattle.mar_model.specs.Faults.{Fault, is_by_value}
use Rattle.mar_model.specs.Held.{AreCached, AreWritten, Ending, Held, IsUsual, Loses, Seen, Written}
use Rattle.mar_model.specs.Lives.{is_dropped_ack, is_refused_floor}
use Rattle.mar_model.specs.Moves.{CachesFinalization, FinishesSync, HearsFront, found_at_hand}
use Rattle.mar_model.specs.Requests.{own_asks, want_asks}
use Rattle.mar_model.specs.Node.{AreBlocksOf, AreFinalizationsOf, IsGood, Rest, at_hand}
use Rattle.mar_model.specs.Promise.{CutsStep, IsLawfulStep, IsSetTo, KeepsStep, Waiting, heard_by, made_of, node_of}
use Rattle.mar_model.specs.Step.{AreTipsOf, Report, TipsFrom, IsBlockFrom, IsCertFrom}
use Rattle.mar_model.proofs.CacheOver.{OwnCache, cached_as, found_cached}
use Rattle.mar_model.proofs.Cutting.{Cuts-before, MayBeLeft, never, usual_not_by_value, usual_not_dropped}
use Rattle.mar_model.proofs.FinalizationEvent as final
use Rattle.mar_model.proofs.FoundBlocks.{found-is}
use Rattle.mar_model.proofs.Handing.{Hears-nothing, Ran}
use Rattle.mar_model.proofs.Promises.{dispatched, undispatched}
use Rattle.mar_model.proofs.Reaching.{AreTips}
use Rattle.mar_model.proofs.Soundness.{untold}
use Rattle.mar_model.proofs.SyncEvent as sync
use Rattle.mar_model.proofs.StillGood.{Rest-with}

module _ {P E : Type 0} (epochs : Epochs) (inner : List ℕ → List ℕ) (partition : IsPartition epochs) (a : Seen P E) (buffer : List Block) where
  pub partition_of : (config : Config) → config.epochs ≡ epochs → IsPartition config.epochs
  partition_of config is = subst IsPartition (sym is) partition

  -- a call that failed once these tips were told
  pub told_cut : (config : Config) (chain : Chain) (waiting : Waiting) (e : Event) (step : IsLawfulStep config chain (node_of a buffer waiting) (e ∷ [])) (no_effect : effect_of config (node_of a buffer waiting) e ≡ no_floor) → ((fault : Fault) → is_refused_floor e fault ≡ false) → (tips : List Report) (tip : ℕ) → AreTips tips → TipsFrom a.life.tip tips tip → AreTipsOf chain tips → (told told' : Option (List Report)) (heard heard' : Option (List Call)) (written : Written) (x : Ending) → Hears told tips told' → HearsFront heard (own_asks config (node_of a buffer waiting) e no_floor) heard' → written.blocks_from ≡ 0 → written.certs_from ≡ 0 → OwnCache config chain (node_of a buffer waiting) e written.cached written.prunes → AreBlocksOf chain written.blocks → AreFinalizationsOf chain written.certs → ((y : At Block) → Contains written.blocks y → IsBlockFrom (node_of a buffer waiting) e y) → ((y : At Finalization) → Contains written.certs y → IsCertFrom (node_of a buffer waiting) e y) → Loses a.held written x → ((p : Pair) → Contains written.pairs p → MayBeLeft config chain a e buffer waiting x.remains.ended.blocks_sure p) → is_by_value x.fault ≡ false → is_dropped_ack x.fault ≡ false → CutsStep config chain (node_of a buffer waiting) (e ∷ []) (heard_by told heard) (heard_by told' heard') x
  told_cut config chain waiting e step no_effect unrefused tips tip are_tips rise of_chain told told' heard heard' written x tips_heard (asks, front, asks_heard) no_prune no_cert_prune own_cache of_blocks of_certs own_blocks own_certs lost may no_value not_dropped = record {
    made = made_of tips asks;
    heard = record { reports = tips_heard; asks = asks_heard; sends = refl; answers = refl };
    cuts = Cuts-before config chain a e buffer waiting (untold config chain (node_of a buffer waiting) e step.good).0 (untold config chain (node_of a buffer waiting) e step.good).1 no_effect [] (sends_of (node_of a buffer waiting) e, refl) tips asks tip written x are_tips rise of_chain no_prune no_cert_prune own_cache of_blocks of_certs own_blocks own_certs lost may
        (λ is. absurd (never (is_by_value x.fault) no_value is)) (never (is_refused_floor e x.fault) (unrefused x.fault)) (λ is. absurd (never (is_dropped_ack x.fault) not_dropped is)) (inl front);
  }

  -- a call that failed before anything was told
  pub quiet_cut : (config : Config) (chain : Chain) (waiting : Waiting) (e : Event) (step : IsLawfulStep config chain (node_of a buffer waiting) (e ∷ [])) (no_effect : effect_of config (node_of a buffer waiting) e ≡ no_floor) → ((fault : Fault) → is_refused_floor e fault ≡ false) → (told told' : Option (List Report)) (heard heard' : Option (List Call)) (written : Written) (x : Ending) → Hears told [] told' → HearsFront heard (own_asks config (node_of a buffer waiting) e no_floor) heard' → written.blocks_from ≡ 0 → written.certs_from ≡ 0 → OwnCache config chain (node_of a buffer waiting) e written.cached written.prunes → AreBlocksOf chain written.blocks → AreFinalizationsOf chain written.certs → ((y : At Block) → Contains written.blocks y → IsBlockFrom (node_of a buffer waiting) e y) → ((y : At Finalization) → Contains written.certs y → IsCertFrom (node_of a buffer waiting) e y) → Loses a.held written x → ((p : Pair) → Contains written.pairs p → MayBeLeft config chain a e buffer waiting x.remains.ended.blocks_sure p) → IsUsual x.fault → CutsStep config chain (node_of a buffer waiting) (e ∷ []) (heard_by told heard) (heard_by told' heard') x
  quiet_cut config chain waiting e step no_effect unrefused told told' heard heard' written x silent asks no_prune no_cert_prune own_cache of_blocks of_certs own_blocks own_certs lost may usual =
      told_cut config chain waiting e step no_effect unrefused [] a.life.tip tt refl tt told told' heard heard' written x silent asks no_prune no_cert_prune own_cache of_blocks of_certs own_blocks own_certs lost may (usual_not_by_value x.fault usual) (usual_not_dropped x.fault usual)

  -- A SYNC

  module _ (t : ℕ) (cached : AreCached a.held) (none : NoneHas t a.held.cache.syncs) where
    -- a sync that finished: more may be handed over
    pub promise-finished : (told told' : Option (List Report)) (heard : Option (List Call)) (m : Seen P E) (result : Result (Seen P E) Ending) → IsNested a.held.blocks → IsNested a.held.certs → AreWritten a.held → IsNested m.held.blocks → IsNested m.held.certs → FinishesSync t a m → Ran m told told' result → KeepsStep epochs inner a (sync_finished t ∷ []) buffer (heard_by told heard) (heard_by told' heard) result
    promise-finished told told' heard m result nested certs_nested written new_nested new_certs finishes ran loaded config chain waiting set step =
        dispatched config chain a m (sync_finished t) buffer waiting [] (set.window ∙ sym (ap (λ s. s.life.sizes.window) finishes.same)) step (λ fault. refl) (λ n'. refl) refl
        (sync.Reaches-finished config chain a m t buffer waiting nested certs_nested finishes cached none new_nested new_certs) (sync.IsGood-finished config chain a m t buffer waiting nested certs_nested finishes written.ordered new_nested new_certs step.good)
        (sync.total-same config chain a m t buffer waiting nested certs_nested finishes written.ordered) new_nested.sure_held told told told' heard heard result (Hears-nothing told) ran (Hears-nothing heard)

    -- one that isn't open: nothing changes
    pub promise-closed : (told : Option (List Report)) (heard : Option (List Call)) (m : Seen P E) → IsNested a.held.blocks → IsNested a.held.certs → AreWritten a.held → IsNested m.held.blocks → IsNested m.held.certs → FinishesSync t a m → m ≡ a → KeepsStep epochs inner a (sync_finished t ∷ []) buffer (heard_by told heard) (heard_by told heard) (Ok m)
    promise-closed told heard m nested certs_nested written new_nested new_certs finishes same loaded config chain waiting set step =
        undispatched config chain a m (sync_finished t) buffer waiting [] (set.window ∙ sym (ap (λ s. s.life.sizes.window) finishes.same)) step (λ fault. refl) (λ n'. refl) refl
        (sync.Reaches-finished config chain a m t buffer waiting nested certs_nested finishes cached none new_nested new_certs) (sync.IsGood-finished config chain a m t buffer waiting nested certs_nested finishes written.ordered new_nested new_certs step.good)
        (sync.total-same config chain a m t buffer waiting nested certs_nested finishes written.ordered) new_nested.sure_held told told heard heard (Hears-nothing told) (Hears-nothing heard)
        (subst (λ s. Rest config.window (node_of s buffer waiting)) (sym same) step.rests)

  -- FINALIZATIONS

  module _ (f : Finalization) where
    abbrev pub reported : Event
    reported = message_told None (report_finalization f)

    -- once it is cached
    module _ (now : Held) (cached : AreCached a.held) (caches : CachesFinalization f a.held now) where
      abbrev pub after : Seen P E
      after = record a { held = now }

      pub after_is : after ≡ cached_as a now
      after_is = ap (λ h. record a { held = h }) caches.same

      -- what the actor found is what is at hand
      pub hand : a.held.cache.loaded ≡ true → (config : Config) (chain : Chain) (waiting : Waiting) → IsSetTo config a.life.sizes epochs inner → IsLawfulStep config chain (node_of a buffer waiting) (reported ∷ []) → (o : Option Block) → found_at_hand inner buffer now.cache.kept.held now.blocks.held f.payload ≡ o → at_hand (node_of a buffer waiting) f.payload ≡ o
      hand loaded config chain waiting set step o found =
          sym (found-is config.inner chain a buffer waiting f.payload step.one step.good.of_chain.stores.held_blocks)
          ∙ (ap (λ i. found_at_hand i buffer a.held.cache.kept.held a.held.blocks.held f.payload) set.inner_is
          ∙ (sym (found_cached inner f a.held now buffer a.held.blocks.held f.payload loaded caches)
          ∙ (ap (λ h. found_at_hand inner buffer now.cache.kept.held h.blocks.held f.payload) (sym caches.same) ∙ found)))

      pub promise-absent : (told : Option (List Report)) (heard heard' : Option (List Call)) → IsNested a.held.blocks → IsNested a.held.certs
          → found_at_hand inner buffer now.cache.kept.held now.blocks.held f.payload ≡ None → Hears heard (want_asks now.cutoff f.round f.payload) heard'
          → KeepsStep epochs inner a (reported ∷ []) buffer (heard_by told heard) (heard_by told heard') (Ok after)
      promise-absent told heard heard' nested certs_nested found asks loaded config chain waiting set step =
          let none = hand loaded config chain waiting set step None found in
          undispatched config chain a after reported buffer waiting [] (set.window ∙ sym (ap (λ s. s.life.sizes.window) after_is)) step (λ fault. refl) (λ n'. final.pass-absent config chain a f buffer waiting step.lawful step.one step.good step.reported.0 none n') refl
          (final.Reaches-absent config chain a f buffer waiting step.lawful step.one step.good step.reported.0 now cached loaded caches after after_is nested certs_nested none)
          (subst (λ s. IsGood config chain (node_of s buffer waiting)) (sym after_is) (final.IsGood-cached config chain a f buffer waiting step.lawful step.one step.good step.reported.0 now cached loaded caches))
          (let writes : total_writes now.writes ≡ total_writes a.held.writes = ap (λ h. total_writes h.writes) caches.same in omega arith)
          (subst (λ s. KeepsValues s.held.blocks.sure s.held.blocks.held) (sym after_is) nested.sure_held) told told heard heard' (Hears-nothing told)
          (subst (λ cs. Hears heard cs heard') (final.asks-absent config chain a f buffer waiting step.lawful step.one step.good step.reported.0 none)
          (subst (λ h. Hears heard (want_asks h.cutoff f.round f.payload) heard') caches.same asks))
          (subst (λ s. Rest config.window (node_of s buffer waiting)) (sym after_is) (Rest-with config.window a now.cache a.held.writes.next_sync now.watches buffer buffer waiting waiting step.rests))
