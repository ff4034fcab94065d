-- What a late finalization, and an acknowledgement, make of the step's promise.
use Rattle.std.proofs.Common.{◌≡◌, ◌⊎◌, inl, inr, ℕ, ◌+◌, ◌≤◌, List, [], ◌∷◌, length, Bool, true, false, if◌then◌else◌, nat_lt, Option, Some, None, Result, Ok, Err, Contains, refl, sym, ◌∙◌, ap, subst, arith}
use Rattle.mar_types.specs.Epochs.{Epochs, IsPartition}
use Rattle.mar_cert.specs.Block.{Block}
use Rattle.mar_cert.specs.Finalization.{Finalization}
use Rattle.mar_model.specs.Messages.{report_finalization}
use Rattle.mar_key.specs.Cutoff.{at_round, greatest_of}
use Rattle.mar_key.specs.Hears.{Hears}
use Rattle.mar_key.specs.Keys.{Call}
use Rattle.mar_key.specs.Processed.{first_unprocessed, height_of}
use Rattle.mar_store.specs.Kept.{value_at}
use Rattle.mar_store.specs.Changes.{IsNested, KeepsValues}
use Rattle.mar_types.specs.Round.{Round}
use Rattle.mar_model.specs.Acks.{Mark, Outstanding, after_given, dropped_oldest, given_front, is_dropped, mark_dropped, mark_given, mark_waiting, with_mark}
use Rattle.mar_model.specs.Metadata.{Pair, pair_of}
use Rattle.mar_model.specs.Chain.{Chain}
use Rattle.mar_model.specs.Config.{Config}
use Rattle.mar_model.specs.Event.{Event, ack_marked, message_told, no_floor}
use Rattle.mar_model.specs.Faults.{dropped_ack, dropped_first}
use Rattle.mar_model.specs.Held.{AreCached, Ending, Grew, Held, IsUsual, Loses, Seen, written_cert, written_pair, written_prunes}
use Rattle.mar_model.specs.Lives.{is_refused_floor, later_round}
use Rattle.mar_model.specs.Moves.{CachesFinalization, Drains, EndsDropped, HearsFront, RaisesTo, StoresLate, at_height, found_at_hand, lacks_finalization, late_tips, pruned_by, rounds_of}
use Rattle.mar_model.specs.Node.{Rest, at_hand, block_missing, floor_awaited, window_full, write_uncovered}
use Rattle.mar_model.specs.Promise.{IsLawfulStep, IsSetTo, KeepsStep, Waiting, heard_by, made_of, node_of}
use Rattle.mar_gate.specs.Writing.{total_writes}
use Rattle.mar_model.specs.Requests.{own_asks, raise_asks, retire_asks}
use Rattle.mar_model.specs.Step.{IsFront, Report}
use Rattle.mar_model.proofs.AckEvent as ack
use Rattle.mar_model.proofs.CacheOver.{OwnCache, cached_as, own_pruned}
use Rattle.mar_model.proofs.Cutting.{Cuts-before, never}
use Rattle.mar_model.proofs.EntryLists.{contains_none}
use Rattle.mar_model.proofs.EventPromises as event
use Rattle.mar_model.proofs.FinalizationEvent as final
use Rattle.mar_model.proofs.FinalizationEvent.{IsSyncedAfter}
use Rattle.mar_model.proofs.Growing.{Grown, Grown-certs}
use Rattle.mar_model.proofs.Handing.{Hears-nothing, HearsFront-whole, Ran}
use Rattle.mar_model.proofs.Promises.{dispatched, undispatched}

-- it rests as long as what is outstanding, processed and held is the same
pub Rest-same : {P E : Type 0} (window : ℕ) (a m : Seen P E) (buffer : List Block) (waiting : Waiting) → m.life.out ≡ a.life.out → m.held.processed ≡ a.held.processed → m.held.blocks ≡ a.held.blocks → m.held.writes ≡ a.held.writes → Rest window (node_of a buffer waiting) → Rest window (node_of m buffer waiting)
Rest-same window a m buffer waiting out processed blocks writes (floor_awaited some) = absurd cc
Rest-same window a m buffer waiting out processed blocks writes (window_full full) = window_full (ap length out ∙ full)
Rest-same window a m buffer waiting out processed blocks writes (block_missing missing) = block_missing (ap (λ k. value_at k.held (first_unprocessed m.held.processed + length m.life.out)) blocks ∙ (ap (λ p. value_at a.held.blocks.held (first_unprocessed p + length m.life.out)) processed ∙ (ap (λ o. value_at a.held.blocks.held (first_unprocessed a.held.processed + length o)) out ∙ missing)))
Rest-same window a m buffer waiting out processed blocks writes (write_uncovered h waits low) = write_uncovered h (subst (λ w. Contains w.uncovered h) (sym writes) waits) (subst (λ k. h ≤ k) (sym (ap (λ p. first_unprocessed p + length m.life.out) processed ∙ ap (λ o. first_unprocessed a.held.processed + length o) out)) low)

-- a dropped oldest is the fault by value
dropped_first-some : (out : List Outstanding) (o : Outstanding) → dropped_oldest out ≡ Some o → dropped_first out ≡ Some (dropped_ack o.height)
dropped_first-some [] o is = absurd cc
dropped_first-some (x ∷ out) o is = by x.mark refl is
  where
    by : (m : Mark) → x.mark ≡ m → (if is_dropped m then Some x else None) ≡ Some o → dropped_first (x ∷ out) ≡ Some (dropped_ack o.height)
    by mark_waiting e d = absurd cc
    by mark_given e d = absurd cc
    by mark_dropped e d = of_mark x.mark e ∙ ap (λ y. Some (dropped_ack y.height)) (inside d)
      where
        inside : ◌≡◌ {A = Option Outstanding} (Some x) (Some o) → x ≡ o
        inside p = cc

        of_mark : (m : Mark) → m ≡ mark_dropped → dropped_first (record x { mark = m } ∷ out) ≡ Some (dropped_ack x.height)
        of_mark mark_dropped p = refl
        of_mark mark_waiting p = absurd cc
        of_mark mark_given p = absurd cc

module _ {P E : Type 0} (epochs : Epochs) (inner : List ℕ → List ℕ) (partition : IsPartition epochs) (a : Seen P E) (buffer : List Block) where
  -- LATE FINALIZATIONS

  module _ (f : Finalization) (now : Held) (cached : AreCached a.held) (caches : CachesFinalization f a.held now) (b : Block) (found : found_at_hand inner buffer now.cache.kept.held now.blocks.held f.payload ≡ Some b) (low_now : nat_lt (height_of now.processed) b.height ≡ false) where
    abbrev pub noted : Pair
    noted = pair_of a.held.processed (greatest_of a.held.cutoff (at_round f.round ∷ []))

    abbrev e : Event
    e = message_told None (report_finalization f)

    -- the actor once the finalization is cached
    abbrev pub after : Seen P E
    after = record a { held = now }

    after_is : after ≡ cached_as a now
    after_is = ap (λ h. record a { held = h }) caches.same

    low : nat_lt (height_of a.held.processed) b.height ≡ false
    low = subst (λ h. nat_lt (height_of h.processed) b.height ≡ false) caches.same low_now

    module _ (loaded : a.held.cache.loaded ≡ true) (config : Config) (chain : Chain) (waiting : Waiting) (set : IsSetTo config a.life.sizes epochs inner) (step : IsLawfulStep config chain (node_of a buffer waiting) (e ∷ [])) where
      hand : at_hand (node_of a buffer waiting) f.payload ≡ Some b
      hand = event.hand epochs inner partition a buffer f now cached caches loaded config chain waiting set step (Some b) found

      asks_late : raise_asks now.cutoff (at_round f.round ∷ []) ≡ own_asks config (node_of a buffer waiting) e no_floor
      asks_late = ap (λ h. raise_asks h.cutoff (at_round f.round ∷ [])) caches.same ∙ final.asks-late config chain a f buffer waiting step.lawful step.one step.good step.reported.0 b hand low

    module _ (w s : Seen P E) (raised : RaisesTo after (at_round f.round ∷ []) (f.round ∷ []) w) (synced : IsSyncedAfter w s) where
      raised_as : RaisesTo (cached_as a now) (at_round f.round ∷ []) (f.round ∷ []) w
      raised_as = subst (λ k. RaisesTo k (at_round f.round ∷ []) (f.round ∷ []) w) after_is raised

      due_same : lacks_finalization s.held b ≡ lacks_finalization a.held b
      due_same = ap (λ k. lacks_finalization k.held b) synced ∙ ap (λ k. lacks_finalization k.held b) raised_as.same

      tip_same : s.life.tip ≡ a.life.tip
      tip_same = ap (λ k. k.life.tip) synced ∙ ap (λ k. k.life.tip) raised_as.same

      certs_same : s.held.certs ≡ a.held.certs
      certs_same = ap (λ k. k.held.certs) synced ∙ ap (λ k. k.held.certs) raised_as.same

      pub promise-late : (told told' : Option (List Report)) (heard heard' : Option (List Call)) (m : Seen P E) → IsNested a.held.blocks → IsNested a.held.certs → StoresLate inner s f b m → Grew s.held (written_cert (at_height b.height f)) m.held → Hears told (late_tips (lacks_finalization s.held b) s.life.tip f b) told' → Hears heard (raise_asks now.cutoff (at_round f.round ∷ [])) heard' → KeepsStep epochs inner a (e ∷ []) buffer (heard_by told heard) (heard_by told' heard') (Ok m)
      promise-late told told' heard heard' m nested certs_nested stores grew tips asks loaded config chain waiting set step =
          undispatched config chain a m e buffer waiting (late_tips (lacks_finalization a.held b) a.life.tip f b) (set.window ∙ sym (ap (λ k. k.life.sizes.window) late)) step (λ fault. refl) (λ n'. final.pass-at config chain a f buffer waiting step.lawful step.one step.good step.reported.0 b (hand loaded config chain waiting set step) false low n') refl
          (final.Reaches-late config chain a f buffer waiting step.lawful step.one step.good step.reported.0 now cached loaded caches set.retention b w s m raised_as synced stores_as (event.partition_of epochs inner partition a buffer config set.epochs_are) nested certs_nested grown (hand loaded config chain waiting set step) low)
          (final.IsGood-noted config chain a f buffer waiting step.lawful step.one step.good step.reported.0 now cached loaded caches set.retention b w s m raised_as synced stores_as (event.partition_of epochs inner partition a buffer config set.epochs_are) grown (hand loaded config chain waiting set step) low)
          (let same : total_writes m.held.writes ≡ total_writes a.held.writes = ap (λ k. total_writes k.held.writes) late in omega arith)
          (subst (λ k. KeepsValues k.held.blocks.sure k.held.blocks.held) (sym late) nested.sure_held)
          told told' heard heard'
          (subst (λ t. Hears told (late_tips (lacks_finalization a.held b) t f b) told') tip_same (subst (λ d. Hears told (late_tips d s.life.tip f b) told') due_same tips))
          (subst (λ cs. Hears heard cs heard') (asks_late loaded config chain waiting set step) asks)
          (Rest-same config.window a m buffer waiting (ap (λ k. k.life.out) late) (ap (λ k. k.held.processed) late) (ap (λ k. k.held.blocks) late) (ap (λ k. k.held.writes) late) step.rests)
        where
          stores_as : StoresLate config.inner s f b m
          stores_as = subst (λ i. StoresLate i s f b m) (sym set.inner_is) stores

          late : m ≡ final.noted (cached_as a now) (at_round f.round ∷ []) (later_round a.held.witnessed (Some f.round)) m
          late = final.noted_same inner (cached_as a now) w s m (at_round f.round ∷ []) f.round f b raised_as synced stores

          grown : Grown a.held.certs (at_height b.height f ∷ []) m.held.certs
          grown = subst (λ k. Grown k (at_height b.height f ∷ []) m.held.certs) certs_same (Grown-certs s.held m.held (written_cert (at_height b.height f)) refl grew)

  -- ACKNOWLEDGEMENTS

  module _ (t : ℕ) (as_mark : Mark) (cached : AreCached a.held) where
    abbrev pub marked : Seen P E
    marked = record a { life = record a.life { out = with_mark t as_mark a.life.out } }

    -- what is asked as the given ones are processed is what the event asks
    asks_are : a.held.cache.loaded ≡ true → (config : Config) (chain : Chain) (waiting : Waiting) (set : IsSetTo config a.life.sizes epochs inner) (step : IsLawfulStep config chain (node_of a buffer waiting) (ack_marked t as_mark ∷ [])) → IsNested a.held.blocks → IsNested a.held.certs → retire_asks epochs a.held.certs.held a.held.cutoff (given_front marked.life.out) ≡ own_asks config (node_of a buffer waiting) (ack_marked t as_mark) no_floor
    asks_are loaded config chain waiting set step nested certs_nested =
        subst (λ es. retire_asks es a.held.certs.held a.held.cutoff (given_front marked.life.out) ≡ own_asks config (node_of a buffer waiting) (ack_marked t as_mark) no_floor) set.epochs_are
        (ack.asks-drained config chain step.lawful (event.partition_of epochs inner partition a buffer config set.epochs_are) a t as_mark buffer waiting nested certs_nested step.good loaded cached)

    -- the rounds by which its blocks prune the cache
    abbrev pub acked_prunes : List Round
    acked_prunes = pruned_by a.life.sizes.retention a.held.witnessed (rounds_of a.held.certs.held (given_front marked.life.out))

    own_acked : a.held.cache.loaded ≡ true → (config : Config) (chain : Chain) (waiting : Waiting) (set : IsSetTo config a.life.sizes epochs inner) (step : IsLawfulStep config chain (node_of a buffer waiting) (ack_marked t as_mark ∷ [])) → IsNested a.held.blocks → IsNested a.held.certs → OwnCache config chain (node_of a buffer waiting) (ack_marked t as_mark) [] acked_prunes
    own_acked loaded config chain waiting set step nested certs_nested = own_pruned config chain (node_of a buffer waiting) (ack_marked t as_mark) acked_prunes
        (λ r has. subst (λ rs. Contains rs r) (ack.prunes-are config chain step.lawful (event.partition_of epochs inner partition a buffer config set.epochs_are) a t as_mark buffer waiting nested certs_nested step.good loaded cached set.retention) has)

    pub promise-undrained : (told : Option (List Report)) (heard heard' : Option (List Call)) (x : Ending) → IsNested a.held.blocks → IsNested a.held.certs → HearsFront heard (retire_asks epochs a.held.certs.held a.held.cutoff (given_front marked.life.out)) heard' → Loses a.held (written_prunes acked_prunes) x → IsUsual x.fault ⊎ EndsDropped marked x → KeepsStep epochs inner a (ack_marked t as_mark ∷ []) buffer (heard_by told heard) (heard_by told heard') (Err x)
    promise-undrained told heard heard' x nested certs_nested asks lost (inl usual) loaded config chain waiting set step =
        event.quiet_cut epochs inner partition a buffer config chain waiting (ack_marked t as_mark) step refl (λ fault. refl) told told heard heard' (written_prunes acked_prunes) x (Hears-nothing told)
        (subst (λ cs. HearsFront heard cs heard') (asks_are loaded config chain waiting set step nested certs_nested) asks)
        refl refl (own_acked loaded config chain waiting set step nested certs_nested) tt tt (λ z has. contains_none z has) (λ z has. contains_none z has) lost (λ p has. contains_none p has) usual
    promise-undrained told heard heard' x nested certs_nested (asks, front, asks_heard) lost (inr ends) loaded config chain waiting set step = record {
      made = made_of [] asks;
      heard = record { reports = Hears-nothing told; asks = asks_heard; sends = refl; answers = refl };
      cuts = Cuts-before config chain a (ack_marked t as_mark) buffer waiting a.life.tip step.good refl [] ([], refl) [] asks a.life.tip (written_prunes acked_prunes) x tt refl tt refl refl (own_acked loaded config chain waiting set step nested certs_nested) tt tt (λ z has. contains_none z has) (λ z has. contains_none z has) lost (λ p has. contains_none p has)
          (λ is. dropped_first-some (after_given marked.life.out) ends.oldest ends.dropped ∙ ap Some (sym ends.fault)) (never (is_refused_floor (ack_marked t as_mark) x.fault) refl) (λ is. ends.unsynced)
          (inl (subst (λ cs. IsFront asks cs) (asks_are loaded config chain waiting set step nested certs_nested) front));
    }

    module _ (is_drained : Bool) (d : Seen P E) (drains : Drains epochs marked is_drained d) where
      of_config : (config : Config) → config.epochs ≡ epochs → Drains config.epochs marked is_drained d
      of_config config is = subst (λ es. Drains es marked is_drained d) (sym is) drains

      blocks_drained : d.held.blocks ≡ a.held.blocks
      blocks_drained = ap (λ k. k.held.blocks) drains.same

      window_same : d.life.sizes.window ≡ a.life.sizes.window
      window_same = ap (λ k. k.life.sizes.window) drains.same

      -- the sync of the processed height failed
      pub promise-ack_unsynced : (told : Option (List Report)) (heard heard' : Option (List Call)) (x : Ending) → IsNested a.held.blocks → IsNested a.held.certs → Hears heard (retire_asks epochs a.held.certs.held a.held.cutoff (given_front marked.life.out)) heard' → Loses a.held (record (written_pair (pair_of d.held.processed d.held.cutoff)) { prunes = acked_prunes }) x → IsUsual x.fault → KeepsStep epochs inner a (ack_marked t as_mark ∷ []) buffer (heard_by told heard) (heard_by told heard') (Err x)
      promise-ack_unsynced told heard heard' x nested certs_nested asks lost usual loaded config chain waiting set step =
          event.quiet_cut epochs inner partition a buffer config chain waiting (ack_marked t as_mark) step refl (λ fault. refl) told told heard heard' (record (written_pair (pair_of d.held.processed d.held.cutoff)) { prunes = acked_prunes }) x (Hears-nothing told)
          (HearsFront-whole heard _ heard' (subst (λ cs. Hears heard cs heard') (asks_are loaded config chain waiting set step nested certs_nested) asks)) refl refl (own_acked loaded config chain waiting set step nested certs_nested) tt tt (λ z has. contains_none z has) (λ z has. contains_none z has) lost
          (λ p has. ack.MayBeLeft-drained config chain step.lawful (event.partition_of epochs inner partition a buffer config set.epochs_are) a t as_mark buffer waiting nested certs_nested step.good loaded cached is_drained d (of_config config set.epochs_are) x.remains.ended.blocks_sure (λ h v at. lost.leaves.blocks.sure h v (omega arith) at) p has) usual

      pub promise-acked : (told told' : Option (List Report)) (heard heard' : Option (List Call)) (m : Seen P E) (result : Result (Seen P E) Ending) → IsNested a.held.blocks → IsNested a.held.certs → m ≡ record d { held = record d.held { pairs = pair_of d.held.processed d.held.cutoff ∷ []; watches = m.held.watches } } → Hears heard (retire_asks epochs a.held.certs.held a.held.cutoff (given_front marked.life.out)) heard' → Ran m told told' result → KeepsStep epochs inner a (ack_marked t as_mark ∷ []) buffer (heard_by told heard) (heard_by told' heard') result
      promise-acked told told' heard heard' m result nested certs_nested synced asks ran loaded config chain waiting set step =
          dispatched config chain a m (ack_marked t as_mark) buffer waiting [] (set.window ∙ sym (ap (λ k. k.life.sizes.window) synced ∙ window_same)) step (λ fault. refl) (λ n'. refl) refl
          (ack.Reaches-ack config chain step.lawful (event.partition_of epochs inner partition a buffer config set.epochs_are) a t as_mark buffer waiting nested certs_nested step.good loaded cached is_drained d (of_config config set.epochs_are) set.retention m synced)
          (ack.IsGood-ack config chain step.lawful (event.partition_of epochs inner partition a buffer config set.epochs_are) a t as_mark buffer waiting nested certs_nested step.good loaded cached is_drained d (of_config config set.epochs_are) m synced)
          (let same : total_writes m.held.writes ≡ total_writes a.held.writes = ap total_writes (ack.writes-ack config chain step.lawful (event.partition_of epochs inner partition a buffer config set.epochs_are) a t as_mark buffer waiting nested certs_nested step.good loaded cached is_drained d (of_config config set.epochs_are) m synced) in omega arith)
          (subst (λ k. KeepsValues k.sure k.held) (sym blocks) nested.sure_held)
          told told told' heard heard' result (Hears-nothing told) ran
          (subst (λ cs. Hears heard cs heard') (asks_are loaded config chain waiting set step nested certs_nested) asks)
        where
          blocks : m.held.blocks ≡ a.held.blocks
          blocks = ap (λ k. k.held.blocks) synced ∙ blocks_drained

    pub promise-not_drained : (told : Option (List Report)) (heard heard' : Option (List Call)) (d : Seen P E) (is_drained : Bool) → is_drained ≡ false → Drains epochs marked is_drained d → IsNested a.held.blocks → IsNested a.held.certs → Hears heard (retire_asks epochs a.held.certs.held a.held.cutoff (given_front marked.life.out)) heard' → KeepsStep epochs inner a (ack_marked t as_mark ∷ []) buffer (heard_by told heard) (heard_by told heard') (Ok d)
    promise-not_drained told heard heard' d is_drained not_drained any nested certs_nested asks loaded config chain waiting set step =
        undispatched config chain a d (ack_marked t as_mark) buffer waiting [] (set.window ∙ sym (ap (λ k. k.life.sizes.window) any.same)) step (λ fault. refl) (λ n'. refl) refl
        (ack.Reaches-undrained config chain step.lawful (event.partition_of epochs inner partition a buffer config set.epochs_are) a t as_mark buffer waiting nested certs_nested step.good loaded cached d drains)
        (ack.IsGood-undrained config chain step.lawful (event.partition_of epochs inner partition a buffer config set.epochs_are) a t as_mark buffer waiting nested certs_nested step.good loaded cached d drains)
        (let same : total_writes d.held.writes ≡ total_writes a.held.writes = ap total_writes (ack.writes-undrained config chain step.lawful (event.partition_of epochs inner partition a buffer config set.epochs_are) a t as_mark buffer waiting nested certs_nested step.good loaded cached d drains) in omega arith)
        (subst (λ k. KeepsValues k.sure k.held) (sym blocks) nested.sure_held)
        told told heard heard' (Hears-nothing told)
        (subst (λ cs. Hears heard cs heard') (asks_are loaded config chain waiting set step nested certs_nested) asks)
        (ack.Rest-undrained config chain step.lawful (event.partition_of epochs inner partition a buffer config set.epochs_are) a t as_mark buffer waiting nested certs_nested step.good loaded cached d drains step.rests)
      where
        blocks : d.held.blocks ≡ a.held.blocks
        blocks = ap (λ k. k.held.blocks) any.same

        drains : Drains config.epochs marked false d
        drains = subst (λ b. Drains config.epochs marked b d) not_drained (subst (λ es. Drains es marked is_drained d) (sym set.epochs_are) any)
