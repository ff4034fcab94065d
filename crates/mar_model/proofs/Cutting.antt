-- What a failed call leaves is a cut of the step: before any block was handed over, and while blocks are.
use Rattle.std.proofs.Common.{◌≡◌, ◌||◌, ◌⊎◌, inl, inr, ⊎_elim, ℕ, zero, suc, ◌+◌, ◌<◌, ◌≤◌, List, [], ◌∷◌, ◌++◌, length, map, Bool, true, false, Option, Some, option_map, IsTrue, Contains, refl, sym, ◌∙◌, ap, subst, arith, le_refl}
use Rattle.std.proofs.lemmas.List.Elements.{Contains-append_cases, Contains-append_left, Contains-append_right}
use Rattle.mar_types.specs.Round.{Round}
use Rattle.mar_cert.specs.Block.{Block}
use Rattle.mar_cert.specs.Finalization.{Finalization}
use Rattle.mar_store.specs.Kept.{At, Kept, has_height, value_at}
use Rattle.mar_store.specs.Changes.{KeepsValues, Left, left_of}
use Rattle.mar_store.proofs.Lookups.{AllByRecursion-append, AllByRecursion-from_contains, AllByRecursion-within, Contains-from_value, has_height-from_contains, has_height-from_value, value-from_has_height}
use Rattle.mar_key.specs.Keys.{Call}
use Rattle.mar_key.specs.Processed.{height_in}
use Rattle.mar_model.specs.Metadata.{Pair, first_pair, pair_of}
use Rattle.mar_model.specs.Chain.{Chain, Finalizes, IsBlockAt}
use Rattle.mar_model.specs.Config.{Config}
use Rattle.mar_model.specs.Event.{Event, cutoff_after, effect_of, no_floor, processed_after}
use Rattle.mar_model.specs.Faults.{Fault, event_fault, is_by_value, meta_store, next_after, store_fault, sync_kind, ticket_limit, want_of_memory}
use Rattle.mar_model.specs.Cache.{MayBeCached, certified_from, is_below, is_certified_below, is_pruned, witnessing_of}
use Rattle.mar_model.specs.Cached.{Cached, cached_block, cached_finalization, epoch_of}
use Rattle.mar_model.specs.Held.{Ending, IsArchiveFault, IsUsual, LeavesCache, LeavesStore, Loses, Seen, Written, blocks_left, cache_left, certs_left}
use Rattle.mar_model.specs.Lives.{AsksUntilCut, Cuts, CutsBy, IsGoodEnded, NotBelow, Reached, is_dropped_ack, is_refused_floor, reached_after, reached_before}
use Rattle.mar_model.specs.Node.{Agrees, AreBlocksOf, AreFinalizationsOf, Ended, IsFinalized, IsGood, Node}
use Rattle.mar_model.specs.Answers.{Sent, answers_of, sends_of, TicketAnswer}
use Rattle.mar_model.specs.Promise.{Waiting, made_of, node_of}
use Rattle.mar_model.specs.Sound.{IsSafePair, IsSound}
use Rattle.mar_model.specs.Step.{AreHandedOf, AreTipsOf, HandedFrom, IsFront, Report, TipsFrom, handed_blocks, nothing_made, IsBlockFrom, IsCertFrom}
use Rattle.mar_model.proofs.Reaching.{AreTips, no_handed, put_from}
use Rattle.mar_model.proofs.CacheChanges.{any_within, map_within}
use Rattle.mar_model.proofs.CacheOver.{OwnCache}
use Rattle.mar_model.proofs.Filtered.{all_found_put}
use Rattle.mar_model.proofs.Soundness.{IsFrom, from_none, IsGoodEnded-from_sound, IsSound-from_good, IsSound-untold, may_cached_blocks_of, may_cached_of}

-- WHAT IS LEFT

pub keeps_heights : {T : Type 0} (old new : List (At T)) → KeepsValues old new → (h : ℕ) → IsTrue (has_height old h) → IsTrue (has_height new h)
keeps_heights old new keeps h has = by (value-from_has_height old h has)
  where
    by : (v : _) × (value_at old h ≡ Some v) → IsTrue (has_height new h)
    by (v, is) = has_height-from_value new h v (keeps h v is)

-- What is left of the stores since an event began, and what the event put: its own block and finalization, its entries of the
-- cache and its prunes.
pub record LeavesStores (config : Config) (chain : Chain) (n : Node) (e : Event) (left : Ended) : Type 0 where
  pub put_blocks : List (At Block)
  pub put_certs : List (At Finalization)
  pub blocks : LeavesStore n.blocks 0 put_blocks (blocks_left left)
  pub certs : LeavesStore n.certs 0 put_certs (certs_left left)
  pub of_blocks : AreBlocksOf chain put_blocks
  pub of_certs : AreFinalizationsOf chain put_certs
  pub own_blocks : (x : At Block) → Contains put_blocks x → IsBlockFrom n e x
  pub own_certs : (x : At Finalization) → Contains put_certs x → IsCertFrom n e x
  pub put_cached : List Cached
  pub prunes : List Round
  pub own_cache : OwnCache config chain n e put_cached prunes
  pub cache : LeavesCache (left_of n.cache) n.lowests put_cached prunes (cache_left left) left.lowests

-- what was held stands among what may be left, and what is sure too
held_may_heights : {T : Type 0} (start : Kept (At T)) (put : List (At T)) (left : Left (At T)) → LeavesStore start 0 put left → (h : ℕ) → 0 ≤ h → IsTrue (has_height start.held h) → IsTrue (has_height left.may h)
held_may_heights start put left leaves h low has = by (value-from_has_height start.held h has)
  where
    by : (v : _) × (value_at start.held h ≡ Some v) → IsTrue (has_height left.may h)
    by (v, is) = has_height-from_contains left.may (record { height = h; value = v }) (leaves.held _ (omega arith) (Contains-from_value start.held h v is))

pub sure_may_heights : {T : Type 0} (start : Kept (At T)) (put : List (At T)) (left : Left (At T)) → LeavesStore start 0 put left → (h : ℕ) → IsTrue (has_height left.sure h) → IsTrue (has_height left.may h)
sure_may_heights start put left leaves h has = by (value-from_has_height left.sure h has)
  where
    by : (v : _) × (value_at left.sure h ≡ Some v) → IsTrue (has_height left.may h)
    by (v, is) = has_height-from_contains left.may (record { height = h; value = v }) (leaves.sure_may h v is)

-- all that was sure is sure
pub keeps_sure : {T : Type 0} (start : Kept (At T)) (put : List (At T)) (left : Left (At T)) → LeavesStore start 0 put left → KeepsValues start.sure left.sure
keeps_sure start put left leaves h v is = leaves.sure h v (omega arith) is

pub some_from_first : (pairs : List Pair) (p : Pair) → first_pair pairs ≡ Some p → 0 < length pairs
some_from_first [] p is = absurd cc
some_from_first (q ∷ pairs) p is = omega arith

pub contains_first : (pairs : List Pair) (p : Pair) → first_pair pairs ≡ Some p → Contains (map (λ q. q.processed) pairs) p.processed
contains_first [] p is = absurd cc
contains_first (q ∷ pairs) p is = (zero, omega arith, ap (λ r. r.processed) (inside is))
  where
    inside : ◌≡◌ {A = Option Pair} (Some q) (Some p) → q ≡ p
    inside e = cc

contains_second : {T : Type 0} (xs : List T) (x y : T) → Contains (xs ++ x ∷ y ∷ []) y
contains_second xs x y = Contains-append_right xs (x ∷ y ∷ []) y (1, omega arith, refl)

pub only_one : {T : Type 0} (x y : T) → Contains (x ∷ []) y → x ≡ y
only_one x y (zero, lt, is) = is
only_one x y (suc k, lt, is) = absurd (omega arith)

-- CUTS

module _ {P E : Type 0} (config : Config) (chain : Chain) (a : Seen P E) (e : Event) (buffer : List Block) (waiting : Waiting) where
  abbrev pub n : Node
  n = node_of a buffer waiting

  abbrev pub own : Pair
  own = pair_of a.held.processed a.held.cutoff

  abbrev pub after : Pair
  after = pair_of (processed_after n e no_floor) (cutoff_after config n e no_floor)

  -- a pair that was there before, or the one that the event gives to the sync
  abbrev pub MayBeLeft : List (At Block) → Pair → Type 0
  MayBeLeft sure p = (own ≡ p) ⊎ ((after ≡ p) × IsSafePair chain sure p × NotBelow (option_map height_in a.held.processed) p.processed)

  -- from a node that is good once some tip is told, where these were sent before
  module _ (tip_before : ℕ) (good : IsGood config chain (record n { tip = tip_before })) (no_effect : effect_of config n e ≡ no_floor) (sends : List Sent) (sent : IsFront sends (sends_of n e)) where
    -- all that a cut says, of what is left, where these were answered before
    abbrev pub CutsOf : List TicketAnswer → Type 0
    CutsOf answers =
        (reports : List Report) (asks : List Call) (tip : ℕ) (reached : Reached) (fault : Fault) (left : Ended) → TipsFrom a.life.tip reports tip → AreTipsOf chain reports
        → (reached ≡ reached_before n e) ⊎ (reached ≡ reached_after n e no_floor) × Contains (map (λ p. p.processed) left.meta) reached.processed
        → HandedFrom left.blocks_sure a.life.next_ack (next_after reached.processed + length reached.out) (handed_blocks reports)
        → AreHandedOf chain left.blocks_sure (handed_blocks reports) → LeavesStores config chain n e left → 0 < length left.meta
        → (first_pair left.meta ≡ first_pair a.held.pairs) ⊎ (fault ≡ store_fault meta_store → ⊥) × (first_pair left.meta ≡ Some after) → ((p : Pair) → Contains left.meta p
        → MayBeLeft left.blocks_sure p) → (IsTrue (is_by_value fault) → event_fault config n e ≡ Some fault) → (IsTrue (is_refused_floor e fault) → ⊥)
        → (IsTrue (is_dropped_ack fault) → left.meta ≡ a.held.pairs) → AsksUntilCut config chain n e no_floor asks
        → Cuts config chain n (e ∷ []) (record (made_of reports asks) { sends = sends; answers = answers }) fault left

    pub Cuts-told : (answers : List TicketAnswer) → ((lowest : ℕ) × IsFront answers (answers_of config n lowest e no_floor)) → CutsOf answers
    Cuts-told answers answered reports asks tip reached fault left tips tips_chain reached_is in_order hands_chain leaves some first pairs cause refused unsynced asked = record {
      finished = [];
      event = e;
      others = [];
      split = refl;
      first = nothing_made;
      later = record (made_of reports asks) { sends = sends; answers = answers };
      made_is = refl;
      mid = n;
      advances = (refl, refl);
      cut = subst (λ fx. CutsBy config chain a.held.pairs (option_map height_in a.held.processed) n e fx (record (made_of reports asks) { sends = sends; answers = answers }) fault left)
          (sym no_effect) unfloored;
    }
      where
        sure_cached : (x : Cached) → Contains a.held.cache.kept.sure x → Contains left.cache_sure x ⊎ (epoch_of x < n.lowest) ⊎ IsTrue (is_pruned config n e no_floor x)
        sure_cached x has = ⊎_elim (λ there. inl there) (λ pruned. inr (inr (ap (λ d. d || is_certified_below (certified_from n no_floor) x) (any_within (λ p. is_below p x) leaves.prunes (witnessing_of config n e no_floor).prunes leaves.own_cache.prunes_own pruned)))) (leaves.cache.sure x has)

        may_cached : (x : Cached) → Contains left.cache_may x → MayBeCached config n e no_floor x
        may_cached x has = ⊎_elim (λ before. inl before) (λ new. inr (leaves.own_cache.own x new)) (Contains-append_cases a.held.cache.kept.may leaves.put_cached x (leaves.cache.may x has))

        lowest_cached : (k : ℕ) → Contains left.lowests k → Contains (a.held.lowests ++ map (λ p. p.epoch) (witnessing_of config n e no_floor).prunes) k
        lowest_cached k has = ⊎_elim (λ before. Contains-append_left a.held.lowests (map (λ p. p.epoch) (witnessing_of config n e no_floor).prunes) k before) (λ new. Contains-append_right a.held.lowests (map (λ p. p.epoch) (witnessing_of config n e no_floor).prunes) k (map_within (λ (p : Round). p.epoch) leaves.prunes (witnessing_of config n e no_floor).prunes leaves.own_cache.prunes_own k new)) (Contains-append_cases a.held.lowests (map (λ p. p.epoch) leaves.prunes) k (leaves.cache.lowest k has))

        sound : IsSound chain n
        sound = IsSound-untold chain n tip_before (IsSound-from_good config chain (record n { tip = tip_before }) good)

        allowed : (p : Pair) → (own ≡ p) ⊎ ((after ≡ p) × IsSafePair chain left.blocks_sure p × NotBelow (option_map height_in a.held.processed) p.processed) → Contains (a.held.pairs ++ own ∷ after ∷ []) p
        allowed p (inl is) = subst (Contains (a.held.pairs ++ own ∷ after ∷ [])) is (Contains-append_right a.held.pairs (own ∷ after ∷ []) own (0, omega arith, refl))
        allowed p (inr is) = subst (Contains (a.held.pairs ++ own ∷ after ∷ [])) is.0 (contains_second a.held.pairs own after)

        not_below : (p : Pair) → (own ≡ p) ⊎ ((after ≡ p) × IsSafePair chain left.blocks_sure p × NotBelow (option_map height_in a.held.processed) p.processed) → NotBelow (option_map height_in a.held.processed) p.processed
        not_below p (inl is) = subst (λ q. NotBelow (option_map height_in a.held.processed) q.processed) is (le_refl (next_after (option_map height_in a.held.processed)))
        not_below p (inr is) = is.2

        of_node : (p : Pair) → (own ≡ p) ⊎ ((after ≡ p) × IsSafePair chain left.blocks_sure p × NotBelow (option_map height_in a.held.processed) p.processed) → (Contains a.held.pairs p × IsFrom 0 p.processed) ⊎ IsSafePair chain left.blocks_sure p
        of_node p (inl is) = inl (subst (λ ps. Contains ps p) (sym good.heights.own_pair) (zero, omega arith, is), from_none p.processed)
        of_node p (inr is) = inr is.1

        may_blocks : AreBlocksOf chain left.blocks_may
        may_blocks = AllByRecursion-within (λ x. IsBlockAt chain x.height x.value) left.blocks_may (a.held.blocks.may ++ leaves.put_blocks) leaves.blocks.may (AllByRecursion-append (λ x. IsBlockAt chain x.height x.value) a.held.blocks.may leaves.put_blocks good.of_chain.stores.may_blocks leaves.of_blocks)

        may_certs : AreFinalizationsOf chain left.certs_may
        may_certs = AllByRecursion-within (λ x. Finalizes chain x.height x.value.round x.value.payload) left.certs_may (a.held.certs.may ++ leaves.put_certs) leaves.certs.may (AllByRecursion-append (λ x. Finalizes chain x.height x.value.round x.value.payload) a.held.certs.may leaves.put_certs good.of_chain.stores.may_certs leaves.of_certs)

        good_left : IsGoodEnded chain left
        good_left = IsGoodEnded-from_sound chain n 0 left sound may_blocks may_certs
            (all_found_put cached_finalization (λ f. IsFinalized chain f.round f.payload) left.cache_may a.held.cache.kept.may leaves.put_cached leaves.cache.may (may_cached_of chain n sound) leaves.own_cache.finalizations)
            (all_found_put cached_block (Agrees chain) left.cache_may a.held.cache.kept.may leaves.put_cached leaves.cache.may (may_cached_blocks_of chain n sound) leaves.own_cache.blocks)
            (λ h low has. keeps_heights a.held.blocks.sure left.blocks_sure (keeps_sure a.held.blocks leaves.put_blocks (blocks_left left) leaves.blocks) h has)
            (AllByRecursion-from_contains (λ p. (Contains a.held.pairs p × IsFrom 0 p.processed) ⊎ IsSafePair chain left.blocks_sure p) left.meta (λ p has. of_node p (pairs p has)))

        unfloored : CutsBy config chain a.held.pairs (option_map height_in a.held.processed) n e no_floor (record (made_of reports asks) { sends = sends; answers = answers }) fault left
        unfloored = record {
          tip = tip;
          tips = tips;
          tips_chain = tips_chain;
          reached = reached;
          reached_is = reached_is;
          in_order = in_order;
          hands_chain = hands_chain;
          leaves = record {
            sure_blocks = λ h b is low. leaves.blocks.sure h b (omega arith) is;
            sure_certs = λ h f is low. leaves.certs.sure h f (omega arith) is;
            sure_cache = sure_cached;
            lowests = lowest_cached;
            some_pair = some;
            pairs = AllByRecursion-from_contains (Contains (a.held.pairs ++ own ∷ after ∷ [])) left.meta (λ p has. allowed p (pairs p has));
            good = good_left;
          };
          may = record {
            held_blocks = λ h low has. held_may_heights a.held.blocks leaves.put_blocks (blocks_left left) leaves.blocks h (omega arith) has;
            held_certs = λ h low has. held_may_heights a.held.certs leaves.put_certs (certs_left left) leaves.certs h (omega arith) has;
            blocks = λ x has. put_from (IsBlockFrom n e) a.held.blocks.may leaves.put_blocks leaves.own_blocks x (leaves.blocks.may x has);
            certs = λ x has. put_from (IsCertFrom n e) a.held.certs.may leaves.put_certs leaves.own_certs x (leaves.certs.may x has);
            sure_blocks = sure_may_heights a.held.blocks leaves.put_blocks (blocks_left left) leaves.blocks;
            sure_certs = sure_may_heights a.held.certs leaves.put_certs (certs_left left) leaves.certs;
            cached = may_cached;
          };
          asks = asked;
          sends = sent;
          answers = answered;
          first_pair = first;
          no_lower = AllByRecursion-from_contains (λ p. NotBelow (option_map height_in a.held.processed) p.processed) left.meta (λ p has. not_below p (pairs p has));
          cause = cause;
          refused = λ is. absurd (refused is);
          unsynced = unsynced;
        }

    pub Cuts-left : CutsOf []
    Cuts-left = Cuts-told [] (0, (answers_of config n 0 e no_floor, refl))

    -- A call failed before any block was handed over; `written` has the pairs that a failed sync was to write.
    pub Cuts-before : (tips : List Report) (asks : List Call) (tip : ℕ) (written : Written) (left : Ending) → AreTips tips → TipsFrom a.life.tip tips tip → AreTipsOf chain tips → written.blocks_from ≡ 0 → written.certs_from ≡ 0 → OwnCache config chain n e written.cached written.prunes → AreBlocksOf chain written.blocks → AreFinalizationsOf chain written.certs → ((x : At Block) → Contains written.blocks x → IsBlockFrom n e x) → ((x : At Finalization) → Contains written.certs x → IsCertFrom n e x) → Loses a.held written left → ((p : Pair) → Contains written.pairs p → MayBeLeft left.remains.ended.blocks_sure p) → (IsTrue (is_by_value left.fault) → event_fault config n e ≡ Some left.fault) → (IsTrue (is_refused_floor e left.fault) → ⊥) → (IsTrue (is_dropped_ack left.fault) → left.remains.ended.meta ≡ a.held.pairs) → AsksUntilCut config chain n e no_floor asks → Cuts config chain n (e ∷ []) (record (made_of tips asks) { sends = sends }) left.fault left.remains.ended
    Cuts-before tips asks tip written left only tips_rise tips_chain no_prune no_cert_prune own_cache of_blocks of_certs own_blocks own_certs lost new cause refused unsynced asked =
        Cuts-left tips asks tip (reached_before n e) left.fault left.remains.ended tips_rise tips_chain (inl refl)
        (subst (λ xs. HandedFrom left.remains.ended.blocks_sure a.life.next_ack (next_after (option_map height_in a.held.processed) + length (reached_before n e).out) xs) (sym none) tt)
        (subst (λ xs. AreHandedOf chain left.remains.ended.blocks_sure xs) (sym none) tt)
        leaves (some_from_first left.remains.ended.meta own first) (inl lost.leaves.pairs.first) each cause refused unsynced asked
      where
        none : handed_blocks tips ≡ []
        none = no_handed tips only

        leaves : LeavesStores config chain n e left.remains.ended
        leaves = record {
          put_blocks = written.blocks;
          put_certs = written.certs;
          blocks = subst (λ k. LeavesStore a.held.blocks k written.blocks (blocks_left left.remains.ended)) no_prune lost.leaves.blocks;
          certs = subst (λ k. LeavesStore a.held.certs k written.certs (certs_left left.remains.ended)) no_cert_prune lost.leaves.certs;
          of_blocks = of_blocks;
          of_certs = of_certs;
          own_blocks = own_blocks;
          own_certs = own_certs;
          put_cached = written.cached;
          prunes = written.prunes;
          own_cache = own_cache;
          cache = lost.leaves.cache;
        }

        first : first_pair left.remains.ended.meta ≡ Some own
        first = lost.leaves.pairs.first ∙ ap first_pair good.heights.own_pair

        each : (p : Pair) → Contains left.remains.ended.meta p → MayBeLeft left.remains.ended.blocks_sure p
        each p has = ⊎_elim (λ old. inl (only_one own p (subst (λ ps. Contains ps p) good.heights.own_pair old))) (λ is_new. new p is_new) (Contains-append_cases a.held.pairs written.pairs p (lost.leaves.pairs.within p has))
        -- FAULTS
        -- such a fault is no value's, no refused floor's and no dropped acknowledgement's

pub usual_not_by_value : (fault : Fault) → IsUsual fault → is_by_value fault ≡ false
usual_not_by_value (store_fault s) usual = refl
usual_not_by_value want_of_memory usual = refl
usual_not_by_value _ usual = absurd usual

pub usual_from_archive : (fault : Fault) → IsArchiveFault fault → IsUsual fault
usual_from_archive (store_fault s) is = tt
usual_from_archive want_of_memory is = tt
usual_from_archive _ is = absurd is

pub usual_not_dropped : (fault : Fault) → IsUsual fault → is_dropped_ack fault ≡ false
usual_not_dropped (store_fault s) usual = refl
usual_not_dropped want_of_memory usual = refl
usual_not_dropped _ usual = absurd usual

-- nor is the fault of a sync that could not be started
pub unstarted_plain : {T : Type 0} (fault : Fault) → IsArchiveFault fault ⊎ ((fault ≡ ticket_limit sync_kind) × T) → (is_by_value fault ≡ false) × (is_dropped_ack fault ≡ false)
unstarted_plain fault (inl archive) = (usual_not_by_value fault (usual_from_archive fault archive), usual_not_dropped fault (usual_from_archive fault archive))
unstarted_plain fault (inr limit) = (ap is_by_value limit.0, ap is_dropped_ack limit.0)

pub never : (b : Bool) → b ≡ false → IsTrue b → ⊥
never b off on = let both : false ≡ true = sym off ∙ on in cc
