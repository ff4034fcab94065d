-- An acknowledgement: what is given at the front is processed, and the node stays good.
use Rattle.std.proofs.Common.{◌≡◌, inr, ℕ, zero, suc, ◌+◌, ◌≤◌, List, [], ◌∷◌, ◌++◌, length, fold, Bool, true, false, if◌then◌else◌, nat_lt, Option, Some, None, Contains, option_map, refl, sym, ◌∙◌, ap, ap₂, subst, arith, append-nil}
use Rattle.std.specs.List.{filter_map}
use Rattle.std.proofs.lemmas.Bool.Decides.{nat_tests}
use Rattle.std.proofs.lemmas.List.{length-map}
use Rattle.mar_types.specs.Epochs.{IsPartition}
use Rattle.mar_types.specs.Round.{Round}
use Rattle.mar_cert.specs.Block.{Block}
use Rattle.mar_cert.specs.Finalization.{Finalization}
use Rattle.mar_key.specs.Cutoff.{Cutoff, greatest_of}
use Rattle.mar_key.specs.Processed.{Processed, first_unprocessed, height_in}
use Rattle.mar_store.specs.Changes.{IsNested, KeepsValues}
use Rattle.mar_store.specs.Kept.{At, value_at}
use Rattle.mar_model.specs.Acks.{Mark, Outstanding, after_given, dropped_oldest, given_front, is_dropped, is_given, mark_dropped, mark_given, mark_waiting, marked_entry, with_mark}
use Rattle.mar_model.specs.Metadata.{Pair, pair_of}
use Rattle.mar_model.specs.Cache.{Witnessing, with_witness, witnessed_rounds, witnessing_of}
use Rattle.mar_model.specs.Chain.{Chain, IsLawful}
use Rattle.mar_model.specs.Config.{Config}
use Rattle.mar_model.specs.Event.{ack_marked, acked_to, all_retired, cutoff_after, no_floor, processed_after, round_at}
use Rattle.mar_model.specs.Faults.{dropped_first, next_after}
use Rattle.mar_model.specs.Held.{AreCached, Held, Seen, Watches}
use Rattle.mar_model.specs.Lives.{NotBelow, later_round}
use Rattle.mar_model.specs.Moves.{Drains, PrunesCacheBy, pruned_by, rounds_of, with_cache_of}
use Rattle.mar_model.specs.Node.{FloorSafe, IsGood, Node, Rest, block_missing, floor_awaited, window_full, write_uncovered}
use Rattle.mar_model.specs.Promise.{Waiting, node_of}
use Rattle.mar_model.specs.Requests.{own_asks, retire_asks}
use Rattle.mar_model.specs.Sound.{IsSafePair}
use Rattle.mar_model.proofs.CacheOver.{moves_pruned}
use Rattle.mar_model.proofs.CachePrunes.{IsCacheOf-pruned, PrunesCacheBy-beside, last_after-is, later_rounds-of, witnessing_from}
use Rattle.mar_model.proofs.Cutting.{MayBeLeft, keeps_heights}
use Rattle.mar_model.proofs.FloorSafety.{FloorSafe-after, next_after-is}
use Rattle.mar_model.proofs.OutstandingLemmas.{ConsecutiveFrom-after_given, ConsecutiveFrom-with_mark, all_sure-drained, all_sure-kept, first_unprocessed-rises}
use Rattle.mar_model.proofs.PlainEvents.{Certificates-same, EntersAt-same, Writes-same}
use Rattle.mar_model.proofs.Reaching.{PutsOwn-same, Reaches}
use Rattle.mar_model.proofs.Soundness.{HasAnchor-acked_to, IsSafePair-kept, from_none, own_pair_safe}

-- MARKS

-- no fault is called for where the oldest wasn't dropped
pub dropped_first-none : (out : List Outstanding) → dropped_oldest out ≡ None → dropped_first out ≡ None
dropped_first-none [] none = refl
dropped_first-none (o ∷ out) none = by o.mark none
  where
    by : (mark : Mark) → (if is_dropped mark then Some o else None) ≡ None → dropped_first (record o { mark = mark } ∷ out) ≡ None
    by mark_waiting e = refl
    by mark_given e = refl
    by mark_dropped e = absurd cc

-- no more stay than there were
pub length-after_given : (out : List Outstanding) → length (after_given out) ≤ length out
length-after_given [] = omega arith
length-after_given (o ∷ out) = by (is_given o.mark) (length-after_given out)
  where
    by : (given : Bool) → length (after_given out) ≤ length out → length (if given then after_given out else o ∷ out) ≤ suc (length out)
    by true fewer = omega arith
    by false fewer = omega arith

-- where none is given at the front, all stay
pub after_given-none : (out : List Outstanding) → given_front out ≡ [] → after_given out ≡ out
after_given-none [] none = refl
after_given-none (o ∷ out) none = by (is_given o.mark) none
  where
    by : (given : Bool) → (if given then o ∷ given_front out else []) ≡ [] → (if given then after_given out else o ∷ out) ≡ o ∷ out
    by true e = absurd cc
    by false e = refl

-- a list that isn't longer than none is empty
none_of_length : {T : Type 0} (xs : List T) → false ≡ nat_lt 0 (length xs) → xs ≡ []
none_of_length [] e = refl
none_of_length (x ∷ xs) e = absurd (clash (length xs) e)
  where
    clash : (k : ℕ) → false ≡ nat_lt 0 (suc k) → ⊥
    clash k is = grind (arith, nat_tests)

-- THE WITNESSED ROUND

-- the later of the rounds at these heights is the last one witnessed
pub later_rounds-are : (certs : List (At Finalization)) (retention : ℕ) (w : Witnessing) (out : List Outstanding) → fold (λ r o. later_round r (round_at certs o.height)) w.last out ≡ (fold (with_witness retention) w (filter_map (λ o. round_at certs o.height) out)).last
later_rounds-are certs retention w out = later_rounds-of certs w.last out ∙ sym (last_after-is retention w (rounds_of certs out))

-- THE EVENT

-- an actor once its own pair was synced
abbrev pub with_own_pair : {P E : Type 0} → Watches → Seen P E → Seen P E
with_own_pair watches b = record b { held = record b.held { pairs = pair_of b.held.processed b.held.cutoff ∷ []; watches = watches } }

module _ {P E : Type 0} (config : Config) (chain : Chain) (lawful : IsLawful config.epochs chain) (partition : IsPartition config.epochs) (a : Seen P E) (t : ℕ) (as_mark : Mark) (buffer : List Block) (waiting : Waiting) (nested : IsNested a.held.blocks) (certs_nested : IsNested a.held.certs) (good : IsGood config chain (node_of a buffer waiting)) (loaded : a.held.cache.loaded ≡ true) (cached : AreCached a.held) where
  abbrev pub n : Node
  n = node_of a buffer waiting

  -- the actor with the mark
  abbrev pub marked : Seen P E
  marked = record a { life = record a.life { out = with_mark t as_mark a.life.out } }

  -- the blocks that are drained
  abbrev pub drained : List Outstanding
  drained = given_front marked.life.out

  -- the processed height and the cutoff after it
  abbrev pub processed : Option Processed
  processed = acked_to a.held.processed drained

  abbrev pub cutoff : Cutoff
  cutoff = greatest_of a.held.cutoff (all_retired config.epochs a.held.certs.held drained)

  -- the rounds that prune the cache as theirs are witnessed
  abbrev pub prunes : List Round
  prunes = pruned_by a.life.sizes.retention a.held.witnessed (rounds_of a.held.certs.held drained)

  -- the actor once they are drained, with these pairs, and the cache and the counted calls of these stores
  abbrev pub drained_to : List Pair → Held → Seen P E
  drained_to pairs now = record a {
    held = record (with_cache_of now a.held) {
      processed = processed;
      cutoff = cutoff;
      witnessed = fold (λ r o. later_round r (round_at a.held.certs.held o.height)) a.held.witnessed drained;
      pairs = pairs;
    };
    life = record a.life { out = after_given marked.life.out };
  }

  -- what its own sync leaves of them
  abbrev pub own_pairs : List Pair
  own_pairs = pair_of processed cutoff ∷ []

  -- the cutoff is the event's
  pub cutoff-is : cutoff ≡ cutoff_after config n (ack_marked t as_mark) no_floor
  cutoff-is = ap (greatest_of a.held.cutoff) (sym (append-nil (all_retired config.epochs a.held.certs.held drained ++ []) ∙ append-nil (all_retired config.epochs a.held.certs.held drained)))

  -- what is asked is what the event asks
  pub asks-drained : retire_asks config.epochs a.held.certs.held a.held.cutoff drained ≡ own_asks config n (ack_marked t as_mark) no_floor
  asks-drained = sym (append-nil (retire_asks config.epochs a.held.certs.held a.held.cutoff drained ++ []) ∙ append-nil (retire_asks config.epochs a.held.certs.held a.held.cutoff drained))

  -- the rounds that are witnessed are the event's
  rounds-are : rounds_of a.held.certs.held drained ≡ witnessed_rounds n (ack_marked t as_mark) no_floor
  rounds-are = sym (append-nil (rounds_of a.held.certs.held drained))

  -- and so is the last one
  witnessed-is : fold (λ r o. later_round r (round_at a.held.certs.held o.height)) a.held.witnessed drained ≡ (witnessing_of config n (ack_marked t as_mark) no_floor).last
  witnessed-is = later_rounds-are a.held.certs.held config.retention (witnessing_from a.held.witnessed) drained ∙ ap (λ rounds. (fold (with_witness config.retention) (witnessing_from a.held.witnessed) rounds).last) rounds-are

  -- the event prunes by the same rounds, where it retains as many views as the actor
  pub prunes-are : config.retention ≡ a.life.sizes.retention → prunes ≡ (witnessing_of config n (ack_marked t as_mark) no_floor).prunes
  prunes-are retention = ap (λ k. pruned_by k a.held.witnessed (rounds_of a.held.certs.held drained)) (sym retention) ∙ ap (pruned_by config.retention a.held.witnessed) rounds-are

  -- it covers nothing but what is processed or, next after that, sure
  floor_safe : FloorSafe (option_map height_in processed) cutoff a.held.blocks.sure chain
  floor_safe = subst (λ c. FloorSafe (option_map height_in processed) c a.held.blocks.sure chain) (sym cutoff-is) (FloorSafe-after config chain lawful partition n (ack_marked t as_mark) a.held.blocks.sure good.of_chain.stores.held_certs good.heights.delivery.consecutive good.of_chain.floor_safe (λ h low has. has) tt tt)

  -- the window still holds what stays
  still_within : length (after_given marked.life.out) ≤ config.window
  still_within =
      let fewer : length (after_given marked.life.out) ≤ length marked.life.out = length-after_given marked.life.out in
      let same : length marked.life.out ≡ length a.life.out = length-map a.life.out (marked_entry t as_mark) in
      let before : length a.life.out ≤ config.window = good.heights.delivery.within_window in
      omega arith

  -- it is good
  IsGood-drained : (now : Held) → PrunesCacheBy prunes a.held now → IsGood config chain (node_of (drained_to own_pairs now) buffer waiting)
  IsGood-drained now pruned = record {
    heights = record {
      stores = good.heights.stores;
      delivery = record {
        consecutive = ConsecutiveFrom-after_given a.held.processed marked.life.out (ConsecutiveFrom-with_mark t as_mark (first_unprocessed a.held.processed) a.life.out good.heights.delivery.consecutive);
        out_sure = all_sure-kept n (ack_marked t as_mark) no_floor good.heights.delivery.out_sure;
        within_window = still_within;
        anchored = HasAnchor-acked_to a.held.processed drained a.held.blocks.sure good.heights.delivery.anchored (all_sure-drained n (ack_marked t as_mark) good.heights.delivery.out_sure);
      };
      floor_clears = λ some. absurd cc;
      own_pair = refl;
      sync_open = good.heights.sync_open;
    };
    of_chain = record {
      stores = good.of_chain.stores;
      cache = IsCacheOf-pruned chain prunes a.held.cache.kept now.cache.kept good.of_chain.cache (pruned.prunes loaded);
      asks = good.of_chain.asks;
      awaits = good.of_chain.awaits;
      not_at_hand = good.of_chain.not_at_hand;
      floor_safe = floor_safe;
      tip_reported = good.of_chain.tip_reported;
    };
  }

  -- and the event reached it, where the oldest that stays wasn't dropped
  Reaches-drained : prunes ≡ (witnessing_of config n (ack_marked t as_mark) no_floor).prunes → (now : Held) → PrunesCacheBy prunes a.held now → dropped_oldest (after_given marked.life.out) ≡ None → Reaches config chain a (ack_marked t as_mark) buffer waiting [] (drained_to own_pairs now)
  Reaches-drained prunes_own now pruned not_dropped = record {
    comes = record {
      no_part = record {
        no_effect = refl;
        no_query = refl;
        no_fault = dropped_first-none (after_given marked.life.out) not_dropped;
        sends = refl;
        answers = λ lowest. refl;
        subscriptions = refl;
        no_syncs = λ n'. refl;
      };
      kept = refl;
      next_ack = refl;
      next_sync = refl;
      sizes = refl;
      processed = refl;
      cutoff = cutoff-is;
      blocks = PutsOwn-same _ _ _ a.held.blocks a.held.blocks nested refl;
      certs = PutsOwn-same _ _ _ a.held.certs a.held.certs certs_nested refl;
      certificates = Certificates-same a (drained_to own_pairs now) (ack_marked t as_mark) buffer waiting refl;
      writes = (Writes-same a (drained_to own_pairs now) (ack_marked t as_mark) buffer waiting refl refl refl (λ syncs. refl) (λ syncs. refl)).0;
      are_tips = tt;
      tips_rise = refl;
      tips_chain = tt;
      cache = moves_pruned config chain a (drained_to own_pairs now) (ack_marked t as_mark) buffer waiting refl refl refl refl cached.own_lowest prunes loaded prunes_own witnessed-is (PrunesCacheBy-beside prunes a.held now (drained_to own_pairs now).held refl refl refl pruned);
      stored = tt;
      stored_late = tt;
    };
    no_repair = (Writes-same a (drained_to own_pairs now) (ack_marked t as_mark) buffer waiting refl refl refl (λ syncs. refl) (λ syncs. refl)).1;
    unblocked = (Writes-same a (drained_to own_pairs now) (ack_marked t as_mark) buffer waiting refl refl refl (λ syncs. refl) (λ syncs. refl)).2;
    enters = EntersAt-same _ (node_of a buffer waiting) (node_of (drained_to own_pairs now) buffer waiting) refl refl;
  }

  module _ (is_drained : Bool) (b : Seen P E) (drains : Drains config.epochs marked is_drained b) where
    -- the cache of these stores, with so many counted calls
    abbrev counted_to : Watches → Held
    counted_to watches = record b.held { watches = watches }

    pruned : (watches : Watches) → PrunesCacheBy prunes a.held (counted_to watches)
    pruned watches = PrunesCacheBy-beside prunes a.held b.held (counted_to watches) refl refl refl drains.prunes

    -- it is good
    pub IsGood-ack : (m : Seen P E) → m ≡ with_own_pair m.held.watches b → IsGood config chain (node_of m buffer waiting)
    IsGood-ack m after = subst (λ x. IsGood config chain (node_of x buffer waiting)) (sym (after ∙ ap (with_own_pair m.held.watches) drains.same)) (IsGood-drained (counted_to m.held.watches) (pruned m.held.watches))

    -- and has written no more
    pub writes-ack : (m : Seen P E) → m ≡ with_own_pair m.held.watches b → m.held.writes ≡ a.held.writes
    writes-ack m after = ap (λ x. x.held.writes) (after ∙ ap (with_own_pair m.held.watches) drains.same)

    -- An acknowledgement reaches the actor whose pair was synced after it drained, where that retains as many views as the
    -- event says.
    pub Reaches-ack : config.retention ≡ a.life.sizes.retention → (m : Seen P E) → m ≡ with_own_pair m.held.watches b → Reaches config chain a (ack_marked t as_mark) buffer waiting [] m
    Reaches-ack retention m after = subst (λ x. Reaches config chain a (ack_marked t as_mark) buffer waiting [] x) (sym (after ∙ ap (with_own_pair m.held.watches) drains.same)) (Reaches-drained (prunes-are retention) (counted_to m.held.watches) (pruned m.held.watches) drains.not_dropped)

    -- its pair, said of the actor before
    pair-is : pair_of b.held.processed b.held.cutoff ≡ pair_of processed cutoff
    pair-is = ap (λ x. pair_of x.held.processed x.held.cutoff) drains.same

    -- the pair that it gives to the sync is the event's
    pub pair_after-is : pair_of (processed_after n (ack_marked t as_mark) no_floor) (cutoff_after config n (ack_marked t as_mark) no_floor) ≡ pair_of b.held.processed b.held.cutoff
    pair_after-is = ap (pair_of processed) (sym cutoff-is) ∙ sym pair-is

    -- which is safe
    pub pair_after-safe : IsSafePair chain a.held.blocks.sure (pair_of b.held.processed b.held.cutoff)
    pair_after-safe = subst (IsSafePair chain a.held.blocks.sure) (sym pair-is) (own_pair_safe chain (node_of (drained_to own_pairs b.held) buffer waiting) (IsGood-drained b.held drains.prunes).heights.delivery.anchored floor_safe)

    -- and not below the one before
    pub NotBelow-drained : NotBelow (option_map height_in a.held.processed) (option_map height_in b.held.processed)
    NotBelow-drained = subst (λ o. NotBelow (option_map height_in a.held.processed) (option_map height_in o)) (sym (ap (λ x. x.held.processed) drains.same))
        (let low : first_unprocessed a.held.processed ≤ first_unprocessed processed = first_unprocessed-rises n (ack_marked t as_mark) no_floor good.heights.delivery.consecutive in
        subst (λ k. k ≤ next_after (option_map height_in processed)) (sym (next_after-is a.held.processed)) (subst (λ k. first_unprocessed a.held.processed ≤ k) (sym (next_after-is processed)) low))

    -- so it may be left where the sync of that pair fails
    pub MayBeLeft-drained : (sure : List (At Block)) → KeepsValues a.held.blocks.sure sure → (p : Pair) → Contains (pair_of b.held.processed b.held.cutoff ∷ []) p → MayBeLeft config chain a (ack_marked t as_mark) buffer waiting sure p
    MayBeLeft-drained sure keeps p (suc k, lt, is) = absurd (omega arith)
    MayBeLeft-drained sure keeps p (zero, lt, is) = subst (MayBeLeft config chain a (ack_marked t as_mark) buffer waiting sure) is (inr (pair_after-is, kept, NotBelow-drained))
      where
        kept : IsSafePair chain sure (pair_of b.held.processed b.held.cutoff)
        kept = IsSafePair-kept chain 0 a.held.blocks.sure sure (pair_of b.held.processed b.held.cutoff) (λ h low there. keeps_heights a.held.blocks.sure sure keeps h there) (from_none (option_map height_in b.held.processed)) pair_after-safe

  -- WHERE NOTHING WAS DRAINED

  module _ (b : Seen P E) (drains : Drains config.epochs marked false b) where
    -- none was given at the front
    none_drained : drained ≡ []
    none_drained = none_of_length drained drains.drained

    -- so the pair is the one that was synced before
    pairs-are : a.held.pairs ≡ own_pairs
    pairs-are = good.heights.own_pair ∙ sym (ap (λ out. pair_of (acked_to a.held.processed out) (greatest_of a.held.cutoff (all_retired config.epochs a.held.certs.held out)) ∷ []) none_drained)

    -- no round is witnessed, so none prunes
    none_pruned : prunes ≡ (witnessing_of config n (ack_marked t as_mark) no_floor).prunes
    none_pruned = ap (λ out. pruned_by a.life.sizes.retention a.held.witnessed (rounds_of a.held.certs.held out)) none_drained ∙ sym (ap (pruned_by config.retention a.held.witnessed) (sym rounds-are ∙ ap (rounds_of a.held.certs.held) none_drained))

    -- An acknowledgement behind one that is waited for reaches the actor with its mark.
    pub Reaches-undrained : Reaches config chain a (ack_marked t as_mark) buffer waiting [] b
    Reaches-undrained = subst (λ x. Reaches config chain a (ack_marked t as_mark) buffer waiting [] x) (sym (drains.same ∙ ap (λ pairs. drained_to pairs b.held) pairs-are)) (Reaches-drained none_pruned b.held drains.prunes drains.not_dropped)

    pub IsGood-undrained : IsGood config chain (node_of b buffer waiting)
    IsGood-undrained = subst (λ x. IsGood config chain (node_of x buffer waiting)) (sym (drains.same ∙ ap (λ pairs. drained_to pairs b.held) pairs-are)) (IsGood-drained b.held drains.prunes)

    pub writes-undrained : b.held.writes ≡ a.held.writes
    writes-undrained = ap (λ x. x.held.writes) drains.same

    -- as many are waited for, from the same height on, over the same blocks
    same_length : length b.life.out ≡ length a.life.out
    same_length = ap (λ x. length x.life.out) drains.same ∙ (ap (λ out. length out) (after_given-none marked.life.out none_drained) ∙ length-map a.life.out (marked_entry t as_mark))

    same_processed : b.held.processed ≡ a.held.processed
    same_processed = ap (λ x. x.held.processed) drains.same ∙ ap (acked_to a.held.processed) none_drained

    same_blocks : b.held.blocks ≡ a.held.blocks
    same_blocks = ap (λ x. x.held.blocks) drains.same

    -- and it rests as before
    pub Rest-undrained : Rest config.window n → Rest config.window (node_of b buffer waiting)
    Rest-undrained (floor_awaited some) = absurd cc
    Rest-undrained (window_full full) = window_full (same_length ∙ full)
    Rest-undrained (block_missing missing) = block_missing (subst (λ k. value_at b.held.blocks.held k ≡ None) (sym (ap₂ (λ p k. first_unprocessed p + k) same_processed same_length)) (subst (λ kept. value_at kept.held (first_unprocessed a.held.processed + length a.life.out) ≡ None) (sym same_blocks) missing))
    Rest-undrained (write_uncovered h waits low) = write_uncovered h (subst (λ w. Contains w.uncovered h) (sym (ap (λ x. x.held.writes) drains.same)) waits) (subst (λ k. h ≤ k) (sym (ap₂ (λ p k. first_unprocessed p + k) same_processed same_length)) low)
