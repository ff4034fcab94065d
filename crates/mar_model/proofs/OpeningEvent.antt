-- An opening: a node that begins, or a cut before its start.
use Rattle.std.proofs.Common.{◌≡◌, ◌⊎◌, inl, inr, ⊎_elim, ℕ, ◌+◌, ◌==◌, ◌||◌, List, [], ◌∷◌, ◌++◌, if◌then◌else◌, nat_lt, Bool, true, false, Option, Some, None, IfSome, is_some, option_map, IsTrue, Contains, refl, sym, ◌∙◌, ap, ap₂, subst, arith, append-nil, eqb-true}
use Rattle.std.specs.Option.{option_or}
use Rattle.std.proofs.lemmas.Bool.{eqb-false}
use Rattle.std.proofs.lemmas.List.Elements.{Contains-append_cases}
use Rattle.mar_types.specs.Epochs.{Epochs}
use Rattle.mar_types.specs.Round.{Round}
use Rattle.mar_cert.specs.Block.{Block}
use Rattle.mar_cert.specs.Finalization.{Finalization}
use Rattle.mar_key.specs.Cutoff.{Cutoff}
use Rattle.mar_key.specs.Processed.{Processed, at_block, height_in}
use Rattle.mar_store.specs.Kept.{At, Kept, Reopens, has_height, reopened_store, value_at}
use Rattle.mar_store.specs.Changes.{KeepsValues, left_of}
use Rattle.mar_store.proofs.Lookups.{AllByRecursion-append, AllByRecursion-contains, AllByRecursion-from_contains, AllByRecursion-within, EachHeightOnce-push, missing-from_has_height, value_at-append, value_at-from_contains, value_at-one_other}
use Rattle.mar_model.specs.Stored.{at_own_height, block_of, is_held}
use Rattle.mar_model.specs.Metadata.{Pair, pair_of}
use Rattle.mar_model.specs.Cached.{cached_block, cached_finalization, Cached}
use Rattle.mar_model.specs.Chain.{Chain, Finalizes, IsBlockAt}
use Rattle.mar_model.specs.Config.{Config}
use Rattle.mar_model.specs.Faults.{Begin, Fault, anchor_fault, from_genesis, genesis_fault, genesis_height, is_by_value, next_after, opening_fault, stored_mismatch, successor_fault, unbacked, with_genesis}
use Rattle.mar_model.specs.Held.{Ending, Grew, Held, IsEndedBy, IsUsual, Loses, LosesOpening, Remains, Remembered, ReopensAs, Sizes, Written, first_life, nothing_written, picks_of, written_block, seen}
use Rattle.mar_model.specs.Node.{CacheSync}
use Rattle.mar_model.specs.Lives.{BackedBy, CutsReopening, Finds, IsGoodEnded, IsOpeningFault, IsPicked, IsSettled, OpeningPair, SameAt, opened_cutoff, opened_node, opened_witnessed, processed_at}
use Rattle.mar_model.specs.Moves.{StoresValue, newest_tip}
use Rattle.mar_model.specs.Stored.{newest}
use Rattle.mar_model.specs.Node.{Agrees, AreBlocksOf, Ended, FloorSafe, IsFinalized, IsGood, IsGoodInHeights, Node, empty_inbox, empty_peers}
use Rattle.mar_gate.specs.Writing.{Writing, no_writes}
use Rattle.mar_model.specs.Opening.{BeginsWith, Derives, Enters, IsBeginFault, derived_cutoff, derived_pair, is_begun, next_fault, pair_in}
use Rattle.mar_model.specs.Step.{nothing_made}
use Rattle.mar_model.specs.Promise.{Begins, IsLawfulOpening, node_of, none_waiting}
use Rattle.mar_model.specs.Sound.{IsSafePair, IsSound}
use Rattle.mar_model.proofs.Cutting.{keeps_heights, never, only_one, usual_not_by_value}
use Rattle.mar_model.proofs.EntryLists.{contains_none}
use Rattle.mar_model.proofs.Filtered.{all_found_within}
use Rattle.mar_model.proofs.Openings.{IsGoodInHeights-opened, IsSound-opened, processed_at-height}
use Rattle.mar_model.proofs.Passing.{FailsBy-then}
use Rattle.mar_model.proofs.Reopenings.{LosesOpening-then}
use Rattle.mar_model.proofs.Soundness.{IsGood-from_parts, IsSafePair-kept, IsSound-moved, from_none}
use Rattle.mar_model.proofs.Tips.{newest_tip-high}

-- JUDGED BY WHAT STANDS AT EACH HEIGHT

module _ (xs ys : List (At Block)) (same : (h : ℕ) → value_at xs h ≡ value_at ys h) where
  has_same : (h : ℕ) → has_height xs h ≡ has_height ys h
  has_same h = ap is_some (same h)

  anchor_same : (p : Option ℕ) → anchor_fault xs p ≡ anchor_fault ys p
  anchor_same None = refl
  anchor_same (Some h) = ap₂ (λ a b. if a || b then None else Some (unbacked h)) (has_same h) (has_same (h + 1))

  successor_same : (certs : List (At Finalization)) (next : ℕ) → successor_fault (value_at xs next) (value_at certs next) ≡ successor_fault (value_at ys next) (value_at certs next)
  successor_same certs next = ap (λ o. successor_fault o (value_at certs next)) (same next)

-- THE FIRST FAULT OF SEVERAL

first_fault : (a b : Option Fault) (fault : Fault) → a ≡ Some fault → option_or a b ≡ Some fault
first_fault a b fault is = ap (λ o. option_or o b) is

later_fault : (a b : Option Fault) → a ≡ None → option_or a b ≡ b
later_fault a b none = ap (λ o. option_or o b) none

-- WHAT WAS FOUND

at_block-height : (p : Option ℕ) → option_map height_in (option_map at_block p) ≡ p
at_block-height None = refl
at_block-height (Some h) = refl

module _ (old : Remains) (luck : ℕ) (first : Held) (reopens : ReopensAs old luck first) where
  found_pair : pair_in first ≡ reopens.pair
  found_pair = ap (λ p. pair_of p first.cutoff) reopens.processed ∙ (ap (λ c. pair_of (option_map at_block reopens.pair.processed) c) reopens.cutoff ∙ ap (λ p. record { processed = p; cutoff = reopens.pair.cutoff }) (at_block-height reopens.pair.processed))

  pair_may : Contains old.ended.meta (pair_in first)
  pair_may = subst (Contains old.ended.meta) (sym found_pair) reopens.pair_may

  blocks_may : Reopens old.ended.blocks_sure old.ended.blocks_may first.blocks.held
  blocks_may = subst (Reopens old.ended.blocks_sure old.ended.blocks_may) (sym (ap (λ k. k.held) reopens.blocks.is)) reopens.blocks.found_may

  certs_may : Reopens old.ended.certs_sure old.ended.certs_may first.certs.held
  certs_may = subst (Reopens old.ended.certs_sure old.ended.certs_may) (sym (ap (λ k. k.held) reopens.certs.is)) reopens.certs.found_may

  first_blocks : first.blocks ≡ reopened_store first.blocks.held
  first_blocks = reopens.blocks.is ∙ ap reopened_store (sym (ap (λ k. k.held) reopens.blocks.is))

  first_certs : first.certs ≡ reopened_store first.certs.held
  first_certs = reopens.certs.is ∙ ap reopened_store (sym (ap (λ k. k.held) reopens.certs.is))

  abbrev processed : Option ℕ
  processed = (pair_in first).processed

  -- a fault of these values is the opening's
  found_fault : (begin : Begin) (fault : Fault) → opening_fault first.blocks.held first.certs.held (pair_in first) begin ≡ Some fault → IsOpeningFault old.ended (picks_of old luck) begin fault
  found_fault begin fault is = record {
    pair = pair_in first;
    pair_may = pair_may;
    blocks = first.blocks.held;
    blocks_may = blocks_may;
    certs = first.certs.held;
    certs_may = certs_may;
    picked = subst (IsPicked (picks_of old luck) first.blocks.held first.certs.held) (sym found_pair) reopens.picked;
    is_due = is;
  }

  module _ (g : Block) where
    abbrev begin : Begin
    begin = from_genesis g

    abbrev entered_list : List (At Block)
    entered_list = with_genesis begin processed first.blocks.held

    abbrev next : ℕ
    next = next_after processed

    zero_height : genesis_fault first.blocks.held begin ≡ None → g.height ≡ 0
    zero_height none = by (g.height == 0) refl none
      where
        by : (b : Bool) → (g.height == 0) ≡ b → ◌≡◌ {A = Option Fault} (if b then stored_mismatch g (value_at first.blocks.held 0) else Some (genesis_height g.height)) None → g.height ≡ 0
        by true is judged = eqb-true g.height 0 is
        by false is judged = absurd cc

    -- ENTERING BLOCK 0

    -- a block under the genesis's digest is held
    abbrev named : Bool
    named = is_some (block_of first.blocks.held g.digest)

    abbrev pushed : List (At Block)
    pushed = first.blocks.held ++ record { height = 0; value = g } ∷ []

    same_pushed : has_height first.blocks.held 0 ≡ false → (h : ℕ) → value_at pushed h ≡ (if 0 == h then Some g else value_at first.blocks.held h)
    same_pushed lacks h = by (0 == h) refl
      where
        none : value_at first.blocks.held 0 ≡ None
        none = missing-from_has_height first.blocks.held 0 lacks

        or_none : (o : Option Block) → option_or o None ≡ o
        or_none None = refl
        or_none (Some b) = refl

        by : (b : Bool) → (0 == h) ≡ b → value_at pushed h ≡ (if b then Some g else value_at first.blocks.held h)
        by true is = subst (λ k. value_at pushed k ≡ Some g) (eqb-true 0 h is) (value_at-append first.blocks.held _ 0 ∙ ap (λ o. option_or o (Some g)) none)
        by false is = value_at-append first.blocks.held _ h ∙ (ap (λ o. option_or (value_at first.blocks.held h) o) (value_at-one_other 0 h g (eqb-false 0 h is)) ∙ or_none (value_at first.blocks.held h))

    module _ (blocks : Kept (At Block)) (zero_is : g.height ≡ 0) where
      -- block 0 was put, or is held under another height
      entered_by : has_height first.blocks.held 0 ≡ false → (b : Bool) → named ≡ b → StoresValue (is_held first.blocks.held g) first.blocks (at_own_height g) blocks → SameAt blocks.held (if b then first.blocks.held else record { height = 0; value = g } ∷ first.blocks.held)
      entered_by lacks true is stores = subst (λ xs. SameAt xs first.blocks.held) (sym (stores.held ∙ ap (λ b. if b then first.blocks.held else first.blocks.held ++ at_own_height g ∷ []) (held_is ∙ is))) (blocks_may.once, λ h. refl)
        where
          held_is : is_held first.blocks.held g ≡ named
          held_is = ap (λ b. b || named) (ap (has_height first.blocks.held) zero_is ∙ lacks)
      entered_by lacks false is stores = subst (λ xs. SameAt xs (record { height = 0; value = g } ∷ first.blocks.held)) (sym held) (EachHeightOnce-push first.blocks.held 0 g blocks_may.once (missing-from_has_height first.blocks.held 0 lacks), same_pushed lacks)
        where
          own : at_own_height g ≡ record { height = 0; value = g }
          own = ap (λ h. record { height = h; value = g }) zero_is

          held_is : is_held first.blocks.held g ≡ named
          held_is = ap (λ b. b || named) (ap (has_height first.blocks.held) zero_is ∙ lacks)

          held : blocks.held ≡ pushed
          held = stores.held ∙ (ap (λ b. if b then first.blocks.held else first.blocks.held ++ at_own_height g ∷ []) (held_is ∙ is) ∙ ap (λ x. first.blocks.held ++ x ∷ []) own)

      left_off : (a b : Bool) → (a || b) ≡ false → (a ≡ false) × (b ≡ false)
      left_off true b is = cc
      left_off false b is = (refl, is)

      begun_still : (a b c : Bool) → (a || c) ≡ true → ((a || b) || c) ≡ true
      begun_still true b c is = refl
      begun_still false true c is = refl
      begun_still false false c is = is

      Enters-as : (b : Bool) → is_begun processed first.blocks.held ≡ b → Enters b g first.blocks blocks → SameAt blocks.held entered_list
      Enters-as true begun same = subst (λ xs. SameAt blocks.held xs) (sym (ap (λ b. if b then first.blocks.held else record { height = 0; value = g } ∷ first.blocks.held) (begun_still (has_height first.blocks.held 0) named (nat_lt 1 (next_after processed)) begun)))
          (subst (λ k. SameAt k.held first.blocks.held) (sym same) (blocks_may.once, λ h. refl))
      Enters-as false unbegun stores = subst (λ xs. SameAt blocks.held xs) (sym (ap₂ (λ a c. if (a || named) || c then first.blocks.held else record { height = 0; value = g } ∷ first.blocks.held) both.0 both.1 ∙ ap (λ b. if b then first.blocks.held else record { height = 0; value = g } ∷ first.blocks.held) or_off)) (entered_by both.0 named refl stores)
        where
          both : (has_height first.blocks.held 0 ≡ false) × (nat_lt 1 (next_after processed) ≡ false)
          both = left_off (has_height first.blocks.held 0) (nat_lt 1 (next_after processed)) unbegun

          or_off : (named || false) ≡ named
          or_off = by named
            where
              by : (b : Bool) → (b || false) ≡ b
              by true = refl
              by false = refl

      Enters-entered : Enters (is_begun processed first.blocks.held) g first.blocks blocks → SameAt blocks.held entered_list
      Enters-entered enters = Enters-as (is_begun processed first.blocks.held) refl enters

      -- all that is held is sure, and a crash leaves just that
      settled_by : (b : Bool) → Enters b g first.blocks blocks → (same : SameAt blocks.held entered_list) → ((h : ℕ) (v : Block) → value_at blocks.sure h ≡ Some v → Contains blocks.may (record { height = h; value = v })) → IsSettled blocks
      settled_by true same at sure_may = subst IsSettled (sym (same ∙ first_blocks)) (record { sure = refl; may = λ x has. has; held_may = λ x has. has })
      settled_by false stores at sure_may = record {
        sure = stores.sure;
        may = stores.may;
        held_may = λ x has. sure_may x.height x.value (subst (λ xs. value_at xs x.height ≡ Some x.value) (sym stores.sure) (value_at-from_contains blocks.held x at.0 has));
      }

    -- FAULTS

    IsOpeningFault-begin : (fault : Fault) → IsBeginFault g first fault → IsOpeningFault old.ended (picks_of old luck) begin fault
    IsOpeningFault-begin fault (inl limit) = found_fault begin fault (first_fault _ _ fault limit)
    IsOpeningFault-begin fault (inr (inl (limit, genesis))) = found_fault begin fault (later_fault _ _ limit ∙ first_fault _ _ fault genesis)
    IsOpeningFault-begin fault (inr (inr is)) =
        let same = Enters-entered is.blocks (zero_height is.genesis) is.enters in
        found_fault begin fault (later_fault _ _ is.within_limits ∙ (later_fault _ _ is.genesis ∙ first_fault _ _ fault (sym (anchor_same is.blocks.held entered_list same.1 processed) ∙ is.is)))

    -- A NODE THAT BEGINS

    module _ (s : Held) (begins : BeginsWith g first s) where
      zero_is : g.height ≡ 0
      zero_is = zero_height begins.genesis

      entered : SameAt s.blocks.held entered_list
      entered = Enters-entered s.blocks zero_is begins.enters

      pair_same : pair_in s ≡ pair_in first
      pair_same = ap pair_in begins.same ∙ ap (λ p. record { processed = p; cutoff = first.cutoff }) (processed_at-height s.blocks.held processed)

      certs_same : s.certs ≡ first.certs
      certs_same = ap (λ k. k.certs) begins.same

      judged_next : next_fault s ≡ successor_fault (value_at entered_list next) (value_at first.certs.held next)
      judged_next = ap (λ p. successor_fault (value_at s.blocks.held (next_after p.processed)) (value_at s.certs.held (next_after p.processed))) pair_same ∙ (ap (λ k. successor_fault (value_at s.blocks.held next) (value_at k.held next)) certs_same ∙ successor_same s.blocks.held entered_list entered.1 first.certs.held next)

      judged : opening_fault first.blocks.held first.certs.held (pair_in first) begin ≡ successor_fault (value_at entered_list next) (value_at first.certs.held next)
      judged = later_fault _ _ begins.within_limits ∙ (later_fault _ _ begins.genesis ∙ later_fault _ _ (sym (anchor_same s.blocks.held entered_list entered.1 processed) ∙ begins.anchored))

      pub IsOpeningFault-next : (fault : Fault) → next_fault s ≡ Some fault → IsOpeningFault old.ended (picks_of old luck) begin fault
      IsOpeningFault-next fault is = found_fault begin fault (judged ∙ (sym judged_next ∙ is))

      module _ (config : Config) (grew : Grew first (written_block (at_own_height g)) s) (none : next_fault s ≡ None) where
        settled : IsSettled s.blocks
        settled = settled_by s.blocks zero_is (is_begun processed first.blocks.held) begins.enters entered grew.leaves.blocks.sure_may

        abbrev opened : Node
        opened = opened_node config s.blocks first.certs.held (left_of first.cache.kept) first.lowest first.lowests (pair_in first)

        Finds-opened : Finds config old.ended (picks_of old luck) begin opened
        Finds-opened = record {
          pair = pair_in first;
          pair_may = pair_may;
          found = first.blocks.held;
          found_may = blocks_may;
          certs = first.certs.held;
          certs_may = certs_may;
          picked = record { blocks_are = reopens.picked.blocks_are; certs_are = reopens.picked.certs_are; pair_is = subst (λ p. IfSome (picks_of old luck).pair (λ picked. Some p ≡ picked)) (sym found_pair) reopens.picked.pair_is };
          cache = left_of first.cache.kept;
          cache_may = reopens.cache;
          lowest = first.lowest;
          lowests = first.lowests;
          lowests_were = reopens.lowests;
          lowest_was = reopens.lowest;
          blocks = s.blocks;
          settled = settled;
          entered = entered;
          no_fault = judged ∙ (sym judged_next ∙ none);
          node = refl;
        }

        cutoff_is : derived_cutoff config.epochs s ≡ opened_cutoff config.epochs s.blocks.held first.certs.held (pair_in first)
        cutoff_is = ap (λ p. opened_cutoff config.epochs s.blocks.held s.certs.held p) pair_same ∙ ap (λ k. opened_cutoff config.epochs s.blocks.held k.held (pair_in first)) certs_same

        processed_is : s.processed ≡ option_map (processed_at s.blocks.held) processed
        processed_is = ap (λ k. k.processed) begins.same

        derived_is : derived_pair config.epochs s ≡ pair_of opened.processed opened.cutoff
        derived_is = ap₂ pair_of processed_is cutoff_is

        OpeningPair-derived : OpeningPair config old.ended (picks_of old luck) begin (derived_pair config.epochs s)
        OpeningPair-derived = (opened, Finds-opened, derived_is)

        module _ {P E : Type 0} (provider : P) (epocher : E) (sizes : Sizes) (new : Held) (derives : Derives config.epochs s new) (capacity : config.capacity ≡ sizes.capacity) where
          abbrev life : Remembered P E
          life = first_life provider epocher sizes

          -- a node of these values
          abbrev of_values : Held → Option Processed → Cutoff → List Pair → Round → Kept (At Finalization) → ℕ → Writing → Node
          of_values h p c pairs witnessed certs k w = record opened {
            cache = h.cache.kept;
            cache_syncs = h.cache.syncs;
            lowest = h.lowest;
            lowests = h.lowests;
            processed = p;
            cutoff = c;
            meta = pairs;
            witnessed = witnessed;
            certs = certs;
            peers = empty_peers k;
            inbox = empty_inbox k;
            covered = w.covered;
            uncovered = w.uncovered;
            syncs = w.syncs;
            next_sync = w.next_sync;
          }

          same_values : (h h' : Held) (p p' : Option Processed) (c c' : Cutoff) (m m' : List Pair) (w w' : Round) (f f' : Kept (At Finalization)) (k k' : ℕ) (ws ws' : Writing) → h ≡ h' → p ≡ p' → c ≡ c' → m ≡ m' → w ≡ w' → f ≡ f' → k ≡ k' → ws ≡ ws' → of_values h p c m w f k ws ≡ of_values h' p' c' m' w' f' k' ws'
          same_values h h' p p' c c' m m' w w' f f' k k' ws ws' eh ep ec em ew ef ek es =
              ap (λ x. of_values x p c m w f k ws) eh ∙ (ap (λ x. of_values h' x c m w f k ws) ep ∙ (ap (λ x. of_values h' p' x m w f k ws) ec ∙ (ap (λ x. of_values h' p' c' x w f k ws) em ∙ (ap (λ x. of_values h' p' c' m' x f k ws) ew ∙ (ap (λ x. of_values h' p' c' m' w' x k ws) ef ∙ (ap (λ x. of_values h' p' c' m' w' f' x ws) ek ∙ ap (λ x. of_values h' p' c' m' w' f' k' x) es))))))

          writes_are : s.writes ≡ no_writes
          writes_are = ap (λ x. x.writes) begins.same ∙ reopens.writes

          witnessed_is : opened_witnessed s.blocks.held s.certs.held (pair_in s) ≡ opened_witnessed s.blocks.held first.certs.held (pair_in first)
          witnessed_is = ap (λ p. opened_witnessed s.blocks.held s.certs.held p) pair_same ∙ ap (λ k. opened_witnessed s.blocks.held k.held (pair_in first)) certs_same

          begins_is : node_of (seen new life) [] none_waiting ≡ opened
          begins_is =
              ap (λ h. node_of (seen h life) [] none_waiting) derives.same
              ∙ same_values s _ s.processed _ (derived_cutoff config.epochs s) _ (derived_pair config.epochs s ∷ []) _ (opened_witnessed s.blocks.held s.certs.held (pair_in s)) _ s.certs _ sizes.capacity _ s.writes _
              begins.same processed_is cutoff_is (ap (λ p. p ∷ []) derived_is) witnessed_is (certs_same ∙ first_certs) (sym capacity) writes_are
              ∙ (ap (λ (xs : List Cached). record opened { cache = record first.cache.kept { held = xs }; cache_syncs = first.cache.syncs }) reopens.unheld
              ∙ ap (λ (ss : List CacheSync). record opened { cache_syncs = ss }) reopens.no_syncs)

          pub Finds-begun : Finds config old.ended (picks_of old luck) begin (node_of (seen new life) [] none_waiting)
          Finds-begun = subst (Finds config old.ended (picks_of old luck) begin) (sym begins_is) Finds-opened

        module _ (chain : Chain) (asks : IsLawfulOpening config chain old.ended begin) where
          sound : IsSound chain opened
          sound = IsSound-opened config chain asks.lawful asks.partition old.ended (picks_of old luck) begin opened Finds-opened asks.good asks_genesis
            where
              inside : (b : Block) → begin ≡ from_genesis b → g ≡ b
              inside b is = cc

              asks_genesis : (b : Block) → begin ≡ from_genesis b → IsBlockAt chain 0 b
              asks_genesis b is = asks.genesis b is

          heights : IsGoodInHeights config opened
          heights = IsGoodInHeights-opened config chain asks.lawful asks.partition old.ended (picks_of old luck) begin opened Finds-opened asks.good

          pub IsSafePair-derived : IsSafePair chain s.blocks.sure (derived_pair config.epochs s)
          IsSafePair-derived = subst (IsSafePair chain s.blocks.sure) (sym derived_is) (sound.pairs).0

          abbrev tip : ℕ
          tip = newest_tip 0 (newest first.certs.held)

          good : IsGood config chain (record opened { tip = tip })
          good = IsGood-from_parts config chain (record opened { tip = tip }) (IsSound-moved chain opened (record opened { tip = tip }) sound) (record { requests = tt; ready = tt; overflow = tt }) (record {
            heights = record {
              stores = heights.stores;
              delivery = heights.delivery;
              floor_clears = heights.floor_clears;
              own_pair = heights.own_pair;
              sync_open = heights.sync_open;
            };
            not_at_hand = tt;
            tip_reported = newest_tip-high 0 first.certs.held;
          })

          pub Begins-opened : {P E : Type 0} (provider : P) (epocher : E) (sizes : Sizes) (new : Held) → Derives config.epochs s new → config.capacity ≡ sizes.capacity → Begins config chain old.ended (picks_of old luck) begin (node_of (seen new (first_life provider epocher sizes)) [] none_waiting)
          Begins-opened provider epocher sizes new derives capacity = subst (Begins config chain old.ended (picks_of old luck) begin) (sym (begins_is provider epocher sizes new derives capacity)) (record { finds = Finds-opened; good = (tip, good) })

-- A CUT

safe_left : (chain : Chain) (sure left : List (At Block)) (p : Pair) → KeepsValues sure left → IsSafePair chain sure p → IsSafePair chain left p
safe_left chain sure left p keeps safe = IsSafePair-kept chain 0 sure left p (λ h low there. keeps_heights sure left keeps h there) (from_none p.processed) safe

module _ (config : Config) (chain : Chain) (old : Remains) (luck : ℕ) (begin : Begin) (asks : IsLawfulOpening config chain old.ended begin) (written : Written) (e : Ending) (lost : LosesOpening old written e) (own : (x : At Block) → Contains written.blocks x → begin ≡ from_genesis x.value) (of_chain : AreBlocksOf chain written.blocks) (no_certs : written.certs ≡ [])
    (may : (p : Pair) → Contains written.pairs p → OpeningPair config old.ended (picks_of old luck) begin p × IsSafePair chain e.remains.ended.blocks_sure p)
  where
    abbrev left : Ended
    left = e.remains.ended

    safe_old : (p : Pair) → Contains old.ended.meta p → IsSafePair chain left.blocks_sure p
    safe_old p has = safe_left chain old.ended.blocks_sure left.blocks_sure p lost.blocks.sure (record {
      backed = AllByRecursion-contains (λ q. BackedBy old.ended.blocks_sure q.processed) old.ended.meta p asks.good.backed has;
      floor_safe = AllByRecursion-contains (λ q. FloorSafe q.processed q.cutoff old.ended.blocks_sure chain) old.ended.meta p asks.good.floor_safe has;
    })

    safe : (p : Pair) → Contains left.meta p → IsSafePair chain left.blocks_sure p
    safe p has = ⊎_elim (λ there. safe_old p there) (λ new. (may p new).1) (Contains-append_cases old.ended.meta written.pairs p (lost.pairs p has))

    certs_within : (x : At Finalization) → Contains left.certs_may x → Contains old.ended.certs_may x
    certs_within x has = subst (λ xs. Contains xs x) (ap (λ ys. old.ended.certs_may ++ ys) no_certs ∙ append-nil old.ended.certs_may) (lost.certs.may x has)

    good_left : IsGoodEnded chain left
    good_left = record {
      may_blocks = AllByRecursion-within (λ x. IsBlockAt chain x.height x.value) left.blocks_may (old.ended.blocks_may ++ written.blocks) lost.blocks.may (AllByRecursion-append (λ x. IsBlockAt chain x.height x.value) old.ended.blocks_may written.blocks asks.good.may_blocks of_chain);
      may_certs = AllByRecursion-within (λ x. Finalizes chain x.height x.value.round x.value.payload) left.certs_may old.ended.certs_may certs_within asks.good.may_certs;
      may_cached = all_found_within cached_finalization (λ f. IsFinalized chain f.round f.payload) left.cache_may old.ended.cache_may lost.cache.may asks.good.may_cached;
      may_cached_blocks = all_found_within cached_block (Agrees chain) left.cache_may old.ended.cache_may lost.cache.may asks.good.may_cached_blocks;
      backed = AllByRecursion-from_contains (λ p. BackedBy left.blocks_sure p.processed) left.meta (λ p has. (safe p has).backed);
      floor_safe = AllByRecursion-from_contains (λ p. FloorSafe p.processed p.cutoff left.blocks_sure chain) left.meta (λ p has. (safe p has).floor_safe);
    }

    pub CutsReopening-lost : IsUsual e.fault ⊎ IsOpeningFault old.ended (picks_of old luck) begin e.fault → CutsReopening config chain old.ended (picks_of old luck) begin nothing_made e.fault left
    CutsReopening-lost kind = record {
      silent = refl;
      leaves = record {
        sure_blocks = λ h b is low. lost.blocks.sure h b is;
        sure_certs = λ h f is low. lost.certs.sure h f is;
        sure_cache = λ x has. inl (lost.cache.sure x has);
        lowests = lost.cache.lowest;
        some_pair = lost.some_pair asks.some_pair;
        pairs = AllByRecursion-from_contains (λ p. Contains old.ended.meta p ⊎ OpeningPair config old.ended (picks_of old luck) begin p) left.meta (λ p has. ⊎_elim (λ there. inl there) (λ new. inr (may p new).0) (Contains-append_cases old.ended.meta written.pairs p (lost.pairs p has)));
        good = good_left;
      };
      first_pair = lost.first_pair;
      may_blocks = λ x has. ⊎_elim (λ there. inl there) (λ new. inr (own x new)) (Contains-append_cases old.ended.blocks_may written.blocks x (lost.blocks.may x has));
      may_certs = certs_within;
      may_cached = lost.cache.may;
      cause = λ is. by is kind;
    }
      where
        by : IsTrue (is_by_value e.fault) → IsUsual e.fault ⊎ IsOpeningFault old.ended (picks_of old luck) begin e.fault → IsOpeningFault old.ended (picks_of old luck) begin e.fault
        by is (inl usual) = absurd (never (is_by_value e.fault) (usual_not_by_value e.fault usual) is)
        by is (inr found) = found

-- a lawful genesis is the chain's block at its height
genesis_of : (config : Config) (chain : Chain) (old : Ended) (g : Block) → IsLawfulOpening config chain old (from_genesis g) → AreBlocksOf chain (at_own_height g ∷ [])
genesis_of config chain old g asks = (subst (λ h. IsBlockAt chain h g) (sym (asks.lawful.heights 0 g (asks.genesis g refl))) (asks.genesis g refl), tt)

-- WHAT AN OPENING PROMISES

-- a fault by value of a part of an opening is the opening's
module _ (old : Remains) (begin : Begin) (luck : ℕ) (first : Held) (reopens : ReopensAs old luck first) (g : Block) (is : begin ≡ from_genesis g) where
  pub begin_by_value : (fault : Fault) → IsUsual fault ⊎ IsBeginFault g first fault → IsUsual fault ⊎ IsOpeningFault old.ended (picks_of old luck) begin fault
  begin_by_value fault (inl usual) = inl usual
  begin_by_value fault (inr judged) = inr (subst (λ b. IsOpeningFault old.ended (picks_of old luck) b fault) (sym is) (IsOpeningFault-begin old luck first reopens g fault judged))

  module _ (s : Held) (begins_with : BeginsWith g first s) where
    pub next_by_value : (fault : Fault) → IsUsual fault ⊎ (next_fault s ≡ Some fault) → IsUsual fault ⊎ IsOpeningFault old.ended (picks_of old luck) begin fault
    next_by_value fault (inl usual) = inl usual
    next_by_value fault (inr judged) = inr (subst (λ b. IsOpeningFault old.ended (picks_of old luck) b fault) (sym is) (IsOpeningFault-next old luck first reopens g s begins_with fault judged))

    -- a node that begins is what was found, whatever the chain
    pub finds : {P E : Type 0} (config : Config) (provider : P) (epocher : E) (sizes : Sizes) (new : Held) (life : Remembered P E) → Grew first (written_block (at_own_height g)) s → config.capacity ≡ sizes.capacity → Derives config.epochs s new → life ≡ first_life provider epocher sizes → Finds config old.ended (picks_of old luck) begin (node_of (seen new life) [] none_waiting)
    finds config provider epocher sizes new _ grew capacity derives life_is =
        subst (λ l. Finds config old.ended (picks_of old luck) begin (node_of (seen new l) [] none_waiting)) (sym life_is)
        (subst (λ b. Finds config old.ended (picks_of old luck) b (node_of (seen new (first_life provider epocher sizes)) [] none_waiting)) (sym is)
        (Finds-begun old luck first reopens g s begins_with config grew derives.successor provider epocher sizes new derives capacity))

-- a cutoff that couldn't be derived leaves what was sure
pub deriving_keeps : (epochs : Epochs) (s : Held) (e : Ending) → Loses s nothing_written e ⊎ (next_fault s ≡ None) × Loses s (record nothing_written { pairs = derived_pair epochs s ∷ [] }) e → KeepsValues s.blocks.sure e.remains.ended.blocks_sure
deriving_keeps epochs s e (inl lost) = λ h v is. lost.leaves.blocks.sure h v (omega arith) is
deriving_keeps epochs s e (inr (none, lost)) = λ h v is. lost.leaves.blocks.sure h v (omega arith) is

-- and why its life ended
pub deriving_cause : (old : Remains) (luck : ℕ) (first : Held) (some more : Written) (none : Type 0) (e : Ending) → ReopensAs old luck first → Loses first some e ⊎ none × Loses first more e → IsEndedBy old.watches e
deriving_cause old luck first some more none e reopens (inl lost) = FailsBy-then old.watches first.watches e.fault e.remains.watches reopens.passed lost.cause
deriving_cause old luck first some more none e reopens (inr (holds, lost)) = FailsBy-then old.watches first.watches e.fault e.remains.watches reopens.passed lost.cause

module _ (config : Config) (chain : Chain) (old : Remains) (luck : ℕ) (begin : Begin) where
  -- nothing was written yet
  pub cut_early : (e : Ending) → IsLawfulOpening config chain old.ended begin → LosesOpening old nothing_written e → IsUsual e.fault ⊎ IsOpeningFault old.ended (picks_of old luck) begin e.fault → CutsReopening config chain old.ended (picks_of old luck) begin nothing_made e.fault e.remains.ended
  cut_early e asks lost kind = CutsReopening-lost config chain old luck begin asks nothing_written e lost (λ x has. contains_none x has) tt refl (λ p has. contains_none p has) kind

  module _ (first : Held) (reopens : ReopensAs old luck first) (g : Block) (is : begin ≡ from_genesis g) where
    genesis_own : (x : At Block) → Contains (at_own_height g ∷ []) x → begin ≡ from_genesis x.value
    genesis_own x has = is ∙ ap (λ (y : At Block). from_genesis y.value) (only_one (at_own_height g) x has)

    -- block 0 may have been written
    pub cut_begun : (e : Ending) → IsLawfulOpening config chain old.ended begin → Loses first (written_block (at_own_height g)) e → IsUsual e.fault ⊎ IsBeginFault g first e.fault → CutsReopening config chain old.ended (picks_of old luck) begin nothing_made e.fault e.remains.ended
    cut_begun e asks lost kind =
        CutsReopening-lost config chain old luck begin asks (written_block (at_own_height g)) e (LosesOpening-then old luck first (written_block (at_own_height g)) e refl refl refl refl reopens lost) genesis_own (genesis_of config chain old.ended g (subst (IsLawfulOpening config chain old.ended) is asks)) refl (λ p has. contains_none p has)
        (begin_by_value old begin luck first reopens g is e.fault kind)

    module _ (s : Held) (begins_with : BeginsWith g first s) (grew : Grew first (written_block (at_own_height g)) s) where
      abbrev pub with_derived : Epochs → Written
      with_derived epochs = record (written_block (at_own_height g)) { pairs = derived_pair epochs s ∷ [] }

      -- the cutoff may have been written
      pub cut_deriving : (epochs : Epochs) → config.epochs ≡ epochs → (e : Ending) → IsLawfulOpening config chain old.ended begin → Loses first (written_block (at_own_height g)) e ⊎ (next_fault s ≡ None) × Loses first (with_derived epochs) e → KeepsValues s.blocks.sure e.remains.ended.blocks_sure → IsUsual e.fault ⊎ (next_fault s ≡ Some e.fault) → CutsReopening config chain old.ended (picks_of old luck) begin nothing_made e.fault e.remains.ended
      cut_deriving epochs same e asks loses keeps kind = by (subst (λ es. Loses first (written_block (at_own_height g)) e ⊎ (next_fault s ≡ None) × Loses first (with_derived es) e) (sym same) loses)
        where
          own : IsLawfulOpening config chain old.ended (from_genesis g)
          own = subst (IsLawfulOpening config chain old.ended) is asks

          kind_is : IsUsual e.fault ⊎ IsOpeningFault old.ended (picks_of old luck) begin e.fault
          kind_is = next_by_value old begin luck first reopens g is s begins_with e.fault kind

          by : Loses first (written_block (at_own_height g)) e ⊎ (next_fault s ≡ None) × Loses first (with_derived config.epochs) e → CutsReopening config chain old.ended (picks_of old luck) begin nothing_made e.fault e.remains.ended
          by (inl lost) = CutsReopening-lost config chain old luck begin asks (written_block (at_own_height g)) e (LosesOpening-then old luck first (written_block (at_own_height g)) e refl refl refl refl reopens lost) genesis_own (genesis_of config chain old.ended g own) refl (λ p has. contains_none p has) kind_is
          by (inr (none, lost)) = CutsReopening-lost config chain old luck begin asks (with_derived config.epochs) e (LosesOpening-then old luck first (with_derived config.epochs) e refl refl refl refl reopens lost) genesis_own (genesis_of config chain old.ended g own) refl may kind_is
            where
              may : (p : Pair) → Contains (derived_pair config.epochs s ∷ []) p → OpeningPair config old.ended (picks_of old luck) begin p × IsSafePair chain e.remains.ended.blocks_sure p
              may p has = (
                subst (OpeningPair config old.ended (picks_of old luck) begin) derived (subst (λ b. OpeningPair config old.ended (picks_of old luck) b (derived_pair config.epochs s)) (sym is) (OpeningPair-derived old luck first reopens g s begins_with config grew none)),
                subst (IsSafePair chain e.remains.ended.blocks_sure) derived (safe_left chain s.blocks.sure e.remains.ended.blocks_sure (derived_pair config.epochs s) keeps (IsSafePair-derived old luck first reopens g s begins_with config grew none chain own)),
              )
                where
                  derived : derived_pair config.epochs s ≡ p
                  derived = only_one (derived_pair config.epochs s) p has

      pub begins : {P E : Type 0} (provider : P) (epocher : E) (sizes : Sizes) (new : Held) (life : Remembered P E) → IsLawfulOpening config chain old.ended begin → config.capacity ≡ sizes.capacity → Derives config.epochs s new → life ≡ first_life provider epocher sizes → Begins config chain old.ended (picks_of old luck) begin (node_of (seen new life) [] none_waiting)
      begins provider epocher sizes new _ asks capacity derives life_is =
          let own = subst (IsLawfulOpening config chain old.ended) is asks in
          subst (λ l. Begins config chain old.ended (picks_of old luck) begin (node_of (seen new l) [] none_waiting)) (sym life_is)
          (subst (λ b. Begins config chain old.ended (picks_of old luck) b (node_of (seen new (first_life provider epocher sizes)) [] none_waiting)) (sym is)
          (Begins-opened old luck first reopens g s begins_with config grew derives.successor chain own provider epocher sizes new derives capacity))
