-- A reported finalization: its block isn't at hand, or is stored above the processed height, or is noted at or below it.
use Rattle.std.proofs.Common.{◌≡◌, ◌⊎◌, inl, inr, ℕ, zero, ◌-◌, ◌^◌, ◌<◌, ◌≤◌, List, [], ◌∷◌, ◌++◌, length, map, drop, fold, Bool, true, false, ◌&&◌, ◌||◌, not, ◌==◌, nat_lt, if◌then◌else◌, Option, Some, None, is_some, option_map, option_to_list, IfSome, IsTrue, IsFalse, Contains, bytes_eq, slice_get, refl, sym, ◌∙◌, ap, subst, arith, append-nil, eqb-true, eq-eqb}
use Rattle.std.specs.List.{filter_map, list_any}
use Rattle.std.specs.Option.{option_or}
use Rattle.std.proofs.lemmas.List.Elements.{Contains-append_right}
use Rattle.std.proofs.lemmas.Option.{same_Some}
use Rattle.mar_types.specs.Epochs.{IsPartition}
use Rattle.mar_types.specs.Round.{Round, round_lt}
use Rattle.mar_cert.specs.Block.{Block}
use Rattle.mar_cert.specs.Finalization.{Finalization}
use Rattle.mar_gate.specs.Writing.{total_writes}
use Rattle.mar_store.specs.Kept.{At, Kept, has_height, value_at}
use Rattle.mar_store.specs.Changes.{IsNested, left_of}
use Rattle.mar_store.proofs.Lookups.{AllByRecursion-contains, AllByRecursion-weaker, Contains-from_value, has_height-from_contains, value-from_has_height, value_at-append}
use Rattle.mar_key.specs.Cutoff.{Cutoff, at_round, greatest_of}
use Rattle.mar_key.specs.Processed.{height_in, height_of}
use Rattle.mar_model.specs.Messages.{report_finalization}
use Rattle.mar_model.specs.Metadata.{pair_of}
use Rattle.mar_model.specs.Stored.{at_own_height, block_of, is_certified, is_held}
use Rattle.mar_model.specs.Cached.{cached_finalization}
use Rattle.mar_model.specs.Answers.{served_answers, unserved_subscriptions}
use Rattle.mar_model.specs.Cache.{Witnessing, prunes_by, with_witness, witnessing_of}
use Rattle.mar_model.specs.Chain.{Chain, Finalizes, IsBlockAt, IsFinal, IsLawful, commitment_at}
use Rattle.mar_model.specs.Config.{Config}
use Rattle.mar_model.specs.Event.{Event, Met, Storing, cutoff_after, message_told, met_finalization, met_of, met_rounds, no_floor, own_writes, processed_after, storing_of, told_finalization}
use Rattle.mar_model.specs.Faults.{event_fault, height_limit, last_height, storing_fault}
use Rattle.mar_model.specs.Held.{AreCached, Held, HeldCache, Seen}
use Rattle.mar_model.specs.Lives.{later_round}
use Rattle.mar_model.specs.Moves.{CachesFinalization, IsRead, PrunesCacheBy, PutsAbove, RaisesTo, StoresLate, StoresValue, StoresWhere, at_height, lacks_finalization, late_tip, late_tips, pruned_by, tip_reports, with_cache_of, with_watches}
use Rattle.mar_model.specs.Node.{AreBlocksOf, AreNestedHeights, FloorSafe, IsCacheOf, IsFinalized, IsGood, Node, OpenSync, SureOrWritten, at_hand}
use Rattle.mar_model.specs.Promise.{AreOne, Waiting, node_of, known_blocks}
use Rattle.mar_model.specs.Requests.{own_asks, raise_asks, reported_asks, want_asks, awaits_no_more, is_pass}
use Rattle.mar_model.specs.Sound.{IsSafePair}
use Rattle.mar_model.specs.Step.{AreTipsOf, CertificatesFrom, EntersAt, IsCertFrom, IsStored, IsStoredLate, Report, TipsFrom, Writes, is_repaired, own_heights}
use Rattle.mar_model.proofs.AtHand.{at_hand-commitment, block_of_final, bytes_same}
use Rattle.mar_model.proofs.CacheOver.{IsCacheOf-put, MovesCache, cached_as, moves_reported}
use Rattle.mar_model.proofs.CachePrunes.{IsCacheOf-pruned, PrunesCacheBy-beside, PrunesCacheBy-none}
use Rattle.mar_model.proofs.Cutting.{keeps_heights, only_one, sure_may_heights}
use Rattle.mar_model.proofs.FloorSafety.{MeetsFinal}
use Rattle.mar_model.proofs.FoundBlocks.{Contains-slice_get, chain_known}
use Rattle.mar_model.proofs.KnownBlocks.{at_hand-known, known_agrees}
use Rattle.mar_model.proofs.PairsAfter.{IsSafePair-after}
use Rattle.mar_model.proofs.Growing.{Grown}
use Rattle.mar_model.proofs.PlainEvents.{Certificates-same, EntersAt-same, Writes-same}
use Rattle.mar_model.proofs.Reaching.{AreTips, HasNoPart, PutsOwn-same, Reaches, brought_from, some_first, told_from}
use Rattle.mar_model.proofs.StoredValues.{stored_height, entered_height, KeepsFrom-put, found_place, any_place, either_test, due_height, KeepsFrom-due, held_due, may_due, sure_due}
use Rattle.mar_model.proofs.Tips.{above_from, low_from, tip_after-high, tip_reports-chain, tip_reports-rise, tip_reports-tips}
use Rattle.mar_model.proofs.StillGood.{IsGood-with, IsGood-grown}

-- WHAT A REPORT STORES AND TELLS

abbrev storing_met : Met → Storing
storing_met m = record { height = m.block.height; with_certificate = true }

-- nobody waits
pub serves_none : (o : Option Block) → served_answers [] o ≡ []
serves_none None = refl
serves_none (Some b) = refl

-- and nobody is left waiting
pub leaves_none : (o : Option Block) → unserved_subscriptions [] o ≡ []
leaves_none None = refl
leaves_none (Some b) = refl

-- TIPS

-- the test of heights
-- only the own height entered
only_own : (held was own above : Bool) → (IsTrue held → IsTrue was ⊎ IsTrue own) → (above && (held && (not was && not own))) ≡ false
only_own held was own false from = refl
only_own false was own true from = refl
only_own true true own true from = refl
only_own true false true true from = refl
only_own true false false true from = by (from refl)
  where
    by : (false ≡ true) ⊎ (false ≡ true) → true ≡ false
    by (inl never) = cc
    by (inr never) = cc

-- a height below the last is no fault
no_limit : (above : Bool) (h : ℕ) → (h ≡ 2 ^ 64 - 1 → ⊥) → (above && h == last_height) ≡ false
no_limit false h apart = refl
no_limit true h apart = by (h == last_height) refl
  where
    by : (c : Bool) → (h == last_height) ≡ c → c ≡ false
    by true same = absurd (apart (eqb-true h last_height same))
    by false other = refl

-- WHICH CERTIFICATE ENTERS

-- what stands behind one more is what stood, or the one more
pushed_value : {T : Type 0} (xs : List (At T)) (x : At T) (h : ℕ) (v : T) → value_at (xs ++ x ∷ []) h ≡ Some v → (value_at xs h ≡ Some v) ⊎ (x.value ≡ v)
pushed_value {T = T} xs x h v is = by (value_at xs h) refl (sym (value_at-append xs (x ∷ []) h) ∙ is)
  where
    by_new : (c : Bool) → ◌≡◌ {A = Option T} (if c then Some x.value else None) (Some v) → x.value ≡ v
    by_new true same = same_Some x.value v same
    by_new false same = absurd cc

    by : (o : Option T) → value_at xs h ≡ o → option_or o (value_at (x ∷ []) h) ≡ Some v → (value_at xs h ≡ Some v) ⊎ (x.value ≡ v)
    by (Some w) at same = inl (at ∙ same)
    by None at same = inr (by_new (x.height == h) same)

-- where nothing stood there is nothing, or the one more
pushed_new : {T : Type 0} (xs : List (At T)) (x : At T) (h : ℕ) → value_at xs h ≡ None → (value_at (xs ++ x ∷ []) h ≡ None) ⊎ (value_at (xs ++ x ∷ []) h ≡ Some x.value)
pushed_new {T = T} xs x h none = by (x.height == h) refl
  where
    alone : value_at (xs ++ x ∷ []) h ≡ value_at (x ∷ []) h
    alone = value_at-append xs (x ∷ []) h ∙ ap (λ o. option_or o (value_at (x ∷ []) h)) none

    by : (c : Bool) → (x.height == h) ≡ c → (value_at (xs ++ x ∷ []) h ≡ None) ⊎ (value_at (xs ++ x ∷ []) h ≡ Some x.value)
    by true same = inr (alone ∙ ap (λ (d : Bool). if d then Some x.value else None) same)
    by false other = inl (alone ∙ ap (λ (d : Bool). if d then Some x.value else None) other)

Certificates-pushed : (n n' : Node) (e : Event) (ignored : Bool) (x : At Finalization) → told_finalization n e ≡ Some x.value → n'.certs.held ≡ (if ignored then n.certs.held else n.certs.held ++ x ∷ []) → CertificatesFrom n e n'
Certificates-pushed n n' e true x told held = record {
  entered = λ h g has. inl (subst (λ xs. value_at xs h ≡ Some g) held has);
  own = λ s g stores told_g none. inl (subst (λ xs. value_at xs s.height ≡ None) (sym held) none);
}
Certificates-pushed n n' e false x told held = record {
  entered = λ h g has. entered h g (pushed_value n.certs.held x h g (subst (λ xs. value_at xs h ≡ Some g) held has));
  own = λ s g stores told_g none. own s.height g (same_Some x.value g (sym told ∙ told_g)) (pushed_new n.certs.held x s.height none);
}
  where
    entered : (h : ℕ) (g : Finalization) → (value_at n.certs.held h ≡ Some g) ⊎ (x.value ≡ g) → (value_at n.certs.held h ≡ Some g) ⊎ IsCertFrom n e (record { height = h; value = g })
    entered h g (inl was) = inl was
    entered h g (inr new) = inr (some_first (told_finalization n e) (filter_map cached_finalization n.cache.held) g (told ∙ ap Some new))

    own : (h : ℕ) (g : Finalization) → x.value ≡ g → (value_at (n.certs.held ++ x ∷ []) h ≡ None) ⊎ (value_at (n.certs.held ++ x ∷ []) h ≡ Some x.value) → (value_at n'.certs.held h ≡ None) ⊎ (value_at n'.certs.held h ≡ Some g)
    own h g same (inl none) = inl (subst (λ xs. value_at xs h ≡ None) (sym held) none)
    own h g same (inr new) = inr (subst (λ xs. value_at xs h ≡ Some g) (sym held) (new ∙ ap Some same))

-- a put of the event's finalization, where it is due
Certificates-put : (n n' : Node) (e : Event) (due ignored : Bool) (x : At Finalization) → told_finalization n e ≡ Some x.value → StoresWhere due ignored n.certs x n'.certs → CertificatesFrom n e n'
Certificates-put n n' e true ignored x told stores = Certificates-pushed n n' e ignored x told stores.held
Certificates-put n n' e false ignored x told same = Certificates-pushed n n' e true x told (ap (λ k. k.held) same)

-- the one height at which a put, or one that is due, enters
entered_due : {T : Type 0} (due ignored : Bool) (old : Kept (At T)) (x : At T) (new : Kept (At T)) (h : ℕ) → StoresWhere due ignored old x new → IsTrue (has_height new.held h) → IsTrue (has_height old.held h) ⊎ (x.height ≡ h)
entered_due true ignored old x new h stores has = entered_height ignored old.held x new.held h stores.held has
entered_due false ignored old x new h same has = inl (subst (λ k. IsTrue (has_height k.held h)) same has)

-- which is the event's own
own_height : (n : Node) (e : Event) (s : Storing) (was : ℕ → Type 0) (h : ℕ) → storing_of n e ≡ Some s → was h ⊎ (s.height ≡ h) → was h ⊎ Contains (own_heights n e no_floor) h
own_height n e s was h is (inl there) = inl there
own_height n e s was h is (inr own) = inr (subst (λ o. Contains (option_to_list (option_map (λ (x : Storing). x.height) o) ++ []) h) (sym is) (zero, omega arith, own))

-- WHAT MAY BE LEFT

-- what a store promises of its values, said of heights
pub nested_heights : {T : Type 0} (kept : Kept (At T)) → IsNested kept → AreNestedHeights kept
nested_heights {T = T} kept is = record { sure_held = λ h has. keeps_heights kept.sure kept.held is.sure_held h has; held_may = λ h has. by h (value-from_has_height kept.held h has) }
  where
    by : (h : ℕ) → (v : T) × (value_at kept.held h ≡ Some v) → IsTrue (has_height kept.may h)
    by h (v, at) = has_height-from_contains kept.may (record { height = h; value = v }) (is.held_may _ (Contains-from_value kept.held h v at))

-- the last position
pub last_position : (syncs : List OpenSync) (s : OpenSync) → Contains (map (λ u. u.position) (syncs ++ s ∷ [])) s.position
last_position [] s = (zero, omega arith, refl)
last_position (u ∷ syncs) s = Contains-append_right (u.position ∷ []) (map (λ v. v.position) (syncs ++ s ∷ [])) s.position (last_position syncs s)

-- all that is held is sure, and all that is sure may be left
nested_stored : {T : Type 0} (start : Kept (At T)) (put : List (At T)) (ignored : Bool) (x : At T) (new : Kept (At T)) → StoresValue ignored start x new → Grown start put new → AreNestedHeights new
nested_stored start put ignored x new stores grown = record {
  sure_held = λ h has. subst (λ xs. IsTrue (has_height xs h)) stores.sure has;
  held_may = λ h has. sure_may_heights start put (left_of new) grown.leaves h (subst (λ xs. IsTrue (has_height xs h)) (sym stores.sure) has);
}

-- the same where it was due
nested_due : {T : Type 0} (start : Kept (At T)) (put : List (At T)) (due ignored : Bool) (x : At T) (new : Kept (At T)) → StoresWhere due ignored start x new → Grown start put new → AreNestedHeights start → AreNestedHeights new
nested_due start put true ignored x new stores grown nested = nested_stored start put ignored x new stores grown
nested_due start put false ignored x new same grown nested = subst AreNestedHeights (sym same) nested

-- the round that is witnessed last
last_witnessed : (retention : ℕ) (last r : Round) → later_round last (Some r) ≡ (fold (with_witness retention) (record { last = last; prunes = [] }) (r ∷ [])).last
last_witnessed retention last r = by (round_lt last r) refl
  where
    by : (c : Bool) → round_lt last r ≡ c → (if c then r else last) ≡ (if◌then◌else◌ {A = Witnessing} c (record { last = r; prunes = prunes_by retention last ∷ [] }) (record { last = last; prunes = [] })).last
    by true newer = refl
    by false older = refl

-- The actor after its cutoff was raised and synced, which may have pruned the cache: what is left open are that, the certificates,
-- the tip and how many calls were counted.
abbrev pub noted : {P E : Type 0} → Seen P E → List Cutoff → Round → Seen P E → Seen P E
noted a cutoffs r m = record a {
  held = record (with_cache_of m.held a.held) { certs = m.held.certs; cutoff = greatest_of a.held.cutoff cutoffs; witnessed = r; pairs = pair_of a.held.processed (greatest_of a.held.cutoff cutoffs) ∷ [] };
  life = record a.life { tip = m.life.tip };
}

-- the same of the actor after the raise and its sync
abbrev pub IsSyncedAfter : {P E : Type 0} → Seen P E → Seen P E → Type 0
IsSyncedAfter w s = s ≡ record w { held = record w.held { pairs = pair_of w.held.processed w.held.cutoff ∷ []; watches = s.held.watches } }

-- a raised cutoff, its sync and a late put leave that, with the tip that the put may make
module _ {P E : Type 0} (inner : List ℕ → List ℕ) (a w s m : Seen P E) (cutoffs : List Cutoff) (r : Round) (f : Finalization) (b : Block) (raised : RaisesTo a cutoffs (r ∷ []) w) (synced : IsSyncedAfter w s) (stores : StoresLate inner s f b m) where
  abbrev with_tip : HeldCache → ℕ → List ℕ → Seen P E
  with_tip cache lowest lowests = record a {
    held = record a.held { certs = m.held.certs; cutoff = greatest_of a.held.cutoff cutoffs; witnessed = later_round a.held.witnessed (Some r); pairs = pair_of a.held.processed (greatest_of a.held.cutoff cutoffs) ∷ []; cache = cache; lowest = lowest; lowests = lowests; watches = m.held.watches };
    life = record a.life { tip = late_tip (lacks_finalization a.held b) a.life.tip b };
  }

  late_is : m ≡ with_tip w.held.cache w.held.lowest w.held.lowests
  late_is =
      stores.same
      ∙ (ap (λ (x : Seen P E). record x { held = record x.held { certs = m.held.certs; watches = m.held.watches }; life = record x.life { tip = late_tip (lacks_finalization x.held b) x.life.tip b } }) synced
      ∙ ap (λ (x : Seen P E). record x { held = record x.held { certs = m.held.certs; pairs = pair_of x.held.processed x.held.cutoff ∷ []; watches = m.held.watches }; life = record x.life { tip = late_tip (lacks_finalization x.held b) x.life.tip b } }) raised.same)

  pub late_cache : m.held.cache ≡ w.held.cache
  late_cache = ap (λ x. x.held.cache) late_is

  pub late_lowest : m.held.lowest ≡ w.held.lowest
  late_lowest = ap (λ x. x.held.lowest) late_is

  pub late_lowests : m.held.lowests ≡ w.held.lowests
  late_lowests = ap (λ x. x.held.lowests) late_is

  pub late_tip-is : m.life.tip ≡ late_tip (lacks_finalization a.held b) a.life.tip b
  late_tip-is = ap (λ x. x.life.tip) late_is

  pub noted_same : m ≡ noted a cutoffs (later_round a.held.witnessed (Some r)) m
  noted_same =
      late_is
      ∙ (ap (λ c. with_tip c w.held.lowest w.held.lowests) (sym late_cache)
      ∙ (ap (λ k. with_tip m.held.cache k w.held.lowests) (sym late_lowest)
      ∙ (ap (λ ks. with_tip m.held.cache m.held.lowest ks) (sym late_lowests)
      ∙ ap (λ t. record (noted a cutoffs (later_round a.held.witnessed (Some r)) m) { life = record a.life { tip = t } }) (sym late_tip-is))))

  -- what the round pruned is pruned
  pub late_pruned : PrunesCacheBy (pruned_by a.life.sizes.retention a.held.witnessed (r ∷ [])) a.held m.held
  late_pruned = PrunesCacheBy-beside (pruned_by a.life.sizes.retention a.held.witnessed (r ∷ [])) a.held w.held m.held late_cache late_lowest late_lowests raised.prunes

  -- and the late put is due by what was held before
  pub noted_certs : StoresWhere (has_height a.held.blocks.held b.height && not (has_height a.held.certs.held b.height)) (is_certified inner a.held.certs.held b.height (inner f.payload)) a.held.certs (at_height b.height f) m.held.certs
  noted_certs =
      subst (λ k. StoresWhere (has_height k.held b.height && not (has_height a.held.certs.held b.height)) (is_certified inner a.held.certs.held b.height (inner f.payload)) a.held.certs (at_height b.height f) m.held.certs) (ap (λ x. x.held.blocks) synced ∙ ap (λ x. x.held.blocks) raised.same)
      (subst (λ k. StoresWhere (has_height s.held.blocks.held b.height && not (has_height k.held b.height)) (is_certified inner k.held b.height (inner f.payload)) k (at_height b.height f) m.held.certs) (ap (λ x. x.held.certs) synced ∙ ap (λ x. x.held.certs) raised.same) stores.certs)

-- A BLOCK AT HAND

module _ {P E : Type 0} (config : Config) (chain : Chain) (a : Seen P E) (f : Finalization) (buffer : List Block) (waiting : Waiting)
    (lawful : IsLawful config.epochs chain) (one : AreOne config.inner (known_blocks chain (node_of a buffer waiting)))
    (good : IsGood config chain (node_of a buffer waiting)) (final : IsFinalized chain f.round f.payload)
  where
    abbrev pub n : Node
    n = node_of a buffer waiting

    abbrev pub e : Event
    e = message_told None (report_finalization f)

    -- the blocks of which no two share a digest
    abbrev pub known : List Block
    known = known_blocks chain n

    -- a block at hand is known
    in_known : (b : Block) → at_hand n f.payload ≡ Some b → Contains known b
    in_known b is = at_hand-known config.inner chain a buffer waiting good.of_chain.stores.held_blocks f.payload b is

    -- and so is each block of the chain
    block_known : (h : ℕ) (c : Block) → IsBlockAt chain h c → Contains known c
    block_known h c at = chain_known config.inner chain a buffer waiting c (Contains-slice_get chain.blocks h c at)

    -- a reported block that is at hand is the finalized one
    pub block-final : (b : Block) → at_hand n f.payload ≡ Some b → IsFinal chain f.round b.height × IsBlockAt chain b.height b
    block-final b is = (subst (λ k. IsFinal chain f.round k) (sym found.1) final.1.named, subst (λ k. IsBlockAt chain k b) (sym found.1) found.0)
      where
        found : IsBlockAt chain final.0 b × (b.height ≡ final.0)
        found = block_of_final config.epochs chain lawful final.0 f.round b (subst (Finalizes chain final.0 f.round) (sym (at_hand-commitment n f.payload b is)) final.1) (known_agrees config.inner chain n one b (in_known b is))

    -- WHAT A REPORT MEETS

    -- what is met, by the block at hand
    rounds_by : (o : Option Block) → at_hand n f.payload ≡ o → met_rounds n (met_finalization n e) ≡ met_rounds n (option_map (λ b. met_of b f) o)
    rounds_by o is = ap (λ p. met_rounds n (option_map (λ b. met_of b f) p)) is

    -- above the processed height no round is met, at or below it the reported one
    pub rounds_at : (b : Block) → at_hand n f.payload ≡ Some b → (c : Bool) → nat_lt (height_of a.held.processed) b.height ≡ c → met_rounds n (met_finalization n e) ≡ (if c then [] else f.round ∷ [])
    rounds_at b is c above = rounds_by (Some b) is ∙ ap (λ (d : Bool). if d then [] else f.round ∷ []) above

    -- what is stored
    pub storing_by : (o : Option Block) → at_hand n f.payload ≡ o → storing_of n e ≡ option_map storing_met (option_map (λ b. met_of b f) o)
    storing_by o is = ap (λ p. option_map storing_met (option_map (λ b. met_of b f) p)) is

    -- gaps are filled where it is stored above the processed height
    abbrev passes_for : Node → Option Storing → Bool
    passes_for n' s = nat_lt 0 (length (own_writes n s no_floor)) || awaits_no_more n.awaited n'.awaited

    pub pass-absent : at_hand n f.payload ≡ None → (n' : Node) → is_pass n e no_floor n' ≡ false
    pass-absent none n' = ap (passes_for n') (storing_by None none)

    pub pass-at : (b : Block) → at_hand n f.payload ≡ Some b → (c : Bool) → nat_lt (height_of a.held.processed) b.height ≡ c → (n' : Node) → is_pass n e no_floor n' ≡ c
    pass-at b is true above n' = ap (passes_for n') (storing_by (Some b) is) ∙ ap (λ (c : Bool). nat_lt 0 (length (if c then b.height ∷ [] else [])) || awaits_no_more n.awaited n'.awaited) above
    pass-at b is false low n' = ap (passes_for n') (storing_by (Some b) is) ∙ ap (λ (c : Bool). nat_lt 0 (length (if c then b.height ∷ [] else [])) || awaits_no_more n.awaited n'.awaited) low

    -- the cutoff after it, the round witnessed last, and what is asked, by the rounds that are met
    cutoff_by : (rs : List Round) → met_rounds n (met_finalization n e) ≡ rs → cutoff_after config n e no_floor ≡ greatest_of a.held.cutoff (map at_round rs)
    cutoff_by rs is = ap (λ cs. greatest_of a.held.cutoff cs) (append-nil (map at_round (met_rounds n (met_finalization n e)))) ∙ ap (λ xs. greatest_of a.held.cutoff (map at_round xs)) is

    pub witnessed_by : (rs : List Round) → met_rounds n (met_finalization n e) ≡ rs → witnessing_of config n e no_floor ≡ fold (with_witness config.retention) (record { last = a.held.witnessed; prunes = [] }) rs
    witnessed_by rs is = ap (fold (with_witness config.retention) (record { last = a.held.witnessed; prunes = [] })) is

    asks_by : (o : Option Block) (rs : List Round) → at_hand n f.payload ≡ o → met_rounds n (met_finalization n e) ≡ rs → own_asks config n e no_floor ≡ reported_asks n f o ++ raise_asks a.held.cutoff (map at_round rs)
    asks_by o rs is met = ap (λ p. reported_asks n f p ++ raise_asks a.held.cutoff (map at_round (met_rounds n (met_finalization n e)))) is ∙ ap (λ xs. reported_asks n f o ++ raise_asks a.held.cutoff (map at_round xs)) met

    -- WHAT IS ASKED FOR

    -- its block is asked for
    pub asks-absent : at_hand n f.payload ≡ None → want_asks a.held.cutoff f.round f.payload ≡ own_asks config n e no_floor
    asks-absent absent = sym (asks_by None [] absent (rounds_by None absent) ∙ append-nil (want_asks a.held.cutoff f.round f.payload))

    -- HELD BY ITS DIGEST

    -- a known block of the same digest as one at hand is that one
    one_block : (b c : Block) → at_hand n f.payload ≡ Some b → Contains known c → c.digest ≡ b.digest → c ≡ b
    one_block b c is there same = one.one c b there (in_known b is) same

    -- a put of the block is only ignored where its height is held
    block_there : (b : Block) → at_hand n f.payload ≡ Some b → IsTrue (is_held a.held.blocks.held b) → IsTrue (has_height a.held.blocks.held b.height)
    block_there b is ignored = by (either_test (has_height a.held.blocks.held b.height) (is_some (block_of a.held.blocks.held b.digest)) ignored)
      where
        same : (x : At Block) → Contains a.held.blocks.held x → bytes_eq x.value.digest b.digest ≡ true → x.height ≡ b.height
        same x has digest = sym (lawful.heights x.height x.value at) ∙ ap (λ c. c.height) (one_block b x.value is (block_known x.height x.value at) (bytes_same x.value.digest b.digest digest))
          where
            at : IsBlockAt chain x.height x.value
            at = AllByRecursion-contains (λ y. IsBlockAt chain y.height y.value) a.held.blocks.held x good.of_chain.stores.held_blocks has

        by : IsTrue (has_height a.held.blocks.held b.height) ⊎ IsTrue (is_some (block_of a.held.blocks.held b.digest)) → IsTrue (has_height a.held.blocks.held b.height)
        by (inl has) = has
        by (inr some) = let place = found_place (λ c. bytes_eq c.digest b.digest) a.held.blocks.held some in subst (λ k. IsTrue (has_height a.held.blocks.held k)) (same place.0 place.1 place.2) (has_height-from_contains a.held.blocks.held place.0 place.1)

    -- and a put of its certificate
    cert_there : (b : Block) → at_hand n f.payload ≡ Some b → IsTrue (is_certified config.inner a.held.certs.held b.height (config.inner f.payload)) → IsTrue (has_height a.held.certs.held b.height)
    cert_there b is ignored = by (either_test (has_height a.held.certs.held b.height) (list_any (λ x. bytes_eq (config.inner x.value.payload) (config.inner f.payload)) a.held.certs.held) ignored)
      where
        digest_is : config.inner f.payload ≡ b.digest
        digest_is = ap config.inner (sym (at_hand-commitment n f.payload b is)) ∙ one.names b (in_known b is)

        same : (x : At Finalization) → Contains a.held.certs.held x → bytes_eq (config.inner x.value.payload) (config.inner f.payload) ≡ true → x.height ≡ b.height
        same x has digest = of_block (slice_get chain.blocks x.height) refl payload
          where
            payload : commitment_at chain x.height ≡ Some x.value.payload
            payload = (AllByRecursion-contains (λ y. Finalizes chain y.height y.value.round y.value.payload) a.held.certs.held x good.of_chain.stores.held_certs has).payload_is

            of_block : (o : Option Block) → slice_get chain.blocks x.height ≡ o → option_map (λ c. c.commitment) o ≡ Some x.value.payload → x.height ≡ b.height
            of_block None at named = absurd cc
            of_block (Some c) at named = sym (lawful.heights x.height c at) ∙ ap (λ d. d.height) (one_block b c is (block_known x.height c at) (sym (one.names c (block_known x.height c at)) ∙ (ap config.inner (inside named) ∙ (bytes_same (config.inner x.value.payload) (config.inner f.payload) digest ∙ digest_is))))
              where
                inside : ◌≡◌ {A = Option (List ℕ)} (Some c.commitment) (Some x.value.payload) → c.commitment ≡ x.value.payload
                inside p = cc

        by : IsTrue (has_height a.held.certs.held b.height) ⊎ IsTrue (list_any (λ x. bytes_eq (config.inner x.value.payload) (config.inner f.payload)) a.held.certs.held) → IsTrue (has_height a.held.certs.held b.height)
        by (inl has) = has
        by (inr some) = let place = any_place (λ x. bytes_eq (config.inner x.value.payload) (config.inner f.payload)) a.held.certs.held some in subst (λ k. IsTrue (has_height a.held.certs.held k)) (same place.0 place.1 place.2) (has_height-from_contains a.held.certs.held place.0 place.1)

    -- WHAT IS STORED

    -- the reported finalization is the chain's at the height of its block
    pub finalizes : (b : Block) → at_hand n f.payload ≡ Some b → Finalizes chain b.height f.round f.payload
    finalizes b is = record {
      named = (block-final b is).0;
      payload_is = ap (λ o. option_map (λ c. c.commitment) o) (block-final b is).1 ∙ ap Some (at_hand-commitment n f.payload b is);
    }

    -- it stands below the last height
    pub not_last : (b : Block) → at_hand n f.payload ≡ Some b → b.height ≡ 2 ^ 64 - 1 → ⊥
    not_last b is last = let low : b.height < length chain.blocks = lawful.in_list f.round b.height (block-final b is).0 in let bound : length chain.blocks < 2 ^ 64 - 1 = lawful.bounded in omega arith

    -- and nothing is asked for
    pub asks-stored : (b : Block) → at_hand n f.payload ≡ Some b → IsTrue (nat_lt (height_of a.held.processed) b.height) → [] ≡ own_asks config n e no_floor
    asks-stored b is above = sym (asks_by (Some b) [] is (rounds_at b is true above))

    -- WHAT IS NOTED

    -- the pair that is synced is the event's
    pub pair_late-is : (b : Block) → at_hand n f.payload ≡ Some b → IsFalse (nat_lt (height_of a.held.processed) b.height) → pair_of a.held.processed (greatest_of a.held.cutoff (at_round f.round ∷ [])) ≡ pair_of (processed_after n e no_floor) (cutoff_after config n e no_floor)
    pair_late-is b is low = ap (λ c. pair_of a.held.processed c) (sym (cutoff_by (f.round ∷ []) (rounds_at b is false low)))

    -- and a life may begin with it
    pub pair_late-safe : IsPartition config.epochs → (b : Block) → at_hand n f.payload ≡ Some b → IsFalse (nat_lt (height_of a.held.processed) b.height) → IsSafePair chain a.held.blocks.sure (pair_of a.held.processed (greatest_of a.held.cutoff (at_round f.round ∷ [])))
    pair_late-safe partition b is low =
        subst (IsSafePair chain a.held.blocks.sure) (sym (pair_late-is b is low))
        (IsSafePair-after config chain lawful partition n e a.held.blocks.sure good.of_chain.stores.held_certs good.heights.delivery.anchored good.heights.delivery.consecutive good.heights.delivery.out_sure good.of_chain.floor_safe (λ h bound has. has) (subst (MeetsFinal chain) (sym (ap (λ o. option_map (λ c. met_of c f) o) is)) (block-final b is).0) tt tt)

    -- a cutoff retain is asked for where the round rises above the cutoff
    pub asks-late : (b : Block) → at_hand n f.payload ≡ Some b → IsFalse (nat_lt (height_of a.held.processed) b.height) → raise_asks a.held.cutoff (at_round f.round ∷ []) ≡ own_asks config n e no_floor
    asks-late b is low = sym (asks_by (Some b) (f.round ∷ []) is (rounds_at b is false low))

    -- ONCE IT IS CACHED

    module _ (now : Held) (cached : AreCached a.held) (loaded : a.held.cache.loaded ≡ true) (caches : CachesFinalization f a.held now) where
      -- the actor once the finalization is cached
      abbrev pub after : Seen P E
      after = cached_as a now

      -- it serves none, and subscribes to none
      unmoved : event_fault config n e ≡ None → HasNoPart config n e
      unmoved no_fault = record {
        no_effect = refl;
        no_query = refl;
        no_fault = no_fault;
        sends = refl;
        answers = λ lowest. ap (λ xs. xs ++ []) (serves_none (at_hand n f.payload));
        subscriptions = ap (λ xs. xs ++ []) (leaves_none (at_hand n f.payload));
        no_syncs = λ n'. refl;
      }

      -- what it makes of the cache: the finalization is put, and these rounds prune
      moves : (rs : List Round) (m : Seen P E) → met_rounds n (met_finalization n e) ≡ rs → m.held.witnessed ≡ (fold (with_witness config.retention) (record { last = a.held.witnessed; prunes = [] }) rs).last → PrunesCacheBy (pruned_by config.retention a.held.witnessed rs) after.held m.held → MovesCache config chain a m e buffer waiting
      moves rs m met last pruned = moves_reported config chain a m f now buffer waiting (pruned_by config.retention a.held.witnessed rs) cached loaded caches final (sym (ap (λ w. w.prunes) (witnessed_by rs met))) (last ∙ sym (ap (λ w. w.last) (witnessed_by rs met))) (subst (λ h. PrunesCacheBy (pruned_by config.retention a.held.witnessed rs) h m.held) (sym caches.same) pruned)

      -- what is then cached is the chain's
      cache_after : IsCacheOf chain now.cache.kept
      cache_after = IsCacheOf-put f a.held now loaded caches.puts chain good.of_chain.cache final

      -- NOT AT HAND

      -- once it is cached, the node is good
      pub IsGood-cached : IsGood config chain (node_of after buffer waiting)
      IsGood-cached = IsGood-with config chain a now.cache a.held.writes.next_sync now.watches buffer buffer waiting waiting good.of_chain.asks.requests cache_after good

      -- a finalization whose block isn't at hand changes nothing but the cache
      pub Reaches-absent : (m : Seen P E) → IsRead after m → IsNested a.held.blocks → IsNested a.held.certs → at_hand n f.payload ≡ None → Reaches config chain a e buffer waiting [] m
      Reaches-absent m same nested certs_nested absent = subst (Reaches config chain a e buffer waiting []) (sym same) (record {
        comes = record {
          no_part = unmoved (ap (λ s. storing_fault n s no_floor) stores);
          kept = refl;
          next_ack = refl;
          next_sync = refl;
          sizes = refl;
          processed = refl;
          cutoff = sym (cutoff_by [] met);
          blocks = PutsOwn-same _ _ _ a.held.blocks a.held.blocks nested refl;
          certs = PutsOwn-same _ _ _ a.held.certs a.held.certs certs_nested refl;
          certificates = Certificates-same a after e buffer waiting refl;
          writes = written.0;
          are_tips = tt;
          tips_rise = refl;
          tips_chain = tt;
          cache = moves [] (with_watches after m.held.watches) met refl (PrunesCacheBy-none after.held (with_watches after m.held.watches).held refl refl refl);
          stored = subst (λ s. IfSome s (IsStored (node_of after buffer waiting))) (sym stores) tt;
          stored_late = subst (λ s. IfSome s (IsStoredLate n no_floor (node_of after buffer waiting))) (sym stores) tt;
        };
        no_repair = written.1;
        unblocked = written.2;
        enters = EntersAt-same _ n (node_of after buffer waiting) refl refl;
      })
        where
          met : met_rounds n (met_finalization n e) ≡ []
          met = rounds_by None absent

          stores : storing_of n e ≡ None
          stores = storing_by None absent

          written : (w : Writes n e no_floor (node_of after buffer waiting)) × (w.repaired ≡ []) × (w.blocking ≡ 0)
          written = Writes-same a after e buffer waiting (ap (λ s. own_writes n s no_floor) stores) refl refl (λ syncs. refl) (λ syncs. refl)

      -- STORED ABOVE THE PROCESSED HEIGHT

      -- what it writes: its own height
      Writes-stored : (b : Block) (m : Seen P E) → at_hand n f.payload ≡ Some b → IsTrue (nat_lt (height_of a.held.processed) b.height) → PutsAbove config.inner after f b m → (w : Writes n e no_floor (node_of m buffer waiting)) × (w.repaired ≡ []) × (w.blocking ≡ 0)
      Writes-stored b m is above puts = (
        record {
          repaired = [];
          by_repair = λ h. sym (ap (λ ws. is_repaired n (ws ++ []) (node_of m buffer waiting) h) own ∙ entered h);
          each_once = λ h. omega arith;
          blocking = 0;
          within = omega arith;
          at_least = omega arith;
          covered = covered ∙ omega arith;
          uncovered = ap (λ s. s.held.writes.uncovered) puts.same ∙ sym (ap (λ k. drop (k - a.held.writes.covered) (a.held.writes.uncovered ++ (own_writes n (storing_of n e) no_floor ++ []))) covered ∙ (ap (λ k. drop k (a.held.writes.uncovered ++ (own_writes n (storing_of n e) no_floor ++ []))) minus_same ∙ ap (λ ws. a.held.writes.uncovered ++ (ws ++ [])) own));
          syncs = ap (λ s. s.held.writes.syncs) puts.same;
        },
        refl,
        refl,
      )
        where
          own : own_writes n (storing_of n e) no_floor ≡ b.height ∷ []
          own = ap (λ s. own_writes n s no_floor) (storing_by (Some b) is) ∙ ap (λ (c : Bool). if c then b.height ∷ [] else []) above

          covered : m.held.writes.covered ≡ a.held.writes.covered
          covered = ap (λ s. s.held.writes.covered) puts.same

          minus_same : a.held.writes.covered - a.held.writes.covered ≡ 0
          minus_same = omega arith

          entered : (h : ℕ) → is_repaired n (b.height ∷ []) (node_of m buffer waiting) h ≡ false
          entered h = only_own (has_height m.held.blocks.held h) (has_height a.held.blocks.held h) (b.height == h || false) (nat_lt (height_of m.held.processed) h) (λ has. from (entered_height (is_held a.held.blocks.held b) a.held.blocks.held (at_own_height b) m.held.blocks.held h puts.blocks.held has))
            where
              from : IsTrue (has_height a.held.blocks.held h) ⊎ (b.height ≡ h) → IsTrue (has_height a.held.blocks.held h) ⊎ IsTrue (b.height == h || false)
              from (inl was) = inl was
              from (inr same) = inr (ap (λ c. c || false) (eq-eqb b.height h same))

      -- a block above the processed height is put with its finalization
      pub Reaches-stored : (b : Block) (m : Seen P E) → Grown a.held.blocks (at_own_height b ∷ []) m.held.blocks → Grown a.held.certs (at_height b.height f ∷ []) m.held.certs → at_hand n f.payload ≡ Some b → IsTrue (nat_lt (height_of a.held.processed) b.height) → PutsAbove config.inner after f b m → Reaches config chain a e buffer waiting (tip_reports a.life.tip f b) m
      Reaches-stored b m blocks_grown certs_grown is above puts = record {
        comes = record {
          no_part = unmoved (ap (λ s. storing_fault n s no_floor) storing ∙ ap (λ (c : Bool). if c then Some (height_limit b.height) else None) (no_limit (nat_lt (height_of a.held.processed) b.height) b.height (not_last b is)));
          kept = ap (λ s. s.life.out) puts.same;
          next_ack = ap (λ s. s.life.next_ack) puts.same;
          next_sync = ap (λ s. s.held.writes.next_sync) puts.same;
          sizes = ap (λ s. s.life.sizes) puts.same;
          processed = ap (λ s. s.held.processed) puts.same;
          cutoff = ap (λ s. s.held.cutoff) puts.same ∙ sym (cutoff_by [] met);
          blocks = record {
            keeps = KeepsFrom-put _ _ _ _ _ puts.blocks;
            put = at_own_height b ∷ [];
            grown = blocks_grown;
            of_chain = ((block-final b is).1, tt);
            own = λ x has. brought_from n e x (is ∙ ap (λ (y : At Block). Some y.value) (only_one (at_own_height b) x has));
          };
          certs = record {
            keeps = KeepsFrom-put _ _ _ _ _ puts.certs;
            put = at_height b.height f ∷ [];
            grown = certs_grown;
            of_chain = (finalizes b is, tt);
            own = λ x has. told_from n e x (ap (λ (y : At Finalization). Some y.value) (only_one (at_height b.height f) x has));
          };
          certificates = Certificates-pushed n (node_of m buffer waiting) e (is_certified config.inner a.held.certs.held b.height (config.inner f.payload)) (at_height b.height f) refl puts.certs.held;
          writes = (Writes-stored b m is above puts).0;
          are_tips = tip_reports-tips a.life.tip f b;
          tips_rise = subst (TipsFrom a.life.tip (tip_reports a.life.tip f b)) (sym (ap (λ s. s.life.tip) puts.same)) (tip_reports-rise a.life.tip f b);
          tips_chain = tip_reports-chain chain a.life.tip f b (block-final b is).0 (block-final b is).1;
          cache = moves [] m met (ap (λ s. s.held.witnessed) puts.same) (PrunesCacheBy-none after.held m.held (ap (λ s. s.held.cache) puts.same) (ap (λ s. s.held.lowest) puts.same) (ap (λ s. s.held.lowests) puts.same));
          stored = subst (λ s. IfSome s (IsStored (node_of m buffer waiting))) (sym storing) stored;
          stored_late = subst (λ s. IfSome s (IsStoredLate n no_floor (node_of m buffer waiting))) (sym storing) (λ with low held. absurd (let high : height_of a.held.processed < b.height = above_from (height_of a.held.processed) b.height above in omega arith));
        };
        no_repair = (Writes-stored b m is above puts).1;
        unblocked = (Writes-stored b m is above puts).2;
        enters = EntersAt-stored;
      }
        where
          met : met_rounds n (met_finalization n e) ≡ []
          met = rounds_at b is true above

          storing : storing_of n e ≡ Some (storing_met (met_of b f))
          storing = storing_by (Some b) is

          EntersAt-stored : EntersAt (own_heights n e no_floor) n (node_of m buffer waiting)
          EntersAt-stored = record {
            blocks = λ h has. own_height n e (storing_met (met_of b f)) (λ k. IsTrue (has_height a.held.blocks.held k)) h storing (entered_height (is_held a.held.blocks.held b) a.held.blocks.held (at_own_height b) m.held.blocks.held h puts.blocks.held has);
            certs = λ h has. own_height n e (storing_met (met_of b f)) (λ k. IsTrue (has_height a.held.certs.held k)) h storing (entered_height (is_certified config.inner a.held.certs.held b.height (config.inner f.payload)) a.held.certs.held (at_height b.height f) m.held.certs.held h puts.certs.held has);
          }

          stored : IsStored (node_of m buffer waiting) (storing_met (met_of b f))
          stored = record {
            block = inl (stored_height (is_held a.held.blocks.held b) a.held.blocks.held (at_own_height b) m.held.blocks.held (λ ignored. block_there b is ignored) puts.blocks.held);
            certificate = λ with high. stored_height (is_certified config.inner a.held.certs.held b.height (config.inner f.payload)) a.held.certs.held (at_height b.height f) m.held.certs.held (λ ignored. cert_there b is ignored) puts.certs.held;
          }

      -- NOTED AT OR BELOW THE PROCESSED HEIGHT

      -- the put of a certificate that is due
      abbrev pub PutsLate : Block → Kept (At Finalization) → Type 0
      PutsLate b certs = StoresWhere (lacks_finalization a.held b) (is_certified config.inner a.held.certs.held b.height (config.inner f.payload)) a.held.certs (at_height b.height f) certs

      -- the actor with the raised cutoff
      abbrev pub IsNoted : Seen P E → Type 0
      IsNoted m = m ≡ noted a (at_round f.round ∷ []) (later_round a.held.witnessed (Some f.round)) m

      -- whose cache its round pruned
      abbrev pub IsPruned : Seen P E → Type 0
      IsPruned m = PrunesCacheBy (pruned_by config.retention a.held.witnessed (f.round ∷ [])) after.held m.held

      -- the node that it leaves is good, where the tip reaches what was put
      IsGood-late : IsPartition config.epochs → (b : Block) (m : Seen P E) → Grown a.held.certs (at_height b.height f ∷ []) m.held.certs → at_hand n f.payload ≡ Some b → IsFalse (nat_lt (height_of a.held.processed) b.height) → a.life.tip ≤ m.life.tip → (IsTrue (lacks_finalization a.held b) → b.height ≤ m.life.tip) → IsNoted m → IsPruned m → PutsLate b m.held.certs → IsGood config chain (node_of m buffer waiting)
      IsGood-late partition b m grown is low rises below_tip same pruned certs =
          IsGood-grown config chain a buffer waiting good m (subst AreNestedHeights (sym blocks) good.heights.stores.nested_blocks)
          (nested_due _ _ _ _ _ _ certs grown good.heights.stores.nested_certs) (ap (λ s. s.life.out) same) (ap (λ s. s.held.processed) same)
          (IsCacheOf-pruned chain (pruned_by config.retention a.held.witnessed (f.round ∷ [])) now.cache.kept m.held.cache.kept cache_after (pruned.prunes (caches.loaded ∙ loaded))) own
          (subst (λ k. SureOrWritten k m.held.writes.uncovered) (sym blocks) (subst (λ w. SureOrWritten a.held.blocks w.uncovered) (sym writes) good.heights.stores.sure_blocks))
          (sure_due _ _ _ _ _ m.held.writes.uncovered certs (subst (λ w. SureOrWritten a.held.certs w.uncovered) (sym writes) good.heights.stores.sure_certs))
          (subst (λ w. 0 < length w.uncovered → Contains (map (λ s. s.position) w.syncs) (total_writes w)) (sym writes) good.heights.sync_open)
          (λ h bound has. subst (λ k. IsTrue (has_height k.sure h)) (sym blocks) has)
          (subst (λ k. AreBlocksOf chain k.held) (sym blocks) good.of_chain.stores.held_blocks)
          (subst (λ k. AreBlocksOf chain k.may) (sym blocks) good.of_chain.stores.may_blocks)
          (held_due (λ x. Finalizes chain x.height x.value.round x.value.payload) _ _ _ _ _ certs good.of_chain.stores.held_certs (λ due. finalizes b is))
          (may_due (λ x. Finalizes chain x.height x.value.round x.value.payload) _ _ _ _ _ certs good.of_chain.stores.held_certs good.of_chain.stores.may_certs (finalizes b is))
          (subst (λ k. FloorSafe (option_map height_in a.held.processed) m.held.cutoff k.sure chain) (sym blocks) (subst (λ c. FloorSafe (option_map height_in a.held.processed) c a.held.blocks.sure chain) (sym (ap (λ s. s.held.cutoff) same)) (pair_late-safe partition b is low).floor_safe))
          (held_due (λ x. x.height ≤ m.life.tip) _ _ _ _ _ certs (AllByRecursion-weaker (λ x. x.height ≤ a.life.tip) (λ x. x.height ≤ m.life.tip) (λ x at_most. omega arith) a.held.certs.held good.of_chain.tip_reported) below_tip)
        where
          blocks : m.held.blocks ≡ a.held.blocks
          blocks = ap (λ s. s.held.blocks) same

          own : m.held.pairs ≡ pair_of m.held.processed m.held.cutoff ∷ []
          own = ap (λ s. s.held.pairs) same ∙ sym (ap (λ s. pair_of s.held.processed s.held.cutoff ∷ []) same)

          writes : m.held.writes ≡ a.held.writes
          writes = ap (λ s. s.held.writes) same

      -- with these tips
      Reaches-told : IsPartition config.epochs → (b : Block) (tips : List Report) (m : Seen P E) → IsNested a.held.blocks → IsNested a.held.certs → Grown a.held.certs (at_height b.height f ∷ []) m.held.certs → at_hand n f.payload ≡ Some b → IsFalse (nat_lt (height_of a.held.processed) b.height) → AreTips tips → TipsFrom a.life.tip tips m.life.tip → AreTipsOf chain tips → a.life.tip ≤ m.life.tip → (IsTrue (lacks_finalization a.held b) → b.height ≤ m.life.tip) → IsNoted m → IsPruned m → PutsLate b m.held.certs → Reaches config chain a e buffer waiting tips m
      Reaches-told partition b tips m blocks_nested certs_nested grown is low only rise of_chain rises below_tip same pruned certs = record {
        comes = record {
          no_part = unmoved (ap (λ s. storing_fault n s no_floor) storing ∙ ap (λ (c : Bool). if c && b.height == last_height then Some (height_limit b.height) else None) low);
          kept = ap (λ s. s.life.out) same;
          next_ack = ap (λ s. s.life.next_ack) same;
          next_sync = ap (λ s. s.held.writes.next_sync) same;
          sizes = ap (λ s. s.life.sizes) same;
          processed = processed;
          cutoff = ap (λ s. s.held.cutoff) same ∙ sym (cutoff_by (f.round ∷ []) met);
          blocks = PutsOwn-same _ _ _ a.held.blocks m.held.blocks blocks_nested blocks;
          certs = record {
            keeps = KeepsFrom-due _ _ _ _ _ _ certs_nested certs;
            put = at_height b.height f ∷ [];
            grown = grown;
            of_chain = (finalizes b is, tt);
            own = λ x has. told_from n e x (ap (λ (y : At Finalization). Some y.value) (only_one (at_height b.height f) x has));
          };
          certificates = Certificates-put n (node_of m buffer waiting) e (lacks_finalization a.held b) (is_certified config.inner a.held.certs.held b.height (config.inner f.payload)) (at_height b.height f) refl certs;
          writes = written.0;
          are_tips = only;
          tips_rise = rise;
          tips_chain = of_chain;
          cache = moves (f.round ∷ []) m met (ap (λ s. s.held.witnessed) same ∙ last_witnessed config.retention a.held.witnessed f.round) pruned;
          stored = subst (λ s. IfSome s (IsStored (node_of m buffer waiting))) (sym storing) stored;
          stored_late = subst (λ s. IfSome s (IsStoredLate n no_floor (node_of m buffer waiting))) (sym storing) (λ with at_most has. due_height _ (has_height a.held.blocks.held b.height) a.held.certs (at_height b.height f) m.held.certs (λ ignored. cert_there b is ignored) certs has);
        };
        no_repair = written.1;
        unblocked = written.2;
        enters = EntersAt-late;
      }
        where
          met : met_rounds n (met_finalization n e) ≡ f.round ∷ []
          met = rounds_at b is false low

          storing : storing_of n e ≡ Some (storing_met (met_of b f))
          storing = storing_by (Some b) is

          blocks : m.held.blocks ≡ a.held.blocks
          blocks = ap (λ s. s.held.blocks) same

          processed : m.held.processed ≡ a.held.processed
          processed = ap (λ s. s.held.processed) same

          written : (v : Writes n e no_floor (node_of m buffer waiting)) × (v.repaired ≡ []) × (v.blocking ≡ 0)
          written = Writes-same a m e buffer waiting (ap (λ s. own_writes n s no_floor) storing ∙ ap (λ (c : Bool). if c then b.height ∷ [] else []) low) (ap (λ k. k.held) blocks) (ap (λ s. s.held.writes) same) (λ syncs. refl) (λ syncs. refl)

          EntersAt-late : EntersAt (own_heights n e no_floor) n (node_of m buffer waiting)
          EntersAt-late = record {
            blocks = λ h has. inl (subst (λ k. IsTrue (has_height k.held h)) blocks has);
            certs = λ h has. own_height n e (storing_met (met_of b f)) (λ k. IsTrue (has_height a.held.certs.held k)) h storing (entered_due (lacks_finalization a.held b) (is_certified config.inner a.held.certs.held b.height (config.inner f.payload)) a.held.certs (at_height b.height f) m.held.certs h certs has);
          }

          at_most : b.height ≤ height_of m.held.processed
          at_most = subst (λ p. b.height ≤ height_of p) (sym processed) (low_from (height_of a.held.processed) b.height low)

          stored : IsStored (node_of m buffer waiting) (storing_met (met_of b f))
          stored = record { block = inr at_most; certificate = λ with high. absurd (let le : b.height ≤ height_of m.held.processed = at_most in omega arith) }

      -- a block at or below the processed height: its round is witnessed, its certificate put where the block is held without
      -- one, and that told as the tip where it is above the last one
      pub Reaches-noted : IsPartition config.epochs → (b : Block) (m : Seen P E) → IsNested a.held.blocks → IsNested a.held.certs → Grown a.held.certs (at_height b.height f ∷ []) m.held.certs → at_hand n f.payload ≡ Some b → IsFalse (nat_lt (height_of a.held.processed) b.height) → IsNoted m → IsPruned m → PutsLate b m.held.certs → m.life.tip ≡ late_tip (lacks_finalization a.held b) a.life.tip b → Reaches config chain a e buffer waiting (late_tips (lacks_finalization a.held b) a.life.tip f b) m
      Reaches-noted partition b m blocks_nested certs_nested grown is low same pruned certs tip = by (lacks_finalization a.held b) refl tip
        where
          by : (c : Bool) → lacks_finalization a.held b ≡ c → m.life.tip ≡ late_tip c a.life.tip b → Reaches config chain a e buffer waiting (late_tips c a.life.tip f b) m
          by true due at =
              Reaches-told partition b (tip_reports a.life.tip f b) m blocks_nested certs_nested grown is low (tip_reports-tips a.life.tip f b)
              (subst (TipsFrom a.life.tip (tip_reports a.life.tip f b)) (sym at) (tip_reports-rise a.life.tip f b))
              (tip_reports-chain chain a.life.tip f b (block-final b is).0 (block-final b is).1)
              (subst (λ k. a.life.tip ≤ k) (sym at) (tip_after-high a.life.tip b).0)
              (λ put. subst (λ k. b.height ≤ k) (sym at) (tip_after-high a.life.tip b).1) same pruned certs
          by false not_due at = Reaches-told partition b [] m blocks_nested certs_nested grown is low tt at tt (subst (λ k. a.life.tip ≤ k) (sym at) (omega arith)) (λ put. absurd (let both : false ≡ true = sym not_due ∙ put in cc)) same pruned certs

      -- from the raise, the sync and the late put
      module _ (retention : config.retention ≡ a.life.sizes.retention) (b : Block) (w s m : Seen P E) (raised : RaisesTo after (at_round f.round ∷ []) (f.round ∷ []) w) (synced : IsSyncedAfter w s) (stores : StoresLate config.inner s f b m) where
        as_noted : IsNoted m
        as_noted = noted_same config.inner after w s m (at_round f.round ∷ []) f.round f b raised synced stores

        as_pruned : IsPruned m
        as_pruned = subst (λ k. PrunesCacheBy (pruned_by k a.held.witnessed (f.round ∷ [])) after.held m.held) (sym retention) (late_pruned config.inner after w s m (at_round f.round ∷ []) f.round f b raised synced stores)

        at_tip : m.life.tip ≡ late_tip (lacks_finalization a.held b) a.life.tip b
        at_tip = late_tip-is config.inner after w s m (at_round f.round ∷ []) f.round f b raised synced stores

        certs : PutsLate b m.held.certs
        certs = noted_certs config.inner after w s m (at_round f.round ∷ []) f.round f b raised synced stores

        pub Reaches-late : IsPartition config.epochs → IsNested a.held.blocks → IsNested a.held.certs → Grown a.held.certs (at_height b.height f ∷ []) m.held.certs → at_hand n f.payload ≡ Some b → IsFalse (nat_lt (height_of a.held.processed) b.height) → Reaches config chain a e buffer waiting (late_tips (lacks_finalization a.held b) a.life.tip f b) m
        Reaches-late partition blocks_nested certs_nested grown is low = Reaches-noted partition b m blocks_nested certs_nested grown is low as_noted as_pruned certs at_tip

        -- the node that these leave is good
        pub IsGood-noted : IsPartition config.epochs → Grown a.held.certs (at_height b.height f ∷ []) m.held.certs → at_hand n f.payload ≡ Some b → IsFalse (nat_lt (height_of a.held.processed) b.height) → IsGood config chain (node_of m buffer waiting)
        IsGood-noted partition grown is low = by (lacks_finalization a.held b) refl at_tip
          where
            by : (c : Bool) → lacks_finalization a.held b ≡ c → m.life.tip ≡ late_tip c a.life.tip b → IsGood config chain (node_of m buffer waiting)
            by true due at = IsGood-late partition b m grown is low (subst (λ k. a.life.tip ≤ k) (sym at) (tip_after-high a.life.tip b).0) (λ put. subst (λ k. b.height ≤ k) (sym at) (tip_after-high a.life.tip b).1) as_noted as_pruned certs
            by false not_due at = IsGood-late partition b m grown is low (subst (λ k. a.life.tip ≤ k) (sym at) (omega arith)) (λ put. absurd (let both : false ≡ true = sym not_due ∙ put in cc)) as_noted as_pruned certs
