-- What an opening finds on good stores: blocks and certificates of the chain, a backed height, a safe cutoff.
use Rattle.std.proofs.Common.{◌≡◌, ◌⊎◌, inl, inr, ℕ, ◌+◌, ◌≤◌, ◌==◌, ◌||◌, nat_lt, Bool, false, true, List, [], ◌∷◌, ◌++◌, Option, Some, None, is_some, option_map, option_to_list, if◌then◌else◌, IsTrue, refl, sym, ◌∙◌, ap, subst, arith, eqb-true, le_refl}
use Rattle.std.specs.List.{AllByRecursion}
use Rattle.mar_types.specs.Round.{Round}
use Rattle.mar_types.specs.Epochs.{IsPartition, closed_epoch}
use Rattle.mar_cert.specs.Block.{Block}
use Rattle.mar_cert.specs.Finalization.{Finalization}
use Rattle.mar_key.specs.Cutoff.{Cutoff, at_epoch, at_round, greatest_of}
use Rattle.mar_key.specs.Processed.{at_absent, at_block, height_in}
use Rattle.mar_store.specs.Kept.{At, Reopens, has_height, newest_upto, value_at}
use Rattle.mar_store.proofs.Lookups.{AllByRecursion-append, AllByRecursion-weaker, AllByRecursion-contains, AllByRecursion-from_contains, AllByRecursion-value_at, has_height-from_value, has_height-within, value-from_has_height, value_at-from_contains}
use Rattle.mar_store.proofs.NewestUpto.{AllByRecursion-newest_upto, newest_upto-is}
use Rattle.mar_model.specs.Metadata.{Pair, pair_of}
use Rattle.mar_model.specs.Cached.{cached_block, cached_finalization}
use Rattle.mar_model.specs.Chain.{Chain, Finalizes, IsBlockAt, IsFinal, IsLawful}
use Rattle.mar_model.specs.Config.{Config}
use Rattle.mar_model.specs.Stored.{block_of}
use Rattle.mar_model.specs.Faults.{Begin, from_floor, from_genesis, next_after, with_genesis}
use Rattle.mar_model.specs.Node.{Agrees, AreBlocksOf, AreCachedOf, AreFinalizationsOf, BlocksAgree, Ended, FloorSafe, HasAnchor, IsFinalized, IsGoodInHeights, Node}
use Rattle.mar_model.specs.Lives.{BackedBy, Finds, IsGoodEnded, Picks, closed_epoch_at, opened_cutoff, processed_at, processed_round, successor_round}
use Rattle.mar_model.specs.Sound.{IsSafePair, IsSound}
use Rattle.mar_model.proofs.Filtered.{all_found_within}
use Rattle.mar_model.proofs.FloorSafety.{CoversUpto, CoversUpto-at_round, CoversUpto-closed_at, CoversUpto-from_safe, CoversUpto-greatest_of, CoversUpto-more, FloorSafe-at_next, FloorSafe-from_upto, FloorSafe-greatest_of, FloorSafe-still}

-- REOPENED LISTS

pub AreFinalizationsOf-reopened : (chain : Chain) (sure may m : List (At Finalization)) → Reopens sure may m → AreFinalizationsOf chain may → AreFinalizationsOf chain m
AreFinalizationsOf-reopened chain sure may m reopens all =
    AllByRecursion-from_contains _ m (λ x has. AllByRecursion-contains (λ y. Finalizes chain y.height y.value.round y.value.payload) may x all (reopens.within_may x.height x.value (value_at-from_contains m x reopens.once has)))

-- block 0 is put in front where none was found
pub value_at-with_genesis : (begin : Begin) (processed : Option ℕ) (found : List (At Block)) (h : ℕ) (b : Block) → value_at found h ≡ Some b → value_at (with_genesis begin processed found) h ≡ Some b
value_at-with_genesis (from_floor f) processed found h b is = is
value_at-with_genesis (from_genesis g) processed found h b is = by ((has_height found 0 || is_some (block_of found g.digest)) || nat_lt 1 (next_after processed)) refl
  where
    other : ((has_height found 0 || is_some (block_of found g.digest)) || nat_lt 1 (next_after processed)) ≡ false → (c : Bool) → (0 == h) ≡ c → (if c then Some g else value_at found h) ≡ Some b
    other lacks true same = absurd (clash (has_height found 0) (is_some (block_of found g.digest)) (nat_lt 1 (next_after processed)) lacks (subst (λ k. IsTrue (has_height found k)) (sym (eqb-true 0 h same)) (has_height-from_value found h b is)))
      where
        clash : (x y z : Bool) → ((x || y) || z) ≡ false → x ≡ true → ⊥
        clash true y z p q = cc
        clash false y z p q = cc
    other lacks false apart = is

    by : (c : Bool) → ((has_height found 0 || is_some (block_of found g.digest)) || nat_lt 1 (next_after processed)) ≡ c → value_at (if c then found else record { height = 0; value = g } ∷ found) h ≡ Some b
    by true e = is
    by false e = other e (0 == h) refl

-- what is found with block 0 was found, or is block 0
pub value-from_with_genesis : (begin : Begin) (processed : Option ℕ) (found : List (At Block)) (h : ℕ) (b : Block) → value_at (with_genesis begin processed found) h ≡ Some b → (value_at found h ≡ Some b) ⊎ ((begin ≡ from_genesis b) × (h ≡ 0))
value-from_with_genesis (from_floor f) processed found h b is = inl is
value-from_with_genesis (from_genesis g) processed found h b is = by ((has_height found 0 || is_some (block_of found g.digest)) || nat_lt 1 (next_after processed)) is
  where
    inside : ◌≡◌ {A = Option Block} (Some g) (Some b) → g ≡ b
    inside p = cc

    first : (c : Bool) → (0 == h) ≡ c → (if c then Some g else value_at found h) ≡ Some b → (value_at found h ≡ Some b) ⊎ ((from_genesis g ≡ from_genesis b) × (h ≡ 0))
    first true same p = inr (ap from_genesis (inside p), sym (eqb-true 0 h same))
    first false apart p = inl p

    by : (c : Bool) → value_at (if c then found else record { height = 0; value = g } ∷ found) h ≡ Some b → (value_at found h ≡ Some b) ⊎ ((from_genesis g ≡ from_genesis b) × (h ≡ 0))
    by true p = inl p
    by false p = first (0 == h) refl p

module _ (config : Config) (chain : Chain) (e : Ended) (picks : Picks) (begin : Begin) (n : Node) (finds : Finds config e picks begin n) where
  -- what was sure is held
  pub opened_sure : (h : ℕ) (b : Block) → value_at e.blocks_sure h ≡ Some b → value_at finds.blocks.held h ≡ Some b
  opened_sure h b is = (finds.entered).1 h ∙ value_at-with_genesis begin finds.pair.processed finds.found h b (finds.found_may.with_sure h b is)

  pub opened_heights : (h : ℕ) → IsTrue (has_height e.blocks_sure h) → IsTrue (has_height finds.blocks.held h)
  opened_heights h has = let at = value-from_has_height e.blocks_sure h has in has_height-from_value finds.blocks.held h at.0 (opened_sure h at.0 at.1)

  -- each block is the chain's
  pub opened_blocks : IsGoodEnded chain e → ((g : Block) → begin ≡ from_genesis g → IsBlockAt chain 0 g) → AreBlocksOf chain finds.blocks.held
  opened_blocks good genesis = AllByRecursion-from_contains _ finds.blocks.held (λ x has. each x (value-from_with_genesis begin finds.pair.processed finds.found x.height x.value (sym ((finds.entered).1 x.height) ∙ value_at-from_contains finds.blocks.held x (finds.entered).0 has)))
    where
      each : (x : At Block) → (value_at finds.found x.height ≡ Some x.value) ⊎ ((begin ≡ from_genesis x.value) × (x.height ≡ 0)) → IsBlockAt chain x.height x.value
      each x (inl is) = AllByRecursion-contains (λ y. IsBlockAt chain y.height y.value) e.blocks_may _ good.may_blocks (finds.found_may.within_may x.height x.value is)
      each x (inr (is, low)) = subst (λ h. IsBlockAt chain h x.value) (sym low) (genesis x.value is)

  -- and so is each that a crash can leave
  pub opened_may : IsGoodEnded chain e → ((g : Block) → begin ≡ from_genesis g → IsBlockAt chain 0 g) → AreBlocksOf chain finds.blocks.may
  opened_may good genesis = AllByRecursion-from_contains _ finds.blocks.may (λ x has. AllByRecursion-contains (λ y. IsBlockAt chain y.height y.value) finds.blocks.held x (opened_blocks good genesis) (finds.settled.may x has))

  -- a held height is sure
  pub opened_has_sure : (h : ℕ) → IsTrue (has_height finds.blocks.held h) → IsTrue (has_height finds.blocks.sure h)
  opened_has_sure h has = subst (λ xs. IsTrue (has_height xs h)) (sym finds.settled.sure) has

  pub opened_certs : IsGoodEnded chain e → AreFinalizationsOf chain finds.certs
  opened_certs good = AreFinalizationsOf-reopened chain e.certs_sure e.certs_may finds.certs finds.certs_may good.may_certs

-- THE CUTOFF

module _ (config : Config) (chain : Chain) (lawful : IsLawful config.epochs chain) (partition : IsPartition config.epochs) where
  -- the newest certificate at or below the processed height
  processed_round_upto : (certs : List (At Finalization)) (p : Option ℕ) (k : ℕ) → AreFinalizationsOf chain certs → next_after p ≤ k + 1 → AllByRecursion (CoversUpto chain k) (option_to_list (option_map at_round (processed_round certs p)))
  processed_round_upto certs None k all le = tt
  processed_round_upto certs (Some h) k all le = by (newest_upto certs h) refl
    where
      by : (o : Option (At Finalization)) → newest_upto certs h ≡ o → AllByRecursion (CoversUpto chain k) (option_to_list (option_map at_round (option_map (λ x. x.value.round) o)))
      by None is = tt
      by (Some x) is =
          let low : x.height ≤ h = (newest_upto-is certs h x is).1 in
          (CoversUpto-more chain x.height k (at_round x.value.round) (omega arith) (CoversUpto-at_round config chain lawful x.height x.value.round (AllByRecursion-newest_upto (λ y. Finalizes chain y.height y.value.round y.value.payload) certs h x all is).named), tt)

  -- the successor's round, where there is one: its block is held
  successor_final : (blocks : List (At Block)) (certs : List (At Finalization)) (next : ℕ) (r : Round) → AreFinalizationsOf chain certs → successor_round blocks certs next ≡ Some r → IsFinal chain r next × IsTrue (has_height blocks next)
  successor_final blocks certs next r all is = by (has_height blocks next) refl is
    where
      certified : (o : Option Finalization) → value_at certs next ≡ o → option_map (λ f. f.round) o ≡ Some r → IsFinal chain r next
      certified None at p = absurd cc
      certified (Some f) at p = subst (λ s. IsFinal chain s next) (inside p) (AllByRecursion-value_at (λ y. Finalizes chain y.height y.value.round y.value.payload) certs next f all at).named
        where
          inside : ◌≡◌ {A = Option Round} (Some f.round) (Some r) → f.round ≡ r
          inside q = cc

      by : (b : Bool) → has_height blocks next ≡ b → (if b then option_map (λ f. f.round) (value_at certs next) else None) ≡ Some r → IsFinal chain r next × IsTrue (has_height blocks next)
      by true has p = (certified (value_at certs next) refl p, has)
      by false lacks p = absurd cc

  -- with a successor all is covered up to it, and it is held
  with_successor : (blocks : List (At Block)) (certs : List (At Finalization)) (pair : Pair) (r : Round) → AreFinalizationsOf chain certs → FloorSafe pair.processed pair.cutoff blocks chain → successor_round blocks certs (next_after pair.processed) ≡ Some r → FloorSafe pair.processed (greatest_of pair.cutoff (option_to_list (option_map at_round (processed_round certs pair.processed)) ++ at_round r ∷ [] ++ option_to_list (option_map at_epoch (closed_epoch config.epochs (next_after pair.processed))))) blocks chain
  with_successor blocks certs pair r all safe is = safe_at pair.processed _ final.0 final.1
      (CoversUpto-greatest_of chain (next_after pair.processed) pair.cutoff _ (CoversUpto-from_safe chain pair.processed pair.cutoff blocks safe)
      (AllByRecursion-append (CoversUpto chain (next_after pair.processed)) _ _
      (AllByRecursion-append (CoversUpto chain (next_after pair.processed)) _ _ (processed_round_upto certs pair.processed (next_after pair.processed) all (omega arith)) (CoversUpto-at_round config chain lawful (next_after pair.processed) r final.0, tt))
      (CoversUpto-closed_at config chain lawful partition (next_after pair.processed) (next_after pair.processed) (le_refl _))))
    where
      final : IsFinal chain r (next_after pair.processed) × IsTrue (has_height blocks (next_after pair.processed))
      final = successor_final blocks certs (next_after pair.processed) r all is

      safe_at : (o : Option ℕ) (c : Cutoff) → IsFinal chain r (next_after o) → IsTrue (has_height blocks (next_after o)) → CoversUpto chain (next_after o) c → FloorSafe o c blocks chain
      safe_at None c named has upto = absurd (let high : 1 ≤ 0 = lawful.above_zero r 0 named in omega arith)
      safe_at (Some p) c named has upto = FloorSafe-at_next chain p c blocks upto has

  without_successor : (blocks : List (At Block)) (certs : List (At Finalization)) (pair : Pair) → AreFinalizationsOf chain certs → FloorSafe pair.processed pair.cutoff blocks chain → FloorSafe pair.processed (greatest_of pair.cutoff (option_to_list (option_map at_round (processed_round certs pair.processed)) ++ [] ++ option_to_list (option_map at_epoch (closed_epoch_at config.epochs None pair.processed (next_after pair.processed))))) blocks chain
  without_successor blocks certs pair all safe = by pair.processed safe
    where
      by : (o : Option ℕ) → FloorSafe o pair.cutoff blocks chain → FloorSafe o (greatest_of pair.cutoff (option_to_list (option_map at_round (processed_round certs o)) ++ [] ++ option_to_list (option_map at_epoch (closed_epoch_at config.epochs None o (next_after o))))) blocks chain
      by None f = f
      by (Some h) f = FloorSafe-greatest_of chain (Some h) pair.cutoff _ blocks f
          (AllByRecursion-weaker (CoversUpto chain h) _ (λ d low. FloorSafe-from_upto config chain lawful (Some (at_block h)) d blocks low) _
          (AllByRecursion-append (CoversUpto chain h) _ _ (AllByRecursion-append (CoversUpto chain h) _ _ (processed_round_upto certs (Some h) h all (le_refl _)) tt) (CoversUpto-closed_at config chain lawful partition h h (le_refl _))))

  pub FloorSafe-opened : (blocks : List (At Block)) (certs : List (At Finalization)) (pair : Pair) → AreFinalizationsOf chain certs → FloorSafe pair.processed pair.cutoff blocks chain → FloorSafe pair.processed (opened_cutoff config.epochs blocks certs pair) blocks chain
  FloorSafe-opened blocks certs pair all safe = by (successor_round blocks certs (next_after pair.processed)) refl
    where
      by : (o : Option Round) → successor_round blocks certs (next_after pair.processed) ≡ o → FloorSafe pair.processed (greatest_of pair.cutoff (option_to_list (option_map at_round (processed_round certs pair.processed)) ++ option_to_list (option_map at_round o) ++ option_to_list (option_map at_epoch (closed_epoch_at config.epochs o pair.processed (next_after pair.processed))))) blocks chain
      by None is = without_successor blocks certs pair all safe
      by (Some r) is = with_successor blocks certs pair r all safe is

-- THE OPENED NODE

pub processed_at-height : (blocks : List (At Block)) (p : Option ℕ) → option_map height_in (option_map (processed_at blocks) p) ≡ p
processed_at-height blocks None = refl
processed_at-height blocks (Some h) = by (has_height blocks h)
  where
    by : (b : Bool) → Some (height_in (if b then at_block h else at_absent h)) ≡ Some h
    by true = refl
    by false = refl

HasAnchor-opened : (blocks : List (At Block)) (p : Option ℕ) → BackedBy blocks p → HasAnchor (option_map (processed_at blocks) p) blocks
HasAnchor-opened blocks None backed = tt
HasAnchor-opened blocks (Some h) backed = by (has_height blocks h) refl backed
  where
    by : (b : Bool) → has_height blocks h ≡ b → IsTrue (has_height blocks h) ⊎ IsTrue (has_height blocks (h + 1)) → HasAnchor (Some (if b then at_block h else at_absent h)) blocks
    by true has either = has
    by false lacks (inl has) = absurd cc
    by false lacks (inr next) = next

module _ (config : Config) (chain : Chain) (lawful : IsLawful config.epochs chain) (partition : IsPartition config.epochs) (e : Ended) (picks : Picks) (begin : Begin) (n : Node) (finds : Finds config e picks begin n) (good : IsGoodEnded chain e) where
  backed_before : BackedBy e.blocks_sure finds.pair.processed
  backed_before = AllByRecursion-contains (λ p. BackedBy e.blocks_sure p.processed) e.meta finds.pair good.backed finds.pair_may

  safe_before : FloorSafe finds.pair.processed finds.pair.cutoff e.blocks_sure chain
  safe_before = AllByRecursion-contains (λ p. FloorSafe p.processed p.cutoff e.blocks_sure chain) e.meta finds.pair good.floor_safe finds.pair_may

  pub opened_backed : BackedBy finds.blocks.held finds.pair.processed
  opened_backed = by finds.pair.processed backed_before
    where
      by : (o : Option ℕ) → BackedBy e.blocks_sure o → BackedBy finds.blocks.held o
      by None b = tt
      by (Some h) (inl has) = inl (opened_heights config chain e picks begin n finds h has)
      by (Some h) (inr next) = inr (opened_heights config chain e picks begin n finds (h + 1) next)

  pub opened_safe : FloorSafe finds.pair.processed (opened_cutoff config.epochs finds.blocks.held finds.certs finds.pair) finds.blocks.held chain
  opened_safe = FloorSafe-opened config chain lawful partition finds.blocks.held finds.certs finds.pair (opened_certs config chain e picks begin n finds good)
      (FloorSafe-still chain finds.pair.processed finds.pair.cutoff e.blocks_sure finds.blocks.held (λ has. opened_heights config chain e picks begin n finds _ has) safe_before)

  cached_found : AreCachedOf chain finds.cache.may
  cached_found = all_found_within cached_finalization (λ f. IsFinalized chain f.round f.payload) finds.cache.may e.cache_may finds.cache_may.within_may good.may_cached

  cached_blocks_found : BlocksAgree chain finds.cache.may
  cached_blocks_found = all_found_within cached_block (Agrees chain) finds.cache.may e.cache_may finds.cache_may.within_may good.may_cached_blocks

  -- before its Start step the node is sound
  pub IsSound-opened : ((g : Block) → begin ≡ from_genesis g → IsBlockAt chain 0 g) → IsSound chain n
  IsSound-opened genesis = subst (IsSound chain) (sym finds.node) (record {
    stores = record {
      held_blocks = opened_blocks config chain e picks begin n finds good genesis;
      may_blocks = opened_may config chain e picks begin n finds good genesis;
      held_certs = opened_certs config chain e picks begin n finds good;
      may_certs = opened_certs config chain e picks begin n finds good;
    };
    cache = record { finalizations = cached_found; blocks = cached_blocks_found };
    awaits = tt;
    pairs = (subst (λ xs. IsSafePair chain xs (pair_of (option_map (processed_at finds.blocks.held) finds.pair.processed) (opened_cutoff config.epochs finds.blocks.held finds.certs finds.pair))) (sym finds.settled.sure) record { backed = subst (BackedBy finds.blocks.held) (sym (processed_at-height finds.blocks.held finds.pair.processed)) opened_backed; floor_safe = subst (λ o. FloorSafe o (opened_cutoff config.epochs finds.blocks.held finds.certs finds.pair) finds.blocks.held chain) (sym (processed_at-height finds.blocks.held finds.pair.processed)) opened_safe }, tt);
  })

  -- and good in heights
  pub IsGoodInHeights-opened : IsGoodInHeights config n
  IsGoodInHeights-opened = subst (IsGoodInHeights config) (sym finds.node) (record {
    stores = record {
      nested_blocks = record {
        sure_held = λ h has. subst (λ xs. IsTrue (has_height xs h)) finds.settled.sure has;
        held_may = λ h has. has_height-within finds.blocks.held finds.blocks.may finds.settled.held_may h has;
      };
      nested_certs = record { sure_held = λ h has. has; held_may = λ h has. has };
      sure_blocks = λ h has. inl (opened_has_sure config chain e picks begin n finds h has);
      sure_certs = λ h has. inl has;
    };
    delivery = record {
      consecutive = tt;
      out_sure = tt;
      within_window = omega arith;
      anchored = subst (HasAnchor (option_map (processed_at finds.blocks.held) finds.pair.processed)) (sym finds.settled.sure) (HasAnchor-opened finds.blocks.held finds.pair.processed opened_backed);
    };
    floor_clears = λ some. refl;
    own_pair = refl;
    sync_open = λ more. absurd (omega arith);
  })
