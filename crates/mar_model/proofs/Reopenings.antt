-- Stores that are reopened, and a call of an opening that failed.
use Rattle.std.specs.List.{list_any}
use Rattle.std.proofs.Common.{◌≡◌, ◌⊎◌, inl, inr, IsTrue, append-nil, ⊎_elim, ℕ, zero, ◌<◌, Option, None, Some, IfSome, option_map, List, [], ◌∷◌, ◌++◌, length, map, Contains, refl, sym, ◌∙◌, ap, subst, arith, true}
use Rattle.std.proofs.Math.ListN.{get_or-map}
use Rattle.std.proofs.lemmas.List.{length-map}
use Rattle.std.proofs.lemmas.List.Elements.{Contains-append_cases, Contains-append_left, Contains-append_right}
use Rattle.mar_cert.specs.Block.{Block}
use Rattle.mar_cert.specs.Finalization.{Finalization}
use Rattle.mar_store.specs.Kept.{At, Kept, value_at}
use Rattle.mar_store.specs.Changes.{Fails, IsNested, IsReopened, Left, Within, left_of}
use Rattle.mar_store.specs.Luck.{keeps_by, lucky_found, lucky_values}
use Rattle.mar_store.specs.Watch.{Follows, Watch}
use Rattle.mar_store.specs.Values.{LeavesValues, Values}
use Rattle.mar_store.proofs.Lookups.{value_at-from_contains}
use Rattle.mar_model.specs.Cache.{is_below}
use Rattle.mar_model.specs.Cached.{Cached, IsUnloaded}
use Rattle.mar_model.specs.Metadata.{LeavesPairs, Pair, first_pair, lucky_pair, pair_at}
use Rattle.mar_model.proofs.Pairs.{leaves_pairs, lucky_pair_of}
use Rattle.mar_model.specs.Faults.{Fault, block_store, cache_store, cert_store, meta_store}
use Rattle.mar_gate.specs.Writing.{no_writes}
use Rattle.mar_model.specs.Held.{ArePassed, Ending, Grew, Held, IsNoStores, LeavesUnloaded, LeavesUnopened, Loses, LosesOpening, Passes, Progress, Remains, ReopensAs, Watches, Written, blocks_left, cache_left, certs_left, ended_of, nothing_written, progress_of, HeldCache}
use Rattle.mar_model.proofs.Cutting.{only_one, some_from_first}
use Rattle.mar_model.proofs.Growing.{Grew-refl, within_all}
use Rattle.mar_model.proofs.Passing.{ArePassed-store, ArePassed-then, FailsBy-nothing, FailsBy-store, FailsBy-then}
use Rattle.mar_model.proofs.StoreLosses.{IsHow}
use Rattle.mar_gate.specs.Writing.{no_writes}
use Rattle.mar_model.specs.LuckyEntries.{lucky_entries}

LeavesUnopened-same : {T : Type 0} (old : Left (At T)) (put : List (At T)) → LeavesUnopened old put old
LeavesUnopened-same old put = record { sure = λ h v is. is; may = λ x has. Contains-append_left old.may put x has }

LeavesUnloaded-same : (cache : Left Cached) (lowests : List ℕ) → LeavesUnloaded cache cache lowests lowests
LeavesUnloaded-same cache lowests = record { sure = λ x has. has; may = λ x has. has; lowest = λ k has. has }

LeavesUnopened-failed : {T : Type 0} (old left : Left (At T)) (put : List (At T)) → Fails old put left → LeavesUnopened old put left
LeavesUnopened-failed old left put fails = record { sure = λ h v is. subst (λ xs. value_at xs h ≡ Some v) (sym fails.sure) is; may = fails.may }

-- what was reopened has all that was sure, and nothing new
LeavesUnopened-opened : {T : Type 0} (old : Left (At T)) (put : List (At T)) (new : Kept (At T)) → IsReopened old new → LeavesUnopened old put (left_of new)
LeavesUnopened-opened old put new reopened = subst (λ k. LeavesUnopened old put (left_of k)) (sym reopened.is) (record {
  sure = reopened.found_may.with_sure;
  may = λ x has. Contains-append_left old.may put x (reopened.found_may.within_may x.height x.value (value_at-from_contains reopened.found x reopened.found_may.once has));
})

IfSome-map : {A B : Type 0} (o : Option A) (f : A → B) (P : B → Type 0) → IfSome o (λ x. P (f x)) → IfSome (option_map f o) P
IfSome-map None f P is = tt
IfSome-map (Some x) f P is = is

contains_pair : (left : List Values) (values : Values) → Contains left values → Contains (map pair_at left) (pair_at values)
contains_pair left values has = (has.0, rw length-map has.1, get_or-map pair_at left has.0 values ∙ ap pair_at has.2)

inside : (p q : Pair) → ◌≡◌ {A = Option Pair} (Some p) (Some q) → p ≡ q
inside p q is = cc

first_contained : (pairs : List Pair) (p : Pair) → first_pair pairs ≡ Some p → Contains pairs p
first_contained [] p is = absurd cc
first_contained (q ∷ pairs) p is = (zero, omega arith, inside q p is)

-- A STORE IS LOST

module _ (old_blocks : Left (At Block)) (old_certs : Left (At Finalization)) (old_cache : Left Cached) (old_lowests : List ℕ) (old_values : List Values) (watches : Watches) where
  abbrev pub old : Remains
  old = record { ended = ended_of old_blocks old_certs old_cache old_lowests (map pair_at old_values); watches = watches }

  pub lost_blocks : (left : Left (At Block)) (fault : Fault) (w : Watch) → Fails old_blocks [] left → IsHow block_store watches.blocks fault w → LosesOpening old nothing_written (record { fault = fault; remains = record { ended = ended_of left old_certs old_cache old_lowests (map pair_at old_values); watches = record watches { blocks = w } } })
  lost_blocks left fault w fails how = record {
    blocks = LeavesUnopened-failed old_blocks left [] fails;
    certs = LeavesUnopened-same old_certs [];
    some_pair = λ some. some;
    first_pair = λ p is. first_contained old.ended.meta p is;
    pairs = λ p has. Contains-append_left (map pair_at old_values) [] p has;
    cache = LeavesUnloaded-same old_cache old_lowests;
    cause = FailsBy-store watches block_store w _ _ refl how;
  }

  module _ (blocks : Kept (At Block)) (wb : Watch) (reopened : IsReopened old_blocks blocks) (passed_blocks : Passes watches.blocks wb) where
    abbrev pub one : Watches
    one = record watches { blocks = wb }

    passed_one : ArePassed watches one
    passed_one = ArePassed-store watches block_store wb passed_blocks

    pub lost_certs : (left : Left (At Finalization)) (fault : Fault) (w : Watch) → Fails old_certs [] left → IsHow cert_store watches.certs fault w → LosesOpening old nothing_written (record { fault = fault; remains = record { ended = ended_of (left_of blocks) left old_cache old_lowests (map pair_at old_values); watches = record watches { blocks = wb; certs = w } } })
    lost_certs left fault w fails how = record {
      blocks = LeavesUnopened-opened old_blocks [] blocks reopened;
      certs = LeavesUnopened-failed old_certs left [] fails;
      some_pair = λ some. some;
      first_pair = λ p is. first_contained old.ended.meta p is;
      pairs = λ p has. Contains-append_left (map pair_at old_values) [] p has;
      cache = LeavesUnloaded-same old_cache old_lowests;
      cause = FailsBy-then watches one _ _ passed_one (FailsBy-store one cert_store w _ _ refl how);
    }

    module _ (certs : Kept (At Finalization)) (wc : Watch) (certs_reopened : IsReopened old_certs certs) (passed_certs : Passes watches.certs wc) where
      abbrev pub two : Watches
      two = record watches { blocks = wb; certs = wc }

      passed_two : ArePassed watches two
      passed_two = ArePassed-then watches one two passed_one (ArePassed-store one cert_store wc passed_certs)

      pub lost_meta : (left : List Values) (fault : Fault) (w : Watch) → 0 < length old_values → LeavesValues old_values [] left → IsHow meta_store watches.meta fault w → LosesOpening old nothing_written (record { fault = fault; remains = record { ended = ended_of (left_of blocks) (left_of certs) old_cache old_lowests (map pair_at left); watches = record watches { blocks = wb; certs = wc; meta = w } } })
      lost_meta left fault w some leaves how = record {
        blocks = LeavesUnopened-opened old_blocks [] blocks reopened;
        certs = LeavesUnopened-opened old_certs [] certs certs_reopened;
        some_pair = λ had. pairs.some;
        first_pair = λ p is. first_contained (map pair_at old_values) p (sym pairs.synced ∙ is);
        pairs = λ p has. pairs.within p has;
        cache = LeavesUnloaded-same old_cache old_lowests;
        cause = FailsBy-then watches two _ _ passed_two (FailsBy-store two meta_store w _ _ refl how);
      }
        where
          pairs : LeavesPairs (map pair_at old_values) [] (map pair_at left)
          pairs = leaves_pairs old_values [] left some leaves

      module _ (values : Values) (progress : Progress) (wm : Watch) (values_may : Contains old_values values) (is : progress ≡ progress_of (pair_at values) wm) (passed_meta : Passes watches.meta wm) where
        pub lost_shelf : (left : Left Cached) (lowests : List ℕ) (fault : Fault) (w : Watch) → LeavesUnloaded old_cache left old_lowests lowests → IsHow cache_store watches.cache fault w → LosesOpening old nothing_written (record { fault = fault; remains = record { ended = ended_of (left_of blocks) (left_of certs) left lowests progress.pairs; watches = record { blocks = wb; certs = wc; meta = progress.watch; cache = w } } })
        lost_shelf left lowests fault w leaves how = record {
          blocks = LeavesUnopened-opened old_blocks [] blocks reopened;
          certs = LeavesUnopened-opened old_certs [] certs certs_reopened;
          some_pair = λ had. subst (λ ps. 0 < length ps) (sym pairs) (omega arith);
          first_pair = λ p is. subst (Contains (map pair_at old_values)) (inside (pair_at values) p (sym (ap first_pair pairs) ∙ is)) (contains_pair old_values values values_may);
          pairs = λ p has. Contains-append_left (map pair_at old_values) [] p (subst (λ q. Contains (map pair_at old_values) q) (only_one (pair_at values) p (subst (λ ps. Contains ps p) pairs has)) (contains_pair old_values values values_may));
          cache = leaves;
          cause = FailsBy-then watches three _ _ passed_three (FailsBy-store three cache_store w _ _ watches_are how);
        }
          where
            three : Watches
            three = record watches { blocks = wb; certs = wc; meta = wm }

            passed_three : ArePassed watches three
            passed_three = ArePassed-then watches two three passed_two (ArePassed-store two meta_store wm passed_meta)

            pairs : progress.pairs ≡ pair_at values ∷ []
            pairs = ap (λ p. p.pairs) is

            watches_are : ◌≡◌ {A = Watches} (record { blocks = wb; certs = wc; meta = progress.watch; cache = w }) (record three { cache = w })
            watches_are = ap (λ m. record { blocks = wb; certs = wc; meta = m; cache = w }) (ap (λ p. p.watch) is)

        -- all four were reopened
        pub all_passed : (ws : Watch) → Passes watches.cache ws → ArePassed watches (record { blocks = wb; certs = wc; meta = progress.watch; cache = ws })
        all_passed ws passes = subst (λ m. ArePassed watches (record { blocks = wb; certs = wc; meta = m; cache = ws })) (sym (ap (λ p. p.watch) is)) (ArePassed-then watches four _ passed_four (ArePassed-store four cache_store ws passes))
          where
            four : Watches
            four = record watches { blocks = wb; certs = wc; meta = wm }

            passed_four : ArePassed watches four
            passed_four = ArePassed-then watches two four passed_two (ArePassed-store two meta_store wm passed_meta)

        -- and what each found is what its luck keeps
        pub reopens : (luck : ℕ) (cache : HeldCache) (lowest : ℕ) (lowests : List ℕ) (ws : Watch) → IsUnloaded old_cache.sure old_cache.may (left_of cache.kept) → cache.kept.held ≡ [] → cache.fresh ≡ true → cache.finds ≡ option_map (λ keeps. lucky_entries (keeps_by keeps luck) old_cache) watches.cache.keeps → cache.syncs ≡ [] → Contains lowests lowest → Within lowests old_lowests → Passes watches.cache ws → 0 < length old_values → IfSome watches.blocks.keeps (λ keeps. blocks.held ≡ lucky_found (keeps_by keeps luck) old_blocks) → IfSome watches.certs.keeps (λ keeps. certs.held ≡ lucky_found (keeps_by keeps luck) old_certs) → IfSome watches.meta.keeps (λ keeps. values ≡ lucky_values (keeps_by keeps luck 0) old_values) → ReopensAs old luck (record { blocks = blocks; certs = certs; processed = progress.processed; cutoff = progress.cutoff; witnessed = progress.witnessed; pairs = progress.pairs; cache = cache; lowest = lowest; lowests = lowests; writes = no_writes; watches = record { blocks = wb; certs = wc; meta = progress.watch; cache = ws }; intact = progress.intact })
        reopens luck cache lowest lowests ws unloaded unheld fresh finds no_syncs lowest_is lowests_were passes some lucky_blocks lucky_certs lucky_meta = record {
          blocks = reopened;
          certs = certs_reopened;
          pair = pair_at values;
          pair_may = contains_pair old_values values values_may;
          picked = record {
            blocks_are = IfSome-map watches.blocks.keeps (λ keeps. lucky_found (keeps_by keeps luck) old_blocks) (λ picked. blocks.held ≡ picked) lucky_blocks;
            certs_are = IfSome-map watches.certs.keeps (λ keeps. lucky_found (keeps_by keeps luck) old_certs) (λ picked. certs.held ≡ picked) lucky_certs;
            pair_is = IfSome-map watches.meta.keeps (λ keeps. lucky_pair (keeps_by keeps luck 0) (map pair_at old_values)) (λ picked. Some (pair_at values) ≡ picked) (pair_picked watches.meta.keeps lucky_meta);
          };
          processed = ap (λ p. p.processed) is;
          cutoff = ap (λ p. p.cutoff) is;
          witnessed = ap (λ p. p.witnessed) is;
          pairs = ap (λ p. p.pairs) is;
          writes = refl;
          passed = all_passed ws passes;
          intact = ap (λ p. p.intact) is;
          cache = unloaded;
          unheld = unheld;
          fresh = fresh;
          finds = finds;
          no_syncs = no_syncs;
          lowest = lowest_is;
          lowests = lowests_were;
        }
          where
            pair_picked : (follows : Option Follows) → IfSome follows (λ keeps. values ≡ lucky_values (keeps_by keeps luck 0) old_values) → IfSome follows (λ keeps. Some (pair_at values) ≡ lucky_pair (keeps_by keeps luck 0) (map pair_at old_values))
            pair_picked None lucky = tt
            pair_picked (Some keeps) lucky = ap (λ v. Some (pair_at v)) lucky ∙ lucky_pair_of (keeps_by keeps luck 0) old_values some

-- what was reopened is nested
IsNested-opened : {T : Type 0} (left : Left (At T)) (new : Kept (At T)) → IsReopened left new → IsNested new
IsNested-opened left new reopened = subst IsNested (sym reopened.is) (record { once = reopened.found_may.once; sure_once = reopened.found_may.once; sure_held = λ h v is. is; held_may = λ x has. has })

-- nothing was written since
pub Grew-opened : (old : Remains) (luck : ℕ) (first : Held) (written : Written) → ReopensAs old luck first → Grew first written first
Grew-opened old luck first written reopens = Grew-refl first written (IsNested-opened (blocks_left old.ended) first.blocks reopens.blocks) (IsNested-opened (certs_left old.ended) first.certs reopens.certs)

-- LATER CALLS

-- of the cache what waited was left, and nothing is put in it yet
LeavesUnloaded-then : (old : Remains) (luck : ℕ) (s : Held) (written : Written) (e : Ending) → written.cached ≡ [] → written.prunes ≡ [] → ReopensAs old luck s → Loses s written e → LeavesUnloaded (cache_left old.ended) (cache_left e.remains.ended) old.ended.lowests e.remains.ended.lowests
LeavesUnloaded-then old luck s written e none_put none_pruned reopens lost = record {
  sure = λ x has. stays x (subst (λ ps. Contains e.remains.ended.cache_sure x ⊎ IsTrue (list_any (λ p. is_below p x) ps)) none_pruned (lost.leaves.cache.sure x (reopens.cache.with_sure x has)));
  may = λ x has. reopens.cache.within_may x (subst (λ xs. Contains xs x) (ap (λ xs. s.cache.kept.may ++ xs) none_put ∙ append-nil s.cache.kept.may) (lost.leaves.cache.may x has));
  lowest = λ k has. reopens.lowests k (subst (λ xs. Contains xs k) (ap (λ ps. s.lowests ++ map (λ p. p.epoch) ps) none_pruned ∙ append-nil s.lowests) (lost.leaves.cache.lowest k has));
}
  where
    stays : (x : Cached) → Contains e.remains.ended.cache_sure x ⊎ IsTrue (list_any (λ p. is_below p x) []) → Contains e.remains.ended.cache_sure x
    stays x (inl has) = has
    stays x (inr pruned) = absurd cc

-- a call that failed after all were reopened
pub LosesOpening-then : (old : Remains) (luck : ℕ) (s : Held) (written : Written) (e : Ending) → written.blocks_from ≡ 0 → written.certs_from ≡ 0 → written.cached ≡ [] → written.prunes ≡ [] → ReopensAs old luck s → Loses s written e → LosesOpening old written e
LosesOpening-then old luck s written e no_prune no_cert_prune none_put none_pruned reopens lost = record {
  blocks = record {
    sure = λ h v is. lost.leaves.blocks.sure h v (omega (arith, no_prune)) ((LeavesUnopened-opened (blocks_left old.ended) written.blocks s.blocks reopens.blocks).sure h v is);
    may = λ x has. within_all s.blocks.may written.blocks written.blocks (blocks_left old.ended).may (LeavesUnopened-opened (blocks_left old.ended) written.blocks s.blocks reopens.blocks).may (λ y put. put) x (lost.leaves.blocks.may x has);
  };
  certs = record {
    sure = λ h v is. lost.leaves.certs.sure h v (omega (arith, no_cert_prune)) ((LeavesUnopened-opened (certs_left old.ended) written.certs s.certs reopens.certs).sure h v is);
    may = λ x has. within_all s.certs.may written.certs written.certs (certs_left old.ended).may (LeavesUnopened-opened (certs_left old.ended) written.certs s.certs reopens.certs).may (λ y put. put) x (lost.leaves.certs.may x has);
  };
  some_pair = λ some. some_from_first e.remains.ended.meta reopens.pair (lost.leaves.pairs.first ∙ ap first_pair reopens.pairs);
  first_pair = λ p is. subst (Contains old.ended.meta) (inside reopens.pair p (sym (ap first_pair reopens.pairs) ∙ (sym lost.leaves.pairs.first ∙ is))) reopens.pair_may;
  pairs = λ p has. ⊎_elim
      (λ first. Contains-append_left old.ended.meta written.pairs p (subst (Contains old.ended.meta) (only_one reopens.pair p (subst (λ ps. Contains ps p) reopens.pairs first)) reopens.pair_may))
      (λ new. Contains-append_right old.ended.meta written.pairs p new)
      (Contains-append_cases s.pairs written.pairs p (lost.leaves.pairs.within p has));
  cache = LeavesUnloaded-then old luck s written e none_put none_pruned reopens lost;
  cause = FailsBy-then old.watches s.watches e.fault e.remains.watches reopens.passed lost.cause;
}

-- nothing was opened
pub LosesOpening-nothing : (old : Remains) (fault : Fault) → IsNoStores fault → LosesOpening old nothing_written (record { fault = fault; remains = old })
LosesOpening-nothing old fault none = record {
  blocks = LeavesUnopened-same (blocks_left old.ended) [];
  certs = LeavesUnopened-same (certs_left old.ended) [];
  some_pair = λ some. some;
  first_pair = λ p is. first_contained old.ended.meta p is;
  pairs = λ p has. Contains-append_left old.ended.meta [] p has;
  cache = LeavesUnloaded-same (cache_left old.ended) old.ended.lowests;
  cause = FailsBy-nothing old.watches fault none;
}
