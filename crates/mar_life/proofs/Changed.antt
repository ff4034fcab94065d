-- What a change of an archive comes to for the stores of a life.
use Rattle.std.proofs.Common.{◌∷◌, ◌++◌, ◌||◌, [], false, inl, ℕ, Bool, List, Option, Result, ap}
use Rattle.std.proofs.lemmas.List.Elements.{Contains-append_cases}
use Rattle.std.specs.Prelude.{IfErr, OnOk}
use Rattle.mar_types.specs.Round.{Round}
use Rattle.mar_cert.specs.Block.{Block}
use Rattle.mar_cert.specs.Finalization.{Finalization}
use Rattle.mar_key.specs.Cutoff.{Cutoff}
use Rattle.mar_key.specs.Processed.{Processed}
use Rattle.mar_store.specs.Changes.{IsNested, Left, Puts, Within, left_of}
use Rattle.mar_store.specs.Kept.{At, Kept}
use Rattle.mar_store.specs.Watch.{Watch}
use Rattle.mar_model.specs.Cache.{is_below}
use Rattle.mar_model.specs.Cached.{Cached}
use Rattle.mar_model.specs.Faults.{Fault, block_store, cache_store, cert_store}
use Rattle.mar_model.specs.Held.{GoesOn, HeldCache, Passes, Written, nothing_written, written_block, written_cert, written_entry, written_prune}
use Rattle.mar_model.specs.Metadata.{Pair}
use Rattle.mar_model.specs.Moves.{StoresValue}
use Rattle.mar_model.specs.Places.{kept_at, watch_at}
use Rattle.mar_model.specs.Writing.{Writing}
use Rattle.mar_model.specs.declared.Place.{Place}
use Rattle.mar_model.proofs.Growing.{Grew-put_block, Grew-put_cert, Grew-surer_blocks, Grew-surer_certs}
use Rattle.mar_model.proofs.CacheChanges.{ChangesCache, Grew-cached, Loses-cache}
use Rattle.mar_model.proofs.Passing.{Passes-refl}
use Rattle.mar_model.proofs.StoreLosses.{Loses-blocks, Loses-certs}
use Rattle.mar_life.proofs.Placed.{both_done, by_answer, nested_before, nested_in, stored_puts, stored_surer}
use Rattle.mar_life.proofs.Reading.{life}
use Rattle.mar_life.specs.Pooling.{FailsIn, IsFaultOf, StaysIn}
use Rattle.mar_model.specs.AllEntries.{LeavesEntries}
use Rattle.mar_model.specs.CacheCalls.{none_goes}

module _ {X C : Type 0} (fault : C → Fault) (r : Result X C) {processed : Option Processed} {cutoff : Cutoff} {witnessed : Round} {pairs : List Pair} {waits : HeldCache} {lowest : ℕ} {lowests : List ℕ} {writes : Writing} {meta cache : Watch} {was : Bool} (later : Writing) (is : Bool) where
  -- of the blocks
  module _ {S W : Type 0} (stored : S → Kept (At Block)) (left : W → Left (At Block)) (watch : S → Watch) (watch_left : W → Watch) (x : At Block) (old new : Place S W) {certs : Kept (At Finalization)} {of_certs : Watch} (ignored : Bool) (passed : OnOk r (Passes (watch_at watch watch_left old) (watch_at watch watch_left new))) (failed : IfErr r (λ e. FailsIn block_store stored left watch watch_left (x ∷ []) old new (fault e))) where
    -- a block was put
    pub put_block_goes_on : OnOk r (Puts ignored (kept_at stored left old) x (kept_at stored left new)) → GoesOn fault (life (kept_at stored left old) (watch_at watch watch_left old) certs of_certs processed cutoff witnessed pairs waits lowest lowests writes meta cache was) (written_block x) (life (kept_at stored left new) (watch_at watch watch_left new) certs of_certs processed cutoff witnessed pairs waits lowest lowests later meta cache is) r
    put_block_goes_on puts start all grew within = by_answer r (both_done _ _ r puts passed) failed
        (λ ok. let g = Grew-put_block start all _ grew _ x _ _ within.blocks ok.0 ok.1 in record { leaves = g.leaves; blocks = g.blocks; certs = g.certs; passed = g.passed })
        (λ e how. Loses-blocks start all _ grew _ _ _ _ within.blocks how.fails how.cause)

    -- and made durable at once
    pub store_block_goes_on : (number : S → ℕ) (covers : S → ℕ → List (At Block)) → ((s : S) → IsNested (stored s)) → OnOk r (StaysIn stored number covers old new) → OnOk r (StoresValue ignored (kept_at stored left old) x (kept_at stored left new)) → GoesOn fault (life (kept_at stored left old) (watch_at watch watch_left old) certs of_certs processed cutoff witnessed pairs waits lowest lowests writes meta cache was) (written_block x) (life (kept_at stored left new) (watch_at watch watch_left new) certs of_certs processed cutoff witnessed pairs waits lowest lowests later meta cache is) r
    store_block_goes_on number covers law stays stores start all grew within = by_answer r (both_done _ _ r (both_done _ _ r stays stores) passed) failed
        (λ ok. let g = Grew-surer_blocks start all _ (Grew-put_block start all _ grew _ x _ _ within.blocks (stored_puts ok.0.1) ok.1) _ _ (nested_in stored number covers left law _ _ ok.0.0) (stored_surer ok.0.1 (nested_before stored number covers left law _ _ ok.0.0) (nested_in stored number covers left law _ _ ok.0.0)) (Passes-refl _) in record { leaves = g.leaves; blocks = g.blocks; certs = g.certs; passed = g.passed })
        (λ e how. Loses-blocks start all _ grew _ _ _ _ within.blocks how.fails how.cause)

  -- of the finalizations
  module _ {S W : Type 0} (stored : S → Kept (At Finalization)) (left : W → Left (At Finalization)) (watch : S → Watch) (watch_left : W → Watch) (x : At Finalization) (old new : Place S W) {blocks : Kept (At Block)} {of_blocks : Watch} (ignored : Bool) (passed : OnOk r (Passes (watch_at watch watch_left old) (watch_at watch watch_left new))) (failed : IfErr r (λ e. FailsIn cert_store stored left watch watch_left (x ∷ []) old new (fault e))) where
    pub put_cert_goes_on : OnOk r (Puts ignored (kept_at stored left old) x (kept_at stored left new)) → GoesOn fault (life blocks of_blocks (kept_at stored left old) (watch_at watch watch_left old) processed cutoff witnessed pairs waits lowest lowests writes meta cache was) (written_cert x) (life blocks of_blocks (kept_at stored left new) (watch_at watch watch_left new) processed cutoff witnessed pairs waits lowest lowests later meta cache is) r
    put_cert_goes_on puts start all grew within = by_answer r (both_done _ _ r puts passed) failed
        (λ ok. let g = Grew-put_cert start all _ grew _ x _ _ within.certs ok.0 ok.1 in record { leaves = g.leaves; blocks = g.blocks; certs = g.certs; passed = g.passed })
        (λ e how. Loses-certs start all _ grew _ _ _ _ within.certs how.fails how.cause)

    pub store_cert_goes_on : (number : S → ℕ) (covers : S → ℕ → List (At Finalization)) → ((s : S) → IsNested (stored s)) → OnOk r (StaysIn stored number covers old new) → OnOk r (StoresValue ignored (kept_at stored left old) x (kept_at stored left new)) → GoesOn fault (life blocks of_blocks (kept_at stored left old) (watch_at watch watch_left old) processed cutoff witnessed pairs waits lowest lowests writes meta cache was) (written_cert x) (life blocks of_blocks (kept_at stored left new) (watch_at watch watch_left new) processed cutoff witnessed pairs waits lowest lowests later meta cache is) r
    store_cert_goes_on number covers law stays stores start all grew within = by_answer r (both_done _ _ r (both_done _ _ r stays stores) passed) failed
        (λ ok. let g = Grew-surer_certs start all _ (Grew-put_cert start all _ grew _ x _ _ within.certs (stored_puts ok.0.1) ok.1) _ _ (nested_in stored number covers left law _ _ ok.0.0) (stored_surer ok.0.1 (nested_before stored number covers left law _ _ ok.0.0) (nested_in stored number covers left law _ _ ok.0.0)) (Passes-refl _) in record { leaves = g.leaves; blocks = g.blocks; certs = g.certs; passed = g.passed })
        (λ e how. Loses-certs start all _ grew _ _ _ _ within.certs how.fails how.cause)

-- The cache was changed. `written` is what the call was to put and to prune.
module _ {X C : Type 0} (fault : C → Fault) (written : Written) (r : Result X C) {blocks : Kept (At Block)} {certs : Kept (At Finalization)} {of_blocks of_certs meta w : Watch} {processed : Option Processed} {cutoff : Cutoff} {witnessed : Round} {pairs : List Pair} {writes : Writing} {was : Bool} (now : Watch) (is : Bool) (old new : HeldCache) (lowest lowest' : ℕ) (lowests lowests' : List ℕ) where
  pub cache_goes_on : OnOk r (ChangesCache written old.kept lowests (left_of new.kept) lowests') → OnOk r (Passes w now) → IfErr r (λ e. ChangesCache written old.kept lowests (left_of new.kept) lowests' × IsFaultOf cache_store w (fault e) now)
      → GoesOn fault (life blocks of_blocks certs of_certs processed cutoff witnessed pairs old lowest lowests writes meta w was) written (life blocks of_blocks certs of_certs processed cutoff witnessed pairs new lowest' lowests' writes meta now is) r
  cache_goes_on changes passed failed start all grew within = by_answer r (both_done _ _ r changes passed) failed
      (λ ok. let g = Grew-cached start all _ grew written within new lowest' lowests' now ok.0 ok.1 in record { leaves = g.leaves; blocks = g.blocks; certs = g.certs; passed = g.passed })
      (λ e how. Loses-cache start all _ grew written within (left_of new.kept) lowests' (fault e) now how.0 how.1)

-- what was left was taken up, or a part of it
pub takes_up : (old : Kept Cached) (lowests : List ℕ) (left : Left Cached) (now : List ℕ) → LeavesEntries [] none_goes old left.sure left.may → Within now lowests → ChangesCache nothing_written old lowests left now
takes_up old lowests left now leaves fewer = record { gone = none_goes; pruned = λ x goes. absurd cc; leaves = leaves; lowest = λ k has. inl (fewer k has) }

-- an entry was put
pub keeps_entry : (x : Cached) (old : Kept Cached) (lowests : List ℕ) (left : Left Cached) (now : List ℕ) → LeavesEntries (x ∷ []) none_goes old left.sure left.may → Within now lowests → ChangesCache (written_entry x) old lowests left now
keeps_entry x old lowests left now leaves fewer = record { gone = none_goes; pruned = λ y goes. absurd cc; leaves = leaves; lowest = λ k has. inl (fewer k has) }

-- what is below a round was pruned
pub prunes_below : (round : Round) (old : Kept Cached) (lowests : List ℕ) (left : Left Cached) (now : List ℕ) → LeavesEntries [] (is_below round) old left.sure left.may → Within now (lowests ++ round.epoch ∷ []) → ChangesCache (written_prune round) old lowests left now
prunes_below round old lowests left now leaves fewer = record {
  gone = is_below round;
  pruned = λ x goes. ap (λ c. c || false) goes;
  leaves = leaves;
  lowest = λ k has. Contains-append_cases lowests (round.epoch ∷ []) k (fewer k has);
}
