-- What a sync of both archives comes to for the stores of a life.
use Rattle.std.proofs.Common.{◌≡◌, ◌⊎◌, ⊎_elim, inl, inr, ℕ, Option, List, Bool, Result, true, false, refl}
use Rattle.std.specs.Prelude.{IfErr, IfOk, OnOk}
use Rattle.mar_types.specs.Round.{Round}
use Rattle.mar_cert.specs.Block.{Block}
use Rattle.mar_cert.specs.Finalization.{Finalization}
use Rattle.mar_key.specs.Cutoff.{Cutoff}
use Rattle.mar_key.specs.Processed.{Processed}
use Rattle.mar_store.specs.Changes.{Left, left_of}
use Rattle.mar_store.specs.Kept.{At, Kept}
use Rattle.mar_store.specs.Watch.{Watch}
use Rattle.mar_model.specs.Faults.{Fault, block_store, cert_store, sync_kind, ticket_limit}
use Rattle.mar_model.specs.Held.{GoesOn, Grew, Held, IsArchiveFault, IsUsual, Loses, MakesSure, Written, ended_of, nothing_written, HeldCache}
use Rattle.mar_model.specs.Metadata.{Pair}
use Rattle.mar_model.specs.Places.{kept_at, watch_at}
use Rattle.mar_model.specs.Writing.{Writing}
use Rattle.mar_model.specs.declared.Place.{Place}
use Rattle.mar_model.proofs.Growing.{Grew-surer_blocks, Grew-surer_certs, MakesSure-same, WithinWritten-nothing}
use Rattle.mar_model.proofs.StoreLosses.{Loses-blocks, Loses-certs, Loses-nothing}
use Rattle.mar_life.proofs.Placed.{archive_fault, both_done, both_found, by_answer, each_done, found_so, usual_fault}
use Rattle.mar_life.proofs.Reading.{life}
use Rattle.mar_life.specs.Pooling.{FailsBoth, SurerIn}

module _ {S W R X : Type 0} (stored : S → Kept (At Block)) (left : W → Left (At Block)) (watch : S → Watch) (watch_left : W → Watch) (stored_2 : R → Kept (At Finalization)) (left_2 : X → Left (At Finalization)) (watch_2 : R → Watch) (watch_left_2 : X → Watch) (old new : Place S W) (old_2 new_2 : Place R X) (fault : Fault) (fails : FailsBoth stored left watch watch_left stored_2 left_2 watch_2 watch_left_2 old new old_2 new_2 fault) where
  pub both_archive : IsArchiveFault fault
  both_archive = by fails
    where
      by : FailsBoth stored left watch watch_left stored_2 left_2 watch_2 watch_left_2 old new old_2 new_2 fault → IsArchiveFault fault
      by (inl (failed, same)) = archive_fault block_store _ _ fault tt failed.cause
      by (inr (surer, failed)) = archive_fault cert_store _ _ fault tt failed.cause

  pub both_usual : IsUsual fault
  both_usual = by fails
    where
      by : FailsBoth stored left watch watch_left stored_2 left_2 watch_2 watch_left_2 old new old_2 new_2 fault → IsUsual fault
      by (inl (failed, same)) = usual_fault block_store _ _ fault failed.cause
      by (inr (surer, failed)) = usual_fault cert_store _ _ fault failed.cause

  -- what is left of all stores, since a start
  pub both_lose : (start : Held) (all : Written) {processed : Option Processed} {cutoff : Cutoff} {witnessed : Round} {pairs : List Pair} {waits : HeldCache} {lowest : ℕ} {lowests : List ℕ} {writes : Writing} {meta cache : Watch} {intact : Bool} → Grew start all (record {
    blocks = kept_at stored left old;
    certs = kept_at stored_2 left_2 old_2;
    processed = processed;
    cutoff = cutoff;
    witnessed = witnessed;
    pairs = pairs;
    cache = waits;
    lowest = lowest;
    lowests = lowests;
    writes = writes;
    watches = record { blocks = watch_at watch watch_left old; certs = watch_at watch_2 watch_left_2 old_2; meta = meta; cache = cache };
    intact = intact;
  }) → Loses start all (record {
    fault = fault;
    remains = record {
      ended = ended_of (left_of (kept_at stored left new)) (left_of (kept_at stored_2 left_2 new_2)) (left_of waits.kept) lowests pairs;
      watches = record { blocks = watch_at watch watch_left new; certs = watch_at watch_2 watch_left_2 new_2; meta = meta; cache = cache };
    };
  })
  both_lose start all {pairs = pairs} {waits = waits} {lowests = lowests} {meta = meta} {cache = cache} grew = by fails
    where
      by : FailsBoth stored left watch watch_left stored_2 left_2 watch_2 watch_left_2 old new old_2 new_2 fault → Loses start all (record {
        fault = fault;
        remains = record {
          ended = ended_of (left_of (kept_at stored left new)) (left_of (kept_at stored_2 left_2 new_2)) (left_of waits.kept) lowests pairs;
          watches = record { blocks = watch_at watch watch_left new; certs = watch_at watch_2 watch_left_2 new_2; meta = meta; cache = cache };
        };
      })
      by (inl (failed, same)) = rw same (Loses-blocks start all _ grew _ _ fault _ (WithinWritten-nothing all).blocks failed.fails failed.cause)
      by (inr (surer, failed)) = Loses-certs start all _ (Grew-surer_blocks start all _ grew _ _ surer.nested surer.surer surer.passed) _ _ fault _ (WithinWritten-nothing all).certs failed.fails failed.cause

module _ {S W R X : Type 0} (stored : S → Kept (At Block)) (left : W → Left (At Block)) (watch : S → Watch) (watch_left : W → Watch) (stored_2 : R → Kept (At Finalization)) (left_2 : X → Left (At Finalization)) (watch_2 : R → Watch) (watch_left_2 : X → Watch) (old new : Place S W) (old_2 new_2 : Place R X) {processed : Option Processed} {cutoff : Cutoff} {witnessed : Round} {pairs : List Pair} {waits : HeldCache} {lowest : ℕ} {lowests : List ℕ} {writes : Writing} {meta cache : Watch} {was : Bool} (later : Writing) (is : Bool) where
  both_surer : (start : Held) (all : Written) → Grew start all (life (kept_at stored left old) (watch_at watch watch_left old) (kept_at stored_2 left_2 old_2) (watch_at watch_2 watch_left_2 old_2) processed cutoff witnessed pairs waits lowest lowests writes meta cache was) → SurerIn stored left watch watch_left old new → SurerIn stored_2 left_2 watch_2 watch_left_2 old_2 new_2 → Grew start all (life (kept_at stored left new) (watch_at watch watch_left new) (kept_at stored_2 left_2 new_2) (watch_at watch_2 watch_left_2 new_2) processed cutoff witnessed pairs waits lowest lowests later meta cache is)
  both_surer start all grew first second =
      let g = Grew-surer_certs start all _ (Grew-surer_blocks start all _ grew _ _ first.nested first.surer first.passed) _ _ second.nested second.surer second.passed in
      record { leaves = g.leaves; blocks = g.blocks; certs = g.certs; passed = g.passed }

  -- a sync was started, or there was no ticket for it
  pub start_goes_on : {T C : Type 0} (N : Type 0) (fault : C → Fault) (r : Result T C) → OnOk r (SurerIn stored left watch watch_left old new) → OnOk r (SurerIn stored_2 left_2 watch_2 watch_left_2 old_2 new_2)
      → IfErr r (λ e. FailsBoth stored left watch watch_left stored_2 left_2 watch_2 watch_left_2 old new old_2 new_2 (fault e) ⊎ (fault e ≡ ticket_limit sync_kind) × N × (new ≡ old) × (new_2 ≡ old_2))
      → GoesOn fault (life (kept_at stored left old) (watch_at watch watch_left old) (kept_at stored_2 left_2 old_2) (watch_at watch_2 watch_left_2 old_2) processed cutoff witnessed pairs waits lowest lowests writes meta cache was) nothing_written (life (kept_at stored left new) (watch_at watch watch_left new) (kept_at stored_2 left_2 new_2) (watch_at watch_2 watch_left_2 new_2) processed cutoff witnessed pairs waits lowest lowests later meta cache is) r
  start_goes_on N fault r first second failed start all grew within = by_answer r (both_done _ _ r first second) failed
      (λ ok. both_surer start all grew ok.0 ok.1)
      (λ e how. ⊎_elim
      (λ fails. both_lose stored left watch watch_left stored_2 left_2 watch_2 watch_left_2 old new old_2 new_2 (fault e) fails start all grew)
      (λ none. rw (none.0, none.2, none.3) (Loses-nothing start all _ grew (ticket_limit sync_kind) tt))
      how)

  -- both archives were synced
  pub sync_goes_on : {T C : Type 0} (fault : C → Fault) (r : Result T C) → OnOk r (SurerIn stored left watch watch_left old new) → OnOk r (SurerIn stored_2 left_2 watch_2 watch_left_2 old_2 new_2)
      → IfErr r (λ e. FailsBoth stored left watch watch_left stored_2 left_2 watch_2 watch_left_2 old new old_2 new_2 (fault e))
      → GoesOn fault (life (kept_at stored left old) (watch_at watch watch_left old) (kept_at stored_2 left_2 old_2) (watch_at watch_2 watch_left_2 old_2) processed cutoff witnessed pairs waits lowest lowests writes meta cache was) nothing_written (life (kept_at stored left new) (watch_at watch watch_left new) (kept_at stored_2 left_2 new_2) (watch_at watch_2 watch_left_2 new_2) processed cutoff witnessed pairs waits lowest lowests later meta cache is) r
  sync_goes_on fault r first second failed start all grew within = by_answer r (both_done _ _ r first second) failed
      (λ ok. both_surer start all grew ok.0 ok.1)
      (λ e fails. both_lose stored left watch watch_left stored_2 left_2 watch_2 watch_left_2 old new old_2 new_2 (fault e) fails start all grew)

  -- a sync was finished, or it was none that is open
  pub finish_goes_on : {C : Type 0} (N : Type 0) (fault : C → Fault) (r : Result Bool C) → IfOk r (λ b. b ≡ true → SurerIn stored left watch watch_left old new) → IfOk r (λ b. b ≡ true → SurerIn stored_2 left_2 watch_2 watch_left_2 old_2 new_2)
      → IfOk r (λ b. b ≡ false → (new ≡ old) × (new_2 ≡ old_2) × N)
      → IfErr r (λ e. FailsBoth stored left watch watch_left stored_2 left_2 watch_2 watch_left_2 old new old_2 new_2 (fault e))
      → GoesOn fault (life (kept_at stored left old) (watch_at watch watch_left old) (kept_at stored_2 left_2 old_2) (watch_at watch_2 watch_left_2 old_2) processed cutoff witnessed pairs waits lowest lowests writes meta cache was) nothing_written (life (kept_at stored left new) (watch_at watch watch_left new) (kept_at stored_2 left_2 new_2) (watch_at watch_2 watch_left_2 new_2) processed cutoff witnessed pairs waits lowest lowests later meta cache is) r
  finish_goes_on N fault r first second closed failed start all grew within = by_answer r
      (each_done _ r (found_so r (both_found _ _ r (both_found _ _ r first second) closed) (λ b f. (
        λ is. both_surer start all grew (f.0.0 is) (f.0.1 is),
        λ is. rw ((f.1 is).0, (f.1 is).1) (record { leaves = grew.leaves; blocks = grew.blocks; certs = grew.certs; passed = grew.passed }),
      ))))
      failed
      (λ grew. grew)
      (λ e fails. both_lose stored left watch watch_left stored_2 left_2 watch_2 watch_left_2 old new old_2 new_2 (fault e) fails start all grew)

-- a finished sync made more sure, and one that isn't open nothing
pub makes_sure : {T S W C E : Type 0} (stored : S → Kept (At T)) (left : W → Left (At T)) (watch : S → Watch) (watch_left : W → Watch) (old new : Place S W) (r : Result Bool C) → IfOk r (λ b. b ≡ true → SurerIn stored left watch watch_left old new) → IfOk r (λ b. b ≡ false → E) → (E → new ≡ old) → OnOk r (MakesSure (kept_at stored left old) (kept_at stored left new))
makes_sure stored left watch watch_left old new r surer closed same = each_done _ r (found_so r (both_found _ _ r surer closed) (λ b f. (λ is. (f.0 is).surer, λ is. MakesSure-same _ _ (rw (same (f.1 is)) refl))))
