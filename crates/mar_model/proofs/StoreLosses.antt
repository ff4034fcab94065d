-- A store call that failed leaves what was there and no more than it was to write, and its fault has its cause.
use Rattle.std.proofs.Common.{◌≡◌, ◌⊎◌, List, refl, sym, ◌∙◌, subst}
use Rattle.mar_cert.specs.Block.{Block}
use Rattle.mar_cert.specs.Finalization.{Finalization}
use Rattle.mar_store.specs.Kept.{At}
use Rattle.mar_store.specs.Changes.{Fails, Left, Within, left_of}
use Rattle.mar_store.specs.Watch.{Watch}
use Rattle.mar_model.specs.Metadata.{LeavesPairs, Pair}
use Rattle.mar_model.specs.Faults.{Fault, StoreName, block_store, cert_store, meta_store, store_fault, want_of_memory}
use Rattle.mar_model.specs.Held.{Breaks, Ending, Grew, Held, IsNoStores, Loses, Passes, Written, ended_of, remains_of, watch_of}
use Rattle.mar_model.proofs.Growing.{LeavesStore-failed, within_all}
use Rattle.mar_model.proofs.Passing.{FailsBy-nothing, FailsBy-store, FailsBy-then, with_watch}

-- how one store's call ended: it failed, or memory ran out
abbrev pub IsHow : StoreName → Watch → Fault → Watch → Type 0
IsHow s before fault now = (fault ≡ store_fault s) × Breaks before now ⊎ ((fault ≡ want_of_memory) × Passes before now)

module _ (start : Held) (all : Written) (old : Held) (grew : Grew start all old) where
  -- what is left where a call of the blocks failed
  pub Loses-blocks : (more : List (At Block)) (left : Left (At Block)) (fault : Fault) (w : Watch) → Within more all.blocks → Fails (left_of old.blocks) more left → IsHow block_store old.watches.blocks fault w → Loses start all (record { fault = fault; remains = record { ended = ended_of left (left_of old.certs) (left_of old.cache.kept) old.lowests old.pairs; watches = record old.watches { blocks = w } } })
  Loses-blocks more left fault w within fails how = record {
    leaves = record {
      blocks = LeavesStore-failed start.blocks all.blocks_from all.blocks more (left_of old.blocks) left grew.leaves.blocks within fails;
      certs = grew.leaves.certs;
      pairs = grew.leaves.pairs;
      cache = grew.leaves.cache;
    };
    cause = FailsBy-then start.watches old.watches _ _ grew.passed (FailsBy-store old.watches block_store w _ _ refl how);
  }

  pub Loses-certs : (more : List (At Finalization)) (left : Left (At Finalization)) (fault : Fault) (w : Watch) → Within more all.certs → Fails (left_of old.certs) more left → IsHow cert_store old.watches.certs fault w → Loses start all (record { fault = fault; remains = record { ended = ended_of (left_of old.blocks) left (left_of old.cache.kept) old.lowests old.pairs; watches = record old.watches { certs = w } } })
  Loses-certs more left fault w within fails how = record {
    leaves = record {
      blocks = grew.leaves.blocks;
      certs = LeavesStore-failed start.certs all.certs_from all.certs more (left_of old.certs) left grew.leaves.certs within fails;
      pairs = grew.leaves.pairs;
      cache = grew.leaves.cache;
    };
    cause = FailsBy-then start.watches old.watches _ _ grew.passed (FailsBy-store old.watches cert_store w _ _ refl how);
  }

  pub Loses-meta : (more left : List Pair) (fault : Fault) (w : Watch) → Within more all.pairs → LeavesPairs old.pairs more left → IsHow meta_store old.watches.meta fault w → Loses start all (record { fault = fault; remains = record { ended = ended_of (left_of old.blocks) (left_of old.certs) (left_of old.cache.kept) old.lowests left; watches = record old.watches { meta = w } } })
  Loses-meta more left fault w within fails how = record {
    leaves = record {
      blocks = grew.leaves.blocks;
      certs = grew.leaves.certs;
      pairs = record {
        first = fails.synced ∙ grew.leaves.pairs.first;
        kept = λ p has. fails.kept p (grew.leaves.pairs.kept p has);
        within = λ p has. within_all old.pairs more all.pairs start.pairs grew.leaves.pairs.within within p (fails.within p has);
      };
      cache = grew.leaves.cache;
    };
    cause = FailsBy-then start.watches old.watches _ _ grew.passed (FailsBy-store old.watches meta_store w _ _ refl how);
  }

  -- a read had no answer
  pub Loses-missed : (s : StoreName) (fault : Fault) (w : Watch) (e : Ending) → e ≡ record { fault = fault; remains = record (remains_of old) { watches = with_watch old.watches s w } } → (fault ≡ store_fault s) × Breaks (watch_of old.watches s) w ⊎ ((fault ≡ want_of_memory) × Passes (watch_of old.watches s) w) → Loses start all e
  Loses-missed s fault w e is how = subst (Loses start all) (sym is) (record {
    leaves = grew.leaves;
    cause = FailsBy-then start.watches old.watches _ _ grew.passed (FailsBy-store old.watches s w _ _ refl how);
  })

  -- the rules ended the life
  pub Loses-nothing : (fault : Fault) → IsNoStores fault → Loses start all (record { fault = fault; remains = remains_of old })
  Loses-nothing fault none = record {
    leaves = grew.leaves;
    cause = FailsBy-then start.watches old.watches _ _ grew.passed (FailsBy-nothing old.watches fault none);
  }
