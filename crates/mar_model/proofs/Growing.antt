-- What calls one after another leave, since some start: what was sure and held, and no more than was written.
use Rattle.std.proofs.Common.{◌≡◌, inl, map, ⊎_elim, ℕ, ◌<◌, ◌≤◌, Option, Some, List, [], ◌∷◌, ◌++◌, Bool, true, false, Contains, refl, sym, subst, arith, append-nil, ◌⊎◌, inr}
use Rattle.std.proofs.lemmas.List.Elements.{Contains-append_cases, Contains-append_left, Contains-append_right}
use Rattle.mar_types.specs.Round.{Round}
use Rattle.mar_key.specs.Cutoff.{Cutoff}
use Rattle.mar_key.specs.Processed.{Processed}
use Rattle.mar_cert.specs.Block.{Block}
use Rattle.mar_cert.specs.Finalization.{Finalization}
use Rattle.mar_store.specs.Kept.{At, Kept, value_at}
use Rattle.mar_store.specs.Changes.{Fails, Finishes, IsNested, Left, Puts, Syncs, Within, left_of}
use Rattle.mar_store.specs.Watch.{Watch}
use Rattle.mar_store.proofs.Lookups.{Contains-from_value}
use Rattle.mar_model.specs.Cached.{Cached}
use Rattle.mar_model.specs.Metadata.{Pair}
use Rattle.mar_model.specs.Faults.{StoreName, block_store, cert_store, meta_store}
use Rattle.mar_model.specs.Held.{ArePassed, Grew, Held, LeavesCache, LeavesPairsSince, LeavesStore, MakesSure, Passes, WithinWritten, Written, nothing_written, watch_of, written_block, written_both, written_cert, written_entry, written_pair}
use Rattle.mar_model.proofs.EntryLists.{one_of}
use Rattle.mar_model.proofs.Passing.{ArePassed-refl, ArePassed-store, ArePassed-then, with_watch}

-- ONE STORE

pub within_all : {T : Type 0} (old more put start : List T) → Within old (start ++ put) → Within more put → Within (old ++ more) (start ++ put)
within_all old more put start before within x has = ⊎_elim (λ at_old. before x at_old) (λ is_more. Contains-append_right start put x (within x is_more)) (Contains-append_cases old more x has)

pub LeavesStore-refl : {T : Type 0} (kept : Kept (At T)) (bound : ℕ) (put : List (At T)) → IsNested kept → LeavesStore kept bound put (left_of kept)
LeavesStore-refl kept bound put nested = record {
  sure = λ h v low is. is;
  held = λ x low has. nested.held_may x has;
  may = λ x has. Contains-append_left kept.may put x has;
  sure_may = λ h v is. nested.held_may _ (Contains-from_value kept.held h v (nested.sure_held h v is));
}

-- a call failed
pub LeavesStore-failed : {T : Type 0} (start : Kept (At T)) (bound : ℕ) (put more : List (At T)) (old left : Left (At T)) → LeavesStore start bound put old → Within more put → Fails old more left → LeavesStore start bound put left
LeavesStore-failed start bound put more old left before within fails = record {
  sure = λ h v low is. subst (λ xs. value_at xs h ≡ Some v) (sym fails.sure) (before.sure h v low is);
  held = λ x low has. fails.may_kept x (before.held x low has);
  may = λ x has. within_all old.may more put start.may before.may within x (fails.may x has);
  sure_may = λ h v is. fails.may_kept _ (before.sure_may h v (subst (λ xs. value_at xs h ≡ Some v) fails.sure is));
}

-- a value was put
pub LeavesStore-put : {T : Type 0} (start : Kept (At T)) (bound : ℕ) (put : List (At T)) (ignored : Bool) (old : Kept (At T)) (x : At T) (new : Kept (At T)) → LeavesStore start bound put (left_of old) → Within (x ∷ []) put → Puts ignored old x new → LeavesStore start bound put (left_of new)
LeavesStore-put start bound put ignored old x new before within puts = LeavesStore-failed start bound put (x ∷ []) (left_of old) (left_of new) before within (record { sure = puts.sure; may_kept = puts.may_kept; may = puts.may })

-- a sync made more sure
pub LeavesStore-surer : {T : Type 0} (start : Kept (At T)) (bound : ℕ) (put : List (At T)) (old new : Kept (At T)) → LeavesStore start bound put (left_of old) → ((x : At T) → bound ≤ x.height → Contains start.held x → Contains old.held x) → IsNested new → MakesSure old new → LeavesStore start bound put (left_of new)
LeavesStore-surer start bound put old new before stays nested surer = record {
  sure = λ h v low is. surer.sure h v (before.sure h v low is);
  held = λ x low has. nested.held_may x (subst (λ xs. Contains xs x) (sym surer.held) (stays x low has));
  may = λ x has. before.may x (surer.may x has);
  sure_may = λ h v is. nested.held_may _ (Contains-from_value new.held h v (nested.sure_held h v is));
}

-- what makes more sure: nothing, a sync, the finish of one
pub MakesSure-same : {T : Type 0} (old new : Kept (At T)) → new ≡ old → MakesSure old new
MakesSure-same old new same = subst (MakesSure old) (sym same) (record { held = refl; sure = λ h v is. is; may = λ x has. has })

pub MakesSure-synced : {T : Type 0} (old new : Kept (At T)) → IsNested old → Syncs old new → MakesSure old new
MakesSure-synced old new nested syncs = record { held = syncs.held; sure = λ h v is. subst (λ xs. value_at xs h ≡ Some v) (sym syncs.sure) (nested.sure_held h v is); may = λ x has. nested.held_may x (syncs.may x has) }

pub MakesSure-finished : {T : Type 0} (covered : List (At T)) (old new : Kept (At T)) → Finishes covered old new → MakesSure old new
MakesSure-finished covered old new finishes = record { held = finishes.held; sure = finishes.sure; may = finishes.may }

-- what was held is held as a value is put
held_put : {T : Type 0} (ignored : Bool) (old : Kept (At T)) (x : At T) (new : Kept (At T)) → Puts ignored old x new → (y : At T) → Contains old.held y → Contains new.held y
held_put true old x new puts y has = subst (λ xs. Contains xs y) (sym puts.held) has
held_put false old x new puts y has = subst (λ xs. Contains xs y) (sym puts.held) (Contains-append_left old.held (x ∷ []) y has)

-- What a store has become since a start: what was held is held.
pub record Grown {T : Type 0} (start : Kept (At T)) (put : List (At T)) (now : Kept (At T)) : Type 0 where
  pub leaves : LeavesStore start 0 put (left_of now)
  pub held : (x : At T) → Contains start.held x → Contains now.held x

pub Grown-same : {T : Type 0} (kept now : Kept (At T)) → IsNested kept → now ≡ kept → Grown kept [] now
Grown-same kept now nested same = subst (Grown kept []) (sym same) (record { leaves = LeavesStore-refl kept 0 [] nested; held = λ x has. has })

pub Grown-then : {T : Type 0} (start : Kept (At T)) (put : List (At T)) (mid : Kept (At T)) (more : List (At T)) (now : Kept (At T)) → Grown start put mid → Grown mid more now → Grown start (put ++ more) now
Grown-then start put mid more now first second = record {
  leaves = record {
    sure = λ h v low is. second.leaves.sure h v low (first.leaves.sure h v low is);
    held = λ x low has. second.leaves.held x low (first.held x has);
    may = λ x has. ⊎_elim (λ old. by x (Contains-append_cases start.may put x (first.leaves.may x old))) (λ new. Contains-append_right start.may (put ++ more) x (Contains-append_right put more x new)) (Contains-append_cases mid.may more x (second.leaves.may x has));
    sure_may = second.leaves.sure_may;
  };
  held = λ x has. second.held x (first.held x has);
}
  where
    by : (x : At _) → Contains start.may x ⊎ Contains put x → Contains (start.may ++ (put ++ more)) x
    by x (inl old) = Contains-append_left start.may (put ++ more) x old
    by x (inr new) = Contains-append_right start.may (put ++ more) x (Contains-append_left put more x new)

-- what is left of what it has become
pub LeavesStore-then : {T : Type 0} (start : Kept (At T)) (put : List (At T)) (now : Kept (At T)) (left : Left (At T)) → Grown start put now → LeavesStore now 0 [] left → LeavesStore start 0 put left
LeavesStore-then start put now left grown leaves = record {
  sure = λ h v low is. leaves.sure h v low (grown.leaves.sure h v low is);
  held = λ x low has. leaves.held x low (grown.held x has);
  may = λ x has. grown.leaves.may x (subst (λ xs. Contains xs x) (append-nil now.may) (leaves.may x has));
  sure_may = leaves.sure_may;
}

-- ALL STORES

pub LeavesPairsSince-refl : (start written : List Pair) → LeavesPairsSince start written start
LeavesPairsSince-refl start written = record { first = refl; kept = λ p has. has; within = λ p has. Contains-append_left start written p has }

pub LeavesCache-refl : (cache : Left Cached) (lowests : List ℕ) (put : List Cached) (prunes : List Round) → LeavesCache cache lowests put prunes cache lowests
LeavesCache-refl cache lowests put prunes = record {
  sure = λ x has. inl has;
  may = λ x has. Contains-append_left cache.may put x has;
  lowest = λ k has. Contains-append_left lowests (map (λ p. p.epoch) prunes) k has;
}

pub Grew-refl : (old : Held) (written : Written) → IsNested old.blocks → IsNested old.certs → Grew old written old
Grew-refl old written blocks certs = record {
  leaves = record {
    blocks = LeavesStore-refl old.blocks written.blocks_from written.blocks blocks;
    certs = LeavesStore-refl old.certs written.certs_from written.certs certs;
    pairs = LeavesPairsSince-refl old.pairs written.pairs;
    cache = LeavesCache-refl (left_of old.cache.kept) old.lowests written.cached written.prunes;
  };
  blocks = λ x low has. has;
  certs = λ x low has. has;
  passed = ArePassed-refl old.watches;
}

module _ (start : Held) (all : Written) (old : Held) (grew : Grew start all old) where
  -- calls were counted
  pub Grew-passed : (new : Held) → new ≡ record old { watches = new.watches } → ArePassed old.watches new.watches → Grew start all new
  Grew-passed new same passed = subst (Grew start all) (sym same) (record { leaves = grew.leaves; blocks = grew.blocks; certs = grew.certs; passed = ArePassed-then start.watches old.watches new.watches grew.passed passed })

  -- what is in memory alone changed
  pub Grew-beside : (new : Held) → new.blocks ≡ old.blocks → new.certs ≡ old.certs → new.pairs ≡ old.pairs → new.cache ≡ old.cache → new.lowests ≡ old.lowests → ArePassed old.watches new.watches → Grew start all new
  Grew-beside new blocks certs pairs cache lowests passed = record {
    leaves = record {
      blocks = subst (λ k. LeavesStore start.blocks all.blocks_from all.blocks (left_of k)) (sym blocks) grew.leaves.blocks;
      certs = subst (λ k. LeavesStore start.certs all.certs_from all.certs (left_of k)) (sym certs) grew.leaves.certs;
      pairs = subst (LeavesPairsSince start.pairs all.pairs) (sym pairs) grew.leaves.pairs;
      cache = subst (λ k. LeavesCache (left_of start.cache.kept) start.lowests all.cached all.prunes (left_of k.kept) new.lowests) (sym cache) (subst (LeavesCache (left_of start.cache.kept) start.lowests all.cached all.prunes (left_of old.cache.kept)) (sym lowests) grew.leaves.cache);
    };
    blocks = λ x low has. subst (λ k. Contains k.held x) (sym blocks) (grew.blocks x low has);
    certs = λ x low has. subst (λ k. Contains k.held x) (sym certs) (grew.certs x low has);
    passed = ArePassed-then start.watches old.watches new.watches grew.passed passed;
  }

  -- what is in memory alone was noted
  pub Grew-noted : (processed : Option Processed) (witnessed : Round) → Grew start all (record old { processed = processed; witnessed = witnessed })
  Grew-noted processed witnessed = record { leaves = grew.leaves; blocks = grew.blocks; certs = grew.certs; passed = grew.passed }

  -- a call of one store was counted, or had nothing to do
  pub Grew-counted : (s : StoreName) (w : Watch) → Passes (watch_of old.watches s) w → Grew start all (record old { watches = with_watch old.watches s w })
  Grew-counted s w passes = Grew-passed (record old { watches = with_watch old.watches s w }) refl (ArePassed-store old.watches s w passes)

  -- the metadata's values were set in memory
  pub Grew-set : (processed : Option Processed) (cutoff : Cutoff) (witnessed : Round) (pairs : List Pair) (w : Watch) → pairs ≡ old.pairs → Passes old.watches.meta w → Grew start all (record old { processed = processed; cutoff = cutoff; witnessed = witnessed; pairs = pairs; watches = record old.watches { meta = w } })
  Grew-set processed cutoff witnessed pairs w same passes = Grew-beside (record old { processed = processed; cutoff = cutoff; witnessed = witnessed; pairs = pairs; watches = record old.watches { meta = w } }) refl refl same refl refl (ArePassed-store old.watches meta_store w passes)

  pub Grew-put_block : (ignored : Bool) (x : At Block) (blocks : Kept (At Block)) (w : Watch) → Within (x ∷ []) all.blocks → Puts ignored old.blocks x blocks → Passes old.watches.blocks w → Grew start all (record old { blocks = blocks; watches = record old.watches { blocks = w } })
  Grew-put_block ignored x blocks w within puts passes = record {
    leaves = record {
      blocks = LeavesStore-put start.blocks all.blocks_from all.blocks ignored old.blocks x blocks grew.leaves.blocks within puts;
      certs = grew.leaves.certs;
      pairs = grew.leaves.pairs;
      cache = grew.leaves.cache;
    };
    blocks = λ y low has. held_put ignored old.blocks x blocks puts y (grew.blocks y low has);
    certs = grew.certs;
    passed = ArePassed-then start.watches old.watches (record old.watches { blocks = w }) grew.passed (ArePassed-store old.watches block_store w passes);
  }

  pub Grew-put_cert : (ignored : Bool) (x : At Finalization) (certs : Kept (At Finalization)) (w : Watch) → Within (x ∷ []) all.certs → Puts ignored old.certs x certs → Passes old.watches.certs w → Grew start all (record old { certs = certs; watches = record old.watches { certs = w } })
  Grew-put_cert ignored x certs w within puts passes = record {
    leaves = record {
      blocks = grew.leaves.blocks;
      certs = LeavesStore-put start.certs all.certs_from all.certs ignored old.certs x certs grew.leaves.certs within puts;
      pairs = grew.leaves.pairs;
      cache = grew.leaves.cache;
    };
    blocks = grew.blocks;
    certs = λ y low has. held_put ignored old.certs x certs puts y (grew.certs y low has);
    passed = ArePassed-then start.watches old.watches (record old.watches { certs = w }) grew.passed (ArePassed-store old.watches cert_store w passes);
  }

  pub Grew-surer_blocks : (blocks : Kept (At Block)) (w : Watch) → IsNested blocks → MakesSure old.blocks blocks → Passes old.watches.blocks w → Grew start all (record old { blocks = blocks; watches = record old.watches { blocks = w } })
  Grew-surer_blocks blocks w nested surer passes = record {
    leaves = record {
      blocks = LeavesStore-surer start.blocks all.blocks_from all.blocks old.blocks blocks grew.leaves.blocks grew.blocks nested surer;
      certs = grew.leaves.certs;
      pairs = grew.leaves.pairs;
      cache = grew.leaves.cache;
    };
    blocks = λ y low has. subst (λ xs. Contains xs y) (sym surer.held) (grew.blocks y low has);
    certs = grew.certs;
    passed = ArePassed-then start.watches old.watches (record old.watches { blocks = w }) grew.passed (ArePassed-store old.watches block_store w passes);
  }

  pub Grew-surer_certs : (certs : Kept (At Finalization)) (w : Watch) → IsNested certs → MakesSure old.certs certs → Passes old.watches.certs w → Grew start all (record old { certs = certs; watches = record old.watches { certs = w } })
  Grew-surer_certs certs w nested surer passes = record {
    leaves = record {
      blocks = grew.leaves.blocks;
      certs = LeavesStore-surer start.certs all.certs_from all.certs old.certs certs grew.leaves.certs grew.certs nested surer;
      pairs = grew.leaves.pairs;
      cache = grew.leaves.cache;
    };
    blocks = grew.blocks;
    certs = λ y low has. subst (λ xs. Contains xs y) (sym surer.held) (grew.certs y low has);
    passed = ArePassed-then start.watches old.watches (record old.watches { certs = w }) grew.passed (ArePassed-store old.watches cert_store w passes);
  }

-- since a start that prunes nothing
pub Grown-blocks : (start now : Held) (written : Written) → written.blocks_from ≡ 0 → Grew start written now → Grown start.blocks written.blocks now.blocks
Grown-blocks start now written none grew = record { leaves = subst (λ k. LeavesStore start.blocks k written.blocks (left_of now.blocks)) none grew.leaves.blocks; held = λ x has. grew.blocks x (omega (arith, none)) has }

pub Grown-certs : (start now : Held) (written : Written) → written.certs_from ≡ 0 → Grew start written now → Grown start.certs written.certs now.certs
Grown-certs start now written none grew = record { leaves = subst (λ k. LeavesStore start.certs k written.certs (left_of now.certs)) none grew.leaves.certs; held = λ x has. grew.certs x (omega (arith, none)) has }

-- all that this wrote is written
pub WithinWritten-refl : (w : Written) → WithinWritten w w
WithinWritten-refl w = record { blocks = λ x has. has; certs = λ x has. has; cached = λ x has. has; prunes = λ x has. has; pairs = λ x has. has; blocks_from = omega arith; certs_from = omega arith }

pub WithinWritten-nothing : (w : Written) → WithinWritten nothing_written w
WithinWritten-nothing w = record { blocks = Within-none w.blocks; certs = Within-none w.certs; cached = Within-none w.cached; prunes = Within-none w.prunes; pairs = Within-none w.pairs; blocks_from = omega arith; certs_from = omega arith }
  where
    Within-none : {T : Type 0} (xs : List T) → Within [] xs
    Within-none xs x has = absurd (let lt : has.0 < 0 = has.1 in omega arith)

pub WithinWritten-block : (x : At Block) (y : At Finalization) (all : Written) → WithinWritten (written_both x y) all → WithinWritten (written_block x) all
WithinWritten-block x y all within = let none = WithinWritten-nothing all in record { blocks = within.blocks; certs = none.certs; cached = none.cached; prunes = none.prunes; pairs = none.pairs; blocks_from = none.blocks_from; certs_from = none.certs_from }

pub WithinWritten-cert : (x : At Block) (y : At Finalization) (all : Written) → WithinWritten (written_both x y) all → WithinWritten (written_cert y) all
WithinWritten-cert x y all within = let none = WithinWritten-nothing all in record { blocks = none.blocks; certs = within.certs; cached = none.cached; prunes = none.prunes; pairs = none.pairs; blocks_from = none.blocks_from; certs_from = none.certs_from }

-- an entry of the cache, where it is written; all but the entries, the prunes or the pairs
pub WithinWritten-entry : (x : Cached) (all : Written) → Contains all.cached x → WithinWritten (written_entry x) all
WithinWritten-entry x all has = let none = WithinWritten-nothing all in record { blocks = none.blocks; certs = none.certs; cached = λ y own. subst (Contains all.cached) (sym (one_of x y own)) has; prunes = none.prunes; pairs = none.pairs; blocks_from = none.blocks_from; certs_from = none.certs_from }

pub WithinWritten-unpruned : (all : Written) → WithinWritten (record all { prunes = [] }) all
WithinWritten-unpruned all = let whole = WithinWritten-refl all in record { blocks = whole.blocks; certs = whole.certs; cached = whole.cached; prunes = (WithinWritten-nothing all).prunes; pairs = whole.pairs; blocks_from = whole.blocks_from; certs_from = whole.certs_from }

pub WithinWritten-unpaired : (all : Written) → WithinWritten (record all { pairs = [] }) all
WithinWritten-unpaired all = let whole = WithinWritten-refl all in record { blocks = whole.blocks; certs = whole.certs; cached = whole.cached; prunes = whole.prunes; pairs = (WithinWritten-nothing all).pairs; blocks_from = whole.blocks_from; certs_from = whole.certs_from }

-- the pair joins what is written
pub WithinWritten-pair : (p : Pair) (all : Written) → WithinWritten (written_pair p) (record all { pairs = p ∷ all.pairs })
WithinWritten-pair p all = let none = WithinWritten-nothing all in record { blocks = none.blocks; certs = none.certs; cached = none.cached; prunes = none.prunes; pairs = Contains-append_left (p ∷ []) all.pairs; blocks_from = none.blocks_from; certs_from = none.certs_from }

pub Grew-wider : (start : Held) (all : Written) (p : Pair) (now : Held) → Grew start all now → Grew start (record all { pairs = p ∷ all.pairs }) now
Grew-wider start all p now grew = record {
  leaves = record {
    blocks = grew.leaves.blocks;
    certs = grew.leaves.certs;
    pairs = record { first = grew.leaves.pairs.first; kept = grew.leaves.pairs.kept; within = λ q has. ⊎_elim (λ before. Contains-append_left start.pairs (p ∷ all.pairs) q before) (λ new. Contains-append_right start.pairs (p ∷ all.pairs) q (Contains-append_right (p ∷ []) all.pairs q new)) (Contains-append_cases start.pairs all.pairs q (grew.leaves.pairs.within q has)) };
    cache = grew.leaves.cache;
  };
  blocks = grew.blocks;
  certs = grew.certs;
  passed = grew.passed;
}
