-- Bodies of lines that crash or make a store fail, and stores, that the definitions refuse.
use Rattle.std.proofs.Common.{List, None, Option, Some, [], ap, arith, inl, inr, length, length-append, refl, sym, true, ℕ, ◌++◌, ◌+◌, ◌-◌, ◌<◌, ◌^◌, ◌∙◌, ◌∷◌, ◌≡◌, ◌⊎◌}
use Rattle.mar_types.specs.Causes.{Rose}
use Rattle.mar_store.specs.Watch.{Strikes, Watch, armed}
use Rattle.mar_key.specs.Cutoff.{cutoff_zero}
use Rattle.mar_model.specs.Faults.{Fault, StoreName, block_store, from_genesis, meta_store, store_fault}
use Rattle.mar_model.specs.Lives.{Opens}
use Rattle.mar_model.specs.Metadata.{Pair}
use Rattle.mar_model.specs.Step.{Made}
use Rattle.mar_model.specs.Held.{Breaks, StrikesUncounted, Watches, watch_of}
use Rattle.mar_model.specs.Node.{Ended, Node}
use Rattle.mar_model.proofs.Passing.{faults-passed}
use Rattle.mar_script.specs.Accounts.{Account, AccountsFor, Calls}
use Rattle.mar_script.specs.Run.{LineDone, next_picks}
use Rattle.mar_script.specs.Script.{ack_line, crash_line, fail_line}
use Rattle.mar_script.specs.Text.{Output, running, silent_output, stopped}
use Rattle.mar_model_tests.proofs.SmallChain.{b0, chain, config}
use Rattle.mar_model_tests.proofs.CutRun.{cut_at_meta, failed_once}

-- A FAULT WITHOUT A CAUSE

-- a line whose fault names a store of which no call failed: its count stands where it stood
made_up : (before now : Watches) (s : StoreName) → (watch_of before s).faults < 2 ^ 64 - 1 → (watch_of now s).faults ≡ (watch_of before s).faults → Calls before (ack_line 0) (Some (store_fault s)) now → ⊥
made_up before now s low same fails = unmoved (watch_of before s) (watch_of now s) low same (fails.broke s refl)
  where
    unmoved : (old new : Watch) → old.faults < 2 ^ 64 - 1 → new.faults ≡ old.faults → Breaks old new → ⊥
    unmoved old new low same breaks = by breaks.strikes
      where
        none_rose : Rose breaks.mid.faults new.faults → ⊥
        none_rose rose = let passed : breaks.mid.faults ≡ old.faults = faults-passed old breaks.mid breaks.passes in omega (arith, passed, same, rose, low)

        by : Strikes breaks.mid new ⊎ StrikesUncounted breaks.mid new → ⊥
        by (inl strikes) = none_rose strikes.rose
        by (inr uncounted) = none_rose uncounted.rose

-- a fault of one store that raises the count of another
another_store : (before now : Watches) → (watch_of now block_store).faults ≡ (watch_of before block_store).faults + 1 → Calls before (ack_line 0) (Some (store_fault meta_store)) now → ⊥
another_store before now rose fails = let same : (watch_of now block_store).faults ≡ (watch_of before block_store).faults = faults-passed (watch_of before block_store) (watch_of now block_store) (fails.passed block_store (λ e. cc)) in omega (arith, rose, same)

-- a `fail` line that arms another store
arms_another : (before after : Account) → before.watches.meta.armable ≡ true → after.watches.meta ≡ before.watches.meta → AccountsFor before (fail_line meta_store 1) None after → ⊥
arms_another before after armable same counts = longer before.watches.meta.due 1 (sym (with_one before.watches.meta armable) ∙ ap (λ w. w.due) (sym (ap (λ w. w.meta) counts.calls) ∙ same))
  where
    with_one : (w : Watch) → w.armable ≡ true → (armed 1 w).due ≡ w.due ++ 1 ∷ []
    with_one w is = rw is refl

    longer : (due : List ℕ) (k : ℕ) → due ++ k ∷ [] ≡ due → ⊥
    longer due k is = omega (arith, ap length is, length-append due (k ∷ []))

-- one that arms nothing where a call can be armed is among these: `after` is `before` there
arms_nothing : (account : Account) → account.watches.meta.armable ≡ true → AccountsFor account (fail_line meta_store 1) None account → ⊥
arms_nothing account armable counts = arms_another account account armable refl counts

-- a crash that hands no luck on
luck_lost : (before after : Account) → after.luck ≡ 0 → AccountsFor before (crash_line 1) None after → ⊥
luck_lost before after none counts = let one : after.luck ≡ 1 = counts.luck in omega (arith, none, one)

-- an opening that reads the pair of a sync that failed, where its luck picks that of the last one that did not
picks_another : (made : Made) (n : Node) (o : Opens config chain cut_at_meta (next_picks failed_once cut_at_meta) (from_genesis b0) made n) → o.finds.pair.processed ≡ Some 0 → ⊥
picks_another made n o is = apart (sym (ap (λ p. p.processed) (inside o.finds.picked.pair_is)) ∙ is)
  where
    inside : ◌≡◌ {A = Option Pair} (Some o.finds.pair) (Some (record { processed = None; cutoff = cutoff_zero })) → o.finds.pair ≡ record { processed = None; cutoff = cutoff_zero }
    inside e = cc

    apart : ◌≡◌ {A = Option ℕ} None (Some 0) → ⊥
    apart e = cc

-- CRASHES

-- a body that goes on after a crash
crash_ignored : (account : Account) (n : Node) (out : Output) → LineDone config chain account (running n) (crash_line 1) out (running n) → ⊥
crash_ignored account n out (silent, after) = cc

-- a body that ends the life as a store is made to fail
failed_at_once : (account : Account) (n : Node) (e : Ended) (out : Output) → LineDone config chain account (running n) (fail_line meta_store 1) out (stopped e) → ⊥
failed_at_once account n e out (silent, after) = cc

-- a body that answers a crash with a fault
crash_told : (account : Account) (n : Node) (e : Ended) (fault : Fault) → LineDone config chain account (running n) (crash_line 1) (record silent_output { fault = Some fault }) (stopped e) → ⊥
crash_told account n e fault (silent, after) = let told : ◌≡◌ {A = Option Fault} (Some fault) None = ap (λ (o : Output). o.fault) silent in cc
