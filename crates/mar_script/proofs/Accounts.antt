-- What the stores tell along a run: no count of failures falls, and where none rose no line ended in a store's fault.
use Rattle.std.proofs.Common.{Bool, List, None, Option, Some, [], ap, arith, false, if◌then◌else◌, inl, inr, min, refl, subst, sym, true, ℕ, ◌++◌, ◌-◌, ◌^◌, ◌∷◌, ◌≡◌, ◌≤◌, ◌⊎◌}
use Rattle.std.specs.List.{AllByRecursion}
use Rattle.std.specs.Prelude.{IfSome}
use Rattle.mar_types.specs.Causes.{Rose}
use Rattle.mar_store.specs.Watch.{Strikes, Watch, armed}
use Rattle.mar_model.specs.Chain.{Chain}
use Rattle.mar_model.specs.Config.{Config}
use Rattle.mar_model.specs.Faults.{Fault, StoreName, block_store, cache_store, cert_store, meta_store, store_fault, want_of_memory}
use Rattle.mar_model.specs.Held.{ArePassed, Breaks, FailsBy, IsUsual, Passes, StrikesUncounted, Watches, watch_of, with_armed}
use Rattle.mar_model.proofs.Passing.{ArePassed-then, Breaks-then, Passes-then, faults-passed}
use Rattle.mar_script.specs.Accounts.{Account, AccountsFor, Calls, CallsEnd}
use Rattle.mar_script.specs.Run.{AreSmooth, HasUsualFault, IsFaultFree, IsQuiet, IsSmooth, LineDone, Run, account_after}
use Rattle.mar_script.specs.Script.{Line, fail_line}
use Rattle.mar_script.specs.Text.{Done, State}

-- it is no less, but for one that stands past its last value
abbrev NotLess : ℕ → ℕ → Type 0
NotLess before now = min before (2 ^ 64 - 1) ≤ now

abbrev pub NotFewer : Watches → Watches → Type 0
NotFewer before now = (s : StoreName) → NotLess (watch_of before s).faults (watch_of now s).faults

not_less : (a b : ℕ) → b ≡ a → NotLess a b
not_less a b is = omega (arith, is)

not_less_then : (a b c : ℕ) → NotLess a b → NotLess b c → NotLess a c
not_less_then a b c p q = omega (arith, p, q)

rose_not_less : (a b : ℕ) → Rose a b → NotLess a b
rose_not_less a b rose = omega (arith, rose)

rose_within : (a b c d : ℕ) → NotLess a b → NotLess c d → Rose b c → Rose a d
rose_within a b c d low high rose = omega (arith, low, high, rose)

-- ONE LINE

-- where a call of a store failed its count rose
broke_rose : (old new : Watch) → Breaks old new → Rose old.faults new.faults
broke_rose old new breaks = subst (λ k. Rose k new.faults) (faults-passed old breaks.mid breaks.passes) (by breaks.strikes)
  where
    by : Strikes breaks.mid new ⊎ StrikesUncounted breaks.mid new → Rose breaks.mid.faults new.faults
    by (inl strikes) = strikes.rose
    by (inr uncounted) = uncounted.rose

passed_not_less : (old new : Watch) → Passes old new → NotLess old.faults new.faults
passed_not_less old new passes = not_less old.faults new.faults (faults-passed old new passes)

-- one store or another
same_store : (s t : StoreName) → (s ≡ t) ⊎ (store_fault s ≡ store_fault t → ⊥)
same_store block_store block_store = inl refl
same_store cert_store cert_store = inl refl
same_store meta_store meta_store = inl refl
same_store cache_store cache_store = inl refl
same_store block_store cert_store = inr (λ e. cc)
same_store block_store meta_store = inr (λ e. cc)
same_store block_store cache_store = inr (λ e. cc)
same_store cert_store block_store = inr (λ e. cc)
same_store cert_store meta_store = inr (λ e. cc)
same_store cert_store cache_store = inr (λ e. cc)
same_store meta_store block_store = inr (λ e. cc)
same_store meta_store cert_store = inr (λ e. cc)
same_store meta_store cache_store = inr (λ e. cc)
same_store cache_store block_store = inr (λ e. cc)
same_store cache_store cert_store = inr (λ e. cc)
same_store cache_store meta_store = inr (λ e. cc)

fails_not_fewer : (before now : Watches) (fault : Fault) → IsUsual fault → FailsBy before fault now → NotFewer before now
fails_not_fewer before now (store_fault t) usual fails s = by (same_store t s)
  where
    by : (t ≡ s) ⊎ (store_fault t ≡ store_fault s → ⊥) → NotLess (watch_of before s).faults (watch_of now s).faults
    by (inl same) = rose_not_less _ _ (broke_rose (watch_of before s) (watch_of now s) (fails.broke s (ap store_fault same)))
    by (inr other) = passed_not_less (watch_of before s) (watch_of now s) (fails.passed s other)
fails_not_fewer before now want_of_memory usual fails s = passed_not_less (watch_of before s) (watch_of now s) (fails.passed s (λ e. cc))
fails_not_fewer before now fault usual fails s = absurd usual

calls_not_fewer : (before now : Watches) (fault : Option Fault) → IfSome fault IsUsual → CallsEnd before fault now → NotFewer before now
calls_not_fewer before now None usual passed s = passed_not_less (watch_of before s) (watch_of now s) (passed s)
calls_not_fewer before now (Some fault) usual fails s = fails_not_fewer before now fault usual fails s

same_faults : (k : ℕ) (w : Watch) → (armed k w).faults ≡ w.faults
same_faults k w = by w.armable
  where
    by : (b : Bool) → (if b then record w { due = w.due ++ k ∷ [] } else w).faults ≡ w.faults
    by true = refl
    by false = refl

armed_not_fewer : (before : Watches) (store : StoreName) (k : ℕ) → NotFewer before (with_armed store k before)
armed_not_fewer before store k s = not_less _ _ (by store s)
  where
    by : (t u : StoreName) → (watch_of (with_armed t k before) u).faults ≡ (watch_of before u).faults
    by block_store block_store = same_faults k before.blocks
    by cert_store cert_store = same_faults k before.certs
    by meta_store meta_store = same_faults k before.meta
    by cache_store cache_store = same_faults k before.cache
    by block_store cert_store = refl
    by block_store meta_store = refl
    by block_store cache_store = refl
    by cert_store block_store = refl
    by cert_store meta_store = refl
    by cert_store cache_store = refl
    by meta_store block_store = refl
    by meta_store cert_store = refl
    by meta_store cache_store = refl
    by cache_store block_store = refl
    by cache_store cert_store = refl
    by cache_store meta_store = refl

line_not_fewer : (before now : Watches) (line : Line) (fault : Option Fault) → IfSome fault IsUsual → Calls before line fault now → NotFewer before now
line_not_fewer before now (fail_line store k) fault usual calls = subst (NotFewer before) (sym calls) (armed_not_fewer before store k)
line_not_fewer before now line fault usual calls = calls_not_fewer before now fault usual calls

-- where no count rose, a line that isn't a `fail` line had no store's fault
quiet_calls : (before now : Watches) (fault : Option Fault) → IfSome fault IsUsual → IsQuiet before now → CallsEnd before fault now → (fault ≡ None) ⊎ (fault ≡ Some want_of_memory)
quiet_calls before now None usual quiet passed = inl refl
quiet_calls before now (Some (store_fault s)) usual quiet fails = absurd (quiet s (broke_rose (watch_of before s) (watch_of now s) (fails.broke s refl)))
quiet_calls before now (Some want_of_memory) usual quiet fails = inr refl
quiet_calls before now (Some fault) usual quiet fails = absurd usual

-- calls that went well, and then those of an end
pub CallsEnd-then : (start before now : Watches) (fault : Option Fault) → ArePassed start before → CallsEnd before fault now → CallsEnd start fault now
CallsEnd-then start before now None passed calls = ArePassed-then start before now passed calls
CallsEnd-then start before now (Some fault) passed fails = record {
  broke = λ s is. Breaks-then (watch_of start s) (watch_of before s) (watch_of now s) (passed s) (fails.broke s is);
  passed = λ s other. Passes-then (watch_of start s) (watch_of before s) (watch_of now s) (passed s) (fails.passed s other);
}

-- A RUN

quiet_line : (config : Config) (account : Account) (state : State) (line : Line) (fault : Option Fault) (now : Watches) → IfSome fault IsUsual → IsSmooth config account state line → IsQuiet account.watches now → Calls account.watches line fault now → (fault ≡ None) ⊎ (fault ≡ Some want_of_memory)
quiet_line config account state (fail_line store k) fault now usual smooth quiet calls = absurd smooth
quiet_line config account state line fault now usual smooth quiet calls = quiet_calls account.watches now fault usual quiet calls

module _ (config : Config) (chain : Chain) where
  run_not_fewer : (account : Account) (state : State) (run : List Done) (last : State) → Run config chain account state run last → AllByRecursion HasUsualFault run → NotFewer account.watches (account_after account run).watches
  run_not_fewer account state [] last lives usual s = not_less _ _ refl
  run_not_fewer account state (d ∷ run) last lives usual s =
      not_less_then _ _ _ (line_not_fewer account.watches d.account.watches d.line d.output.fault usual.0 lives.1.calls s) (run_not_fewer d.account d.after run last lives.2 usual.1 s)

  -- where no count rose there is no fault but want of memory
  pub quiet_run : (account : Account) (state : State) (run : List Done) (last : State) → Run config chain account state run last → AllByRecursion HasUsualFault run → IsQuiet account.watches (account_after account run).watches → AreSmooth config account state run → AllByRecursion IsFaultFree run
  quiet_run account state [] last lives usual quiet smooth = tt
  quiet_run account state (d ∷ run) last lives usual quiet smooth =
      let first : NotFewer account.watches d.account.watches = line_not_fewer account.watches d.account.watches d.line d.output.fault usual.0 lives.1.calls in
      let others : NotFewer d.account.watches (account_after d.account run).watches = run_not_fewer d.account d.after run last lives.2 usual.1 in (
        quiet_line config account state d.line d.output.fault d.account.watches usual.0 smooth.0 (λ s rose. quiet s (rose_within _ _ _ _ (not_less _ _ refl) (others s) rose)) lives.1.calls,
        quiet_run d.account d.after run last lives.2 usual.1 (λ s rose. quiet s (rose_within _ _ _ _ (first s) (not_less _ _ refl) rose)) smooth.1,
      )

  -- one more line
  pub run_push : (account : Account) (state : State) (run : List Done) (d : Done) (last : State) → Run config chain account state run last → LineDone config chain (account_after account run) last d.line d.output d.after → AccountsFor (account_after account run) d.line d.output.fault d.account → Run config chain account state (run ++ d ∷ []) d.after
  run_push account state [] d last lives done counted = (subst (λ x. LineDone config chain account x d.line d.output d.after) lives done, counted, refl)
  run_push account state (e ∷ run) d last lives done counted = (lives.0, lives.1, run_push e.account e.after run d last lives.2 done counted)

-- smooth are the lines before it, and it itself
pub smooth_push : (config : Config) (chain : Chain) (account : Account) (state : State) (run : List Done) (d : Done) (last : State) → Run config chain account state run last → AreSmooth config account state (run ++ d ∷ [])
    → AreSmooth config account state run × IsSmooth config (account_after account run) last d.line
smooth_push config chain account state [] d last lives smooth = (tt, subst (λ s. IsSmooth config account s d.line) (sym lives) smooth.0)
smooth_push config chain account state (e ∷ run) d last lives smooth =
    let others = smooth_push config chain e.account e.after run d last lives.2 smooth.1 in
    ((smooth.0, others.0), others.1)

pub account-push : (account : Account) (run : List Done) (d : Done) → account_after account (run ++ d ∷ []) ≡ d.account
account-push account [] d = refl
account-push account (e ∷ run) d = account-push e.account run d
