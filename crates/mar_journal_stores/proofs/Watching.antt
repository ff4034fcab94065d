-- What a store that is a journal tells of its failures.
use Rattle.std.proofs.Common.{Bool, Err, List, Ok, Result, ap, arith, cond, min, refl, sym, ◌+◌, ◌-◌, ◌^◌, ◌∙◌, ◌≡◌, false, true, ℕ}
use Rattle.std.proofs.lemmas.Bool.{false≢true}
use Rattle.mar_store.specs.Lost.{wreck_of}
use Rattle.mar_store.specs.Watch.{Heeds, IsCalm, LostHeeds, Strikes, Watch, after_call, counted, is_due}
use Rattle.mar_store.specs.declared.Lost.{Lost}
use Rattle.mar_store.specs.declared.Lost.TheVariants.{Fault, Memory}
use Rattle.mar_journal_stores.specs.Watches.{CountsLost, journal_watch}

-- an armed call failed
pub struck : (faults later : ℕ) (due now : List ℕ) (rings : Bool) → rings ≡ true → rings ≡ is_due due → now ≡ after_call due → later ≡ cond rings (min (faults + 1) (2 ^ 64 - 1)) faults → Strikes (journal_watch faults due) (journal_watch later now)
struck faults later due now rings true_is is are counts =
    let count : later ≡ min (faults + 1) (2 ^ 64 - 1) = counts ∙ ap (λ b. cond b (min (faults + 1) (2 ^ 64 - 1)) faults) true_is in
    record {
      rose = omega (arith, count);
      armed = λ only. sym is ∙ true_is;
      same = rw are refl;
    }

-- no call was armed, and none failed
pub unstruck : (faults later : ℕ) (due now : List ℕ) (rings : Bool) → rings ≡ false → rings ≡ is_due due → now ≡ after_call due → later ≡ cond rings (min (faults + 1) (2 ^ 64 - 1)) faults
    → (is_due due ≡ false) × (journal_watch later now ≡ counted (journal_watch faults due))
unstruck faults later due now rings false_is is are counts =
    let count : later ≡ faults = counts ∙ ap (λ b. cond b (min (faults + 1) (2 ^ 64 - 1)) faults) false_is in
    (sym is ∙ false_is, rw (are, count) refl)

-- no call was armed, and the store was lost behind it
pub lost_calm : {W : Type 0} (count : W → ℕ) (left : W → List ℕ) (faults later : ℕ) (due now : List ℕ) (rings : Bool) → rings ≡ false → rings ≡ is_due due → now ≡ after_call due
    → later ≡ cond rings (min (faults + 1) (2 ^ 64 - 1)) faults → (l : Lost W) → IsCalm {S = Watch} (λ s. s) (λ w. journal_watch (count w) (left w)) (journal_watch later now) (Err l)
    → LostHeeds (λ w. journal_watch (count w) (left w)) (journal_watch faults due) l
lost_calm count left faults later due now rings false_is is are counts (Fault w) calm =
    let same : later ≡ faults = counts ∙ ap (λ b. cond b (min (faults + 1) (2 ^ 64 - 1)) faults) false_is in
    record {
      rose = omega (arith, calm.0, same);
      armed = λ only. absurd (false≢true only);
      same = calm.2 ∙ ap (λ d. journal_watch (count w) d) are;
    }
lost_calm count left faults later due now rings false_is is are counts (Memory w) calm =
    let begun = unstruck faults later due now rings false_is is are counts in (begun.0, calm ∙ begun.1)

-- the same of a call that may go well
pub heeds_calm : {S W : Type 0} (kept : S → ℕ) (goes : S → List ℕ) (count : W → ℕ) (left : W → List ℕ) (faults later : ℕ) (due now : List ℕ) (rings : Bool) → rings ≡ false → rings ≡ is_due due → now ≡ after_call due
    → later ≡ cond rings (min (faults + 1) (2 ^ 64 - 1)) faults → (r : Result S (Lost W)) → IsCalm (λ s. journal_watch (kept s) (goes s)) (λ w. journal_watch (count w) (left w)) (journal_watch later now) r
    → Heeds (λ s. journal_watch (kept s) (goes s)) (λ w. journal_watch (count w) (left w)) (journal_watch faults due) r
heeds_calm kept goes count left faults later due now rings false_is is are counts (Ok s) calm =
    let begun = unstruck faults later due now rings false_is is are counts in (begun.0, calm ∙ begun.1)
heeds_calm kept goes count left faults later due now rings false_is is are counts (Err (Fault w)) calm = lost_calm count left faults later due now rings false_is is are counts (Fault w) calm
heeds_calm kept goes count left faults later due now rings false_is is are counts (Err (Memory w)) calm = lost_calm count left faults later due now rings false_is is are counts (Memory w) calm

-- a call of the disk failed, and that was counted
pub lost_calmly : {S W : Type 0} (now : S → Watch) (count : W → ℕ) (left : W → List ℕ) (faults : ℕ) (due : List ℕ) (l : Lost W) → CountsLost count faults l → left (wreck_of l) ≡ due
    → IsCalm now (λ w. journal_watch (count w) (left w)) (journal_watch faults due) (Err l)
lost_calmly now count left faults due (Fault w) counts same = (omega (arith, counts), λ only. false≢true only, ap (λ d. journal_watch (count w) d) same)
lost_calmly now count left faults due (Memory w) counts same = rw (counts, same) refl
