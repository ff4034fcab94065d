-- What a cache tells of its failures where the stores below it failed.
use Rattle.std.proofs.Common.{sym, subst, ◌≡◌, ◌+◌, ◌-◌, ◌^◌, ℕ, Bool, true, false, Option, Ok, Err, Result, IfErr, cond, min, refl, ap, ap₂, arith, ◌∙◌}
use Rattle.std.specs.Result.{IsErrAnd}
use Rattle.mar_store.specs.Lost.{wreck_of}
use Rattle.mar_store.specs.Watch.{Follows, Heeds, IsCalm, LostHeeds, Strikes, counted, Watch, after_call, is_due}
use Rattle.mar_store.specs.declared.Alarm.{Alarm}
use Rattle.mar_store.specs.declared.Lost.{Lost}
use Rattle.mar_store.specs.declared.Lost.TheVariants.{Fault, Memory}
use Rattle.mar_types.specs.Causes.{Rose}
use Rattle.mar_cache.specs.Shelved.{shelf_watch}
use Rattle.mar_epochs.specs.EpochArchives.{is_fault}

-- A STORE FAILED OF WHICH NO CALL WAS COUNTED

pub calm_armed : {S W : Type 0} (now : S → Watch) (left : W → Watch) (old : Watch) (l : Lost W) → IsCalm now left old (Err l) → (left (wreck_of l)).only_armed ≡ old.only_armed
calm_armed now left old (Fault w) calm = ap (λ x. x.only_armed) calm.2
calm_armed now left old (Memory w) calm = ap (λ x. x.only_armed) calm

pub calm_memory : {S W : Type 0} (now : S → Watch) (left : W → Watch) (old : Watch) (l : Lost W) → IsCalm now left old (Err l) → old.only_armed ≡ true → is_fault l ≡ false
calm_memory now left old (Fault w) calm only = absurd (calm.1 only)
calm_memory now left old (Memory w) calm only = refl

abbrev pub IsCalmLost : {W : Type 0} → (W → Watch) → Watch → Lost W → Type 0
IsCalmLost left old l = IsCalm {S = Watch} (λ s. s) left old (Err l)

-- A CACHE WHOSE EPOCHS FAILED

-- a fault is counted where the epochs failed, and where only armed calls fail they fail for memory alone
pub lost_calm : {W : Type 0} (keeps : Option Follows) (alarm_of : W → Alarm) (calm_of : W → Bool) (alarm : Alarm) (calm failed : Bool) (r : Lost W) → is_fault r ≡ failed → (alarm_of (wreck_of r)).due.items ≡ alarm.due.items
    → (alarm_of (wreck_of r)).faults ≡ cond failed (min (alarm.faults + 1) (2 ^ 64 - 1)) alarm.faults → calm_of (wreck_of r) ≡ calm → (calm ≡ true → failed ≡ false) → IsCalmLost (λ w. shelf_watch keeps (alarm_of w) (calm_of w)) (shelf_watch keeps alarm calm) r
lost_calm keeps alarm_of calm_of alarm calm true (Fault w) is due faults same memory = (omega (arith, faults), λ only. absurd (let clash : true ≡ false = memory only in cc), ap₂ (λ d c. record { faults = (alarm_of w).faults; due = d; armable = true; only_armed = c; keeps = keeps }) due same)
lost_calm keeps alarm_of calm_of alarm calm false (Memory w) is due faults same memory = ap₂ (λ f d. record { faults = f; due = d; armable = true; only_armed = calm_of w; keeps = keeps }) faults due ∙ ap (shelf_watch keeps alarm) same
lost_calm keeps alarm_of calm_of alarm calm false (Fault w) is due faults same memory = absurd cc
lost_calm keeps alarm_of calm_of alarm calm true (Memory w) is due faults same memory = absurd cc

-- A CALL THAT IS COUNTED

-- it was armed
pub rung : (keeps : Option Follows) (old new : Alarm) (rings calm : Bool) → rings ≡ true → rings ≡ is_due old.due.items → new.due.items ≡ after_call old.due.items → new.faults ≡ cond rings (min (old.faults + 1) (2 ^ 64 - 1)) old.faults → Strikes (shelf_watch keeps old calm) (shelf_watch keeps new calm)
rung keeps old new true calm is rings due faults = record {
  rose = omega (arith, faults);
  armed = λ only. sym rings;
  same = ap (λ d. record { faults = new.faults; due = d; armable = true; only_armed = calm; keeps = keeps }) due;
}
rung keeps old new false calm is rings due faults = absurd cc

-- it wasn't, and goes on
pub begun : (keeps : Option Follows) (old new : Alarm) (rings calm calm' : Bool) → rings ≡ false → rings ≡ is_due old.due.items → new.due.items ≡ after_call old.due.items → new.faults ≡ cond rings (min (old.faults + 1) (2 ^ 64 - 1)) old.faults → calm' ≡ calm
    → (is_due (shelf_watch keeps old calm).due ≡ false) × (shelf_watch keeps new calm' ≡ counted (shelf_watch keeps old calm))
begun keeps old new true calm calm' is rings due faults same = absurd cc
begun keeps old new false calm calm' is rings due faults same = (sym rings, ap₂ (λ f d. record { faults = f; due = d; armable = true; only_armed = calm'; keeps = keeps }) faults due ∙ ap (λ c. counted (shelf_watch keeps old c)) same)

-- A CALL THAT WAS COUNTED, AND WENT ON

abbrev with_faults : ℕ → Watch → Watch
with_faults n x = record x { faults = n }

pub heeds_then : {S W : Type 0} (now : S → Watch) (left : W → Watch) (old mid : Watch) (r : Result S (Lost W)) → is_due old.due ≡ false → mid ≡ counted old → IsCalm now left mid r → Heeds now left old r
heeds_then now left old mid (Ok s) none begun calm = (none, calm ∙ begun)
heeds_then now left old mid (Err (Fault w)) none begun calm = record {
  rose = subst (λ n. Rose n (left w).faults) (ap (λ x. x.faults) begun) calm.0;
  armed = λ only. absurd (calm.1 (ap (λ x. x.only_armed) begun ∙ only));
  same = calm.2 ∙ ap (with_faults (left w).faults) begun;
}
heeds_then now left old mid (Err (Memory w)) none begun calm = (none, calm ∙ begun)

pub heeds_lost : {W : Type 0} (left : W → Watch) (old mid : Watch) (l : Lost W) → is_due old.due ≡ false → mid ≡ counted old → IsCalmLost left mid l → LostHeeds left old l
heeds_lost left old mid (Fault w) none begun calm = heeds_then {S = Watch} (λ s. s) left old mid (Err (Fault w)) none begun calm
heeds_lost left old mid (Memory w) none begun calm = heeds_then {S = Watch} (λ s. s) left old mid (Err (Memory w)) none begun calm

-- a call behind it never answers a fault where only armed calls fail
pub never_faults : {W : Type 0} (left : W → Watch) (old mid : Watch) (l : Lost W) → mid ≡ counted old → IsCalmLost left mid l → is_fault l ≡ true → old.only_armed ≡ true → ⊥
never_faults left old mid (Fault w) begun calm fault only = calm.1 (ap (λ x. x.only_armed) begun ∙ only)
never_faults left old mid (Memory w) begun calm fault only = absurd cc

pub ends_calmly : {S W : Type 0} (now : S → Watch) (left : W → Watch) (old mid : Watch) (r : Result S (Lost W)) (P : Lost W → Type 0) → mid ≡ counted old → IsCalm now left mid r → IfErr r (λ l. is_fault l ≡ true → old.only_armed ≡ true → P l)
ends_calmly now left old mid (Ok s) P begun calm = tt
ends_calmly now left old mid (Err (Fault w)) P begun calm = λ fault only. absurd (calm.1 (ap (λ x. x.only_armed) begun ∙ only))
ends_calmly now left old mid (Err (Memory w)) P begun calm = λ fault only. absurd cc

-- where a `?` hands on how a call failed: one that was counted itself, or one behind it
pub heeds_exit : {S W : Type 0} (now : S → Watch) (left : W → Watch) (old : Watch) (r : Result S (Lost W)) (lost : Lost W) → IsErrAnd r (λ l. l ≡ lost) → LostHeeds left old lost → Heeds now left old r
heeds_exit now left old (Ok s) lost is heeds = absurd is
heeds_exit now left old (Err l) lost is heeds = subst (LostHeeds left old) (sym is) heeds

pub heeds_exit_then : {S W : Type 0} (now : S → Watch) (left : W → Watch) (old mid : Watch) (r : Result S (Lost W)) (lost : Lost W) → IsErrAnd r (λ l. l ≡ lost) → is_due old.due ≡ false → mid ≡ counted old → IsCalmLost left mid lost → Heeds now left old r
heeds_exit_then now left old mid r lost is none begun calm = heeds_exit now left old r lost is (heeds_lost left old mid lost none begun calm)

-- the same of steps that aren't counted
pub calm_then : {S W : Type 0} (now : S → Watch) (left : W → Watch) (old mid : Watch) (r : Result S (Lost W)) → mid ≡ old → IsCalm now left mid r → IsCalm now left old r
calm_then now left old mid r same calm = subst (λ w. IsCalm now left w r) same calm

pub calm_lost_then : {W : Type 0} (left : W → Watch) (old mid : Watch) (l : Lost W) → mid ≡ old → IsCalmLost left mid l → IsCalmLost left old l
calm_lost_then left old mid l same calm = subst (λ w. IsCalmLost left w l) same calm

-- where a `?` hands on how such a call failed
pub calm_exit : {S W : Type 0} (now : S → Watch) (left : W → Watch) (old : Watch) (r : Result S (Lost W)) (lost : Lost W) → IsErrAnd r (λ l. l ≡ lost) → IsCalmLost left old lost → IsCalm now left old r
calm_exit now left old (Ok s) lost is calm = absurd is
calm_exit {S} {W} now left old (Err l) lost is calm = by l (subst (IsCalmLost left old) (sym is) calm)
  where
    by : (l : Lost W) → IsCalmLost left old l → IsCalm now left old (Err l)
    by (Fault w) calm' = calm'
    by (Memory w) calm' = calm'

pub calm_exit_then : {S W : Type 0} (now : S → Watch) (left : W → Watch) (old mid : Watch) (r : Result S (Lost W)) (lost : Lost W) → IsErrAnd r (λ l. l ≡ lost) → mid ≡ old → IsCalmLost left mid lost → IsCalm now left old r
calm_exit_then now left old mid r lost is same calm = calm_exit now left old r lost is (calm_lost_then left old mid lost same calm)
