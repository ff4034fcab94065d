-- What the answer of a read comes to.
use Rattle.std.proofs.Common.{Ok, Err, Result, sym, subst}
use Rattle.std.specs.Prelude.{IfErr, IfOk, OnErr, OnOk}
use Rattle.mar_store.specs.Watch.{HeedsRead, Watch}
use Rattle.mar_store.specs.declared.Miss.{Miss}
use Rattle.mar_model.specs.Faults.{Fault, StoreName}
use Rattle.mar_model.specs.Held.{Passes}
use Rattle.mar_model.specs.Places.{HeedsOrIdlesOn, IsCalmOn}
use Rattle.mar_model.proofs.Passing.{Passes-one, Passes-or_idle, by_miss}
use Rattle.mar_life.specs.Pooling.{IsAnswer, IsFaultOf}
use Rattle.mar_life.proofs.InPlace.{by_calm, by_sync}

module _ {X C : Type 0} (fault : C → Fault) (s : StoreName) where
  -- what is found is answered
  pub answer_so : {P Q : X → Type 0} (a : Result X Miss) (r : Result X C) → IsAnswer fault s a r → IfOk a P → ((x : X) → P x → Q x) → IfOk r Q
  answer_so {Q = Q} (Ok x) (Ok y) is found f = subst Q (sym is) (f x found)
  answer_so (Ok x) (Err e) is found f = absurd is
  answer_so (Err m) (Ok y) is found f = absurd is
  answer_so (Err m) (Err e) is found f = tt

  pub answer_done : (A : Type 0) (a : Result X Miss) (r : Result X C) → IsAnswer fault s a r → OnOk a A → OnOk r A
  answer_done A (Ok x) (Ok y) is done = done
  answer_done A (Ok x) (Err e) is done = absurd is
  answer_done A (Err m) (Ok y) is done = absurd is
  answer_done A (Err m) (Err e) is done = tt

  -- a read is counted, and fails where that call is to
  pub answer_passed : (before now : Watch) (a : Result X Miss) (r : Result X C) → IsAnswer fault s a r → HeedsRead before now a → OnOk r (Passes before now)
  answer_passed before now (Ok x) (Ok y) is heeds = Passes-one before now heeds.0 heeds.1
  answer_passed before now (Ok x) (Err e) is heeds = absurd is
  answer_passed before now (Err m) (Ok y) is heeds = absurd is
  answer_passed before now (Err m) (Err e) is heeds = tt

  pub answer_failed : (before now : Watch) (a : Result X Miss) (r : Result X C) → IsAnswer fault s a r → HeedsRead before now a → IfErr r (λ e. IsFaultOf s before (fault e) now)
  answer_failed before now (Ok x) (Ok y) is heeds = tt
  answer_failed before now (Ok x) (Err e) is heeds = absurd is
  answer_failed before now (Err m) (Ok y) is heeds = absurd is
  answer_failed before now (Err m) (Err e) is heeds = subst (λ f. IsFaultOf s before f now) (sym is) (by_miss X before now s m heeds)

  -- what a failed call left is left where there is a fault
  pub answer_left : (A : Type 0) (a : Result X Miss) (r : Result X C) → IsAnswer fault s a r → OnErr a A → OnErr r A
  answer_left A (Ok x) (Ok y) is left = tt
  answer_left A (Ok x) (Err e) is left = absurd is
  answer_left A (Err m) (Ok y) is left = absurd is
  answer_left A (Err m) (Err e) is left = left

  -- a call of the metadata that isn't counted, and its sync
  pub answer_calm : (before now : Watch) (a : Result X Miss) (r : Result X C) → IsAnswer fault s a r → IsCalmOn before now a → IfErr r (λ e. IsFaultOf s before (fault e) now)
  answer_calm before now (Ok x) (Ok y) is calm = tt
  answer_calm before now (Ok x) (Err e) is calm = absurd is
  answer_calm before now (Err m) (Ok y) is calm = absurd is
  answer_calm before now (Err m) (Err e) is calm = subst (λ f. IsFaultOf s before f now) (sym is) (by_calm X before now s m calm)

  pub answer_synced : (before now : Watch) (a : Result X Miss) (r : Result X C) → IsAnswer fault s a r → HeedsOrIdlesOn before now a → IfErr r (λ e. IsFaultOf s before (fault e) now)
  answer_synced before now (Ok x) (Ok y) is heeds = tt
  answer_synced before now (Ok x) (Err e) is heeds = absurd is
  answer_synced before now (Err m) (Ok y) is heeds = absurd is
  answer_synced before now (Err m) (Err e) is heeds = subst (λ f. IsFaultOf s before f now) (sym is) (by_sync X before now s m heeds)

  pub answer_idle : (before now : Watch) (a : Result X Miss) (r : Result X C) → IsAnswer fault s a r → HeedsOrIdlesOn before now a → OnOk r (Passes before now)
  answer_idle before now (Ok x) (Ok y) is heeds = Passes-or_idle before now heeds
  answer_idle before now (Ok x) (Err e) is heeds = absurd is
  answer_idle before now (Err m) (Ok y) is heeds = absurd is
  answer_idle before now (Err m) (Err e) is heeds = tt

-- a fault, and what was left with it
pub with_left : {X C : Type 0} (A : Type 0) (B : C → Type 0) (r : Result X C) → OnErr r A → IfErr r B → IfErr r (λ e. A × B e)
with_left A B (Ok x) left failed = tt
with_left A B (Err e) left failed = (left, failed)
