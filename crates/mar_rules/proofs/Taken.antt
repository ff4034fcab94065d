-- What taking the block of a height comes to.
use Rattle.std.proofs.Common.{◌≡◌, ◌⊎◌, inl, inr, ℕ, ◌<◌, ◌≤◌, List, Option, Some, None, option_map, Contains, IfNone, IfOk, IfSome, Result, Ok, Err, subst, sym}
use Rattle.std.specs.List.{AllByRecursion}
use Rattle.mar_cert.specs.Block.{Block}
use Rattle.mar_model.specs.Faults.{last_height}
use Rattle.mar_model.specs.Held.{Held}
use Rattle.mar_rules.specs.Next.{IsReady, IsUnready}
use Rattle.mar_store.specs.Kept.{value_at}

module _ (h : Held) (n : ℕ) (uncovered : List ℕ) (is : uncovered ≡ h.writes.uncovered) where
  -- it is barred, or the last height
  pub barred : ((k : ℕ) × Contains uncovered k × (k ≤ n)) ⊎ (last_height ≤ n) → IsUnready h n
  barred (inl (k, waits, low)) = inl (k, subst (λ ks. Contains ks k) is waits, low)
  barred (inr last) = inr (inr last)

  -- or what is held there was taken
  pub taken : {T C : Type 0} (plain : T → Block) → (n < last_height) × AllByRecursion (λ k. n < k) uncovered → (result : Result (Option T) C) → IfOk result (λ r. option_map plain r ≡ value_at h.blocks.held n) → IfOk result (λ r. IfSome r (λ b. (plain b).height ≡ n)) → IfOk result (λ r. IfSome r (λ b. IsReady h n (plain b)))
  taken plain free (Ok (Some b)) found own = record { held = sym found; height = own; below = free.0; below_barrier = subst (λ ks. AllByRecursion (λ k. n < k) ks) is free.1 }
  taken plain free (Ok None) found own = tt
  taken plain free (Err e) found own = tt

pub missing : {T C : Type 0} (plain : T → Block) (h : Held) (n : ℕ) (result : Result (Option T) C) → IfOk result (λ r. option_map plain r ≡ value_at h.blocks.held n) → IfOk result (λ r. IfNone r (IsUnready h n))
missing plain h n (Ok (Some b)) found = tt
missing plain h n (Ok None) found = inr (inl (sym found))
missing plain h n (Err e) found = tt
