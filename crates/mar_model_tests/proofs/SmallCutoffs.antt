-- The small chain's cutoffs are safe.
use Rattle.std.proofs.Common.{List, ℕ, ◌≤◌, Some, refl, subst, IsTrue, IsFalse, inl, lit<, lit≤}
use Rattle.mar_cert.specs.Block.{Block}
use Rattle.mar_types.specs.Round.{Round}
use Rattle.mar_key.specs.Cutoff.{at_round, covers, cutoff_zero}
use Rattle.mar_model.specs.Chain.{IsFinal, Finalizes}
use Rattle.mar_store.specs.Kept.{At}
use Rattle.mar_model.specs.Node.{FloorSafe}
use Rattle.mar_model_tests.proofs.SmallChain.{d1, r1, chain}
use Rattle.mar_model_tests.proofs.SmallFacts.{final_round, final_height}

pub zero_safe : (r : Round) (h : ℕ) → IsFinal chain r h → IsFalse (covers cutoff_zero r)
zero_safe r h named = subst (λ s. IsFalse (covers cutoff_zero s)) (final_round r h named) refl

pub safe_at_zero : (sure : List (At Block)) → FloorSafe (Some 0) cutoff_zero sure chain
safe_at_zero sure r h named covered = absurd (uncovered (zero_safe r h named) covered)
  where
    uncovered : IsFalse (covers cutoff_zero r) → IsTrue (covers cutoff_zero r) → ⊥
    uncovered off on = cc

pub safe_at_one : (sure : List (At Block)) → FloorSafe (Some 1) (at_round r1) sure chain
safe_at_one sure r h named covered = inl (subst (λ k. k ≤ 1) (final_height r h named) (lit≤ tt))

pub finalizes : Finalizes chain 1 r1 d1
finalizes = record { named = (0, lit< tt, refl); payload_is = refl }
