-- What a segment was found to be.
use Rattle.std.proofs.Common.{◌≡◌, Bool, IsTrue, false, inl, inr, refl, sym, true, ◌⊎◌, ◌∙◌}
use Rattle.mar_cert.specs.Finalization.{Finalization, Notarization, Subject, finalize}
use Rattle.mar_cert.specs.Verdicts.{Judges}

pub right_by : {A B C : Type 0} → A ⊎ B → (B → C) → A ⊎ C
right_by (inl a) f = inl a
right_by (inr b) f = inr (f b)

pub never_both : (b : Bool) → b ≡ true → b ≡ false → ⊥
never_both b is other = cc

-- a scheme's verdict over a finalization is the provider's
pub certified : (verifies : Subject → Finalization → Bool) (finalized : Finalization → Bool) (notarized : Notarization → Bool) (f : Finalization) (b : Bool)
    → Judges verifies finalized notarized f.round.epoch → b ≡ verifies finalize f → b ≡ true → IsTrue (finalized f)
certified verifies finalized notarized f b judges verdict is = sym (judges.finalizations f refl) ∙ sym verdict ∙ is

pub not_certified : (verifies : Subject → Finalization → Bool) (finalized : Finalization → Bool) (notarized : Notarization → Bool) (f : Finalization) (b : Bool)
    → Judges verifies finalized notarized f.round.epoch → b ≡ verifies finalize f → b ≡ false → IsTrue (finalized f) → ⊥
not_certified verifies finalized notarized f b judges verdict other is = never_both b (verdict ∙ judges.finalizations f refl ∙ is) other
