-- Which certificates a scheme and a provider call right.
use Rattle.std.specs.Prelude.{Bool, ℕ, ◌≡◌}
use Rattle.mar_cert.specs.Finalization.{Finalization, Notarization, Subject, finalize, notarize}

-- a scheme says of this epoch's finalizations and notarizations what the provider says
pub record Judges (verifies : Subject → Finalization → Bool) (finalized : Finalization → Bool) (notarized : Notarization → Bool) (epoch : ℕ) : Type 0 where
  pub finalizations : (f : Finalization) → f.round.epoch ≡ epoch → verifies finalize f ≡ finalized f
  pub notarizations : (f : Notarization) → f.round.epoch ≡ epoch → verifies notarize f ≡ notarized f
