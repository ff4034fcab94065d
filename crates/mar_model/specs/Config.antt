-- The settings of a node.
use Rattle.std.specs.Prelude.{Bool, List, ℕ}
use Rattle.mar_cert.specs.Finalization.{Finalization, Notarization}
use Rattle.mar_types.specs.Epochs.{Epochs}

-- The settings of a node: the epocher by its bounds, the provider by two tests.
pub record Config : Type 0 where
  pub members : ℕ  -- the certificates of peers and scripts are read with it
  pub window : ℕ
  pub max_repair : ℕ
  pub retention : ℕ
  pub capacity : ℕ
  pub epochs : Epochs
  pub inner : List ℕ → List ℕ  -- the digest of a block of this commitment
  pub scoped : ℕ → Bool
  pub verifies : Finalization → Bool
  pub verifies_notarization : Notarization → Bool
