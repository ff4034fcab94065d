-- How far a cache has come since its reopening, and what its epochs are like then.
use Rattle.std.specs.Prelude.{Bool, Contains, false, true, ℕ, ◌≡◌}
use Rattle.mar_model.specs.Cached.{Cached}
use Rattle.mar_epochs.specs.EpochStates.{EpochStates, is_opened, may_in}
use Rattle.mar_cache.specs.declared.stage.Stage.{Stage}
use Rattle.mar_cache.specs.declared.stage.Stage.TheVariants.{Begun, Fresh, Loaded}

abbrev pub is_fresh : Stage → Bool
is_fresh Fresh = true
is_fresh _ = false

abbrev pub is_loaded : Stage → Bool
is_loaded Loaded = true
is_loaded _ = false

-- a put opens an epoch
abbrev pub after_put : Stage → Stage
after_put Loaded = Loaded
after_put _ = Begun

-- No epoch is open before the first put; once what a crash left was taken up, nothing is left of an epoch that isn't open.
pub record IsAtStage (stage : Stage) (states : EpochStates) : Type 0 where
  pub fresh : is_fresh stage ≡ true → (k : ℕ) → is_opened (states k) ≡ false
  pub loaded : is_loaded stage ≡ true → (k : ℕ) → is_opened (states k) ≡ false → (x : Cached) → Contains (may_in (states k)) x → ⊥
