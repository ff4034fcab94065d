-- Why a call may answer a fault: a count of faults, which never falls.
use Rattle.std.specs.Prelude.{OnErr, Result, min, ℕ, ◌+◌, ◌-◌, ◌^◌, ◌≤◌}

-- a count of faults rose, or stands at its last value
abbrev pub Rose : ℕ → ℕ → Type 0
Rose before now = min (before + 1) (2 ^ 64 - 1) ≤ now

-- a count never falls, and a fault comes only where it rose
pub record HasCause {T E : Type 0} (before now : ℕ) (result : Result T E) : Type 0 where
  pub later : before ≤ now
  pub failed : OnErr result (Rose before now)
