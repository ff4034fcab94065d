-- What a journal tells of its failures: a call may fail that isn't armed, and it doesn't go by luck.
use Rattle.std.specs.Prelude.{List, None, false, min, true, ℕ, ⊤, ◌+◌, ◌-◌, ◌^◌, ◌≡◌, ◌⊎◌}
use Rattle.mar_types.specs.Causes.{Rose}
use Rattle.mar_store.specs.Watch.{Watch, is_due}
use Rattle.mar_store.specs.declared.Lost.{Lost}
use Rattle.mar_store.specs.declared.Lost.TheVariants.{Fault, Memory}

abbrev pub journal_watch : ℕ → List ℕ → Watch
journal_watch faults due = record { faults = faults; due = due; armable = true; only_armed = false; keeps = None }

-- A fault comes where the call was armed, or where the count of the disk's failures rose.
abbrev pub HasFaultCause : {W : Type 0} → (W → ℕ) → List ℕ → ℕ → Lost W → Type 0
HasFaultCause disk_faults due before (Fault w) = (is_due due ≡ true) ⊎ Rose before (disk_faults w)
HasFaultCause disk_faults due before (Memory w) = ⊤

-- a call of a disk that failed: a fault is counted, want of memory isn't
abbrev pub CountsLost : {W : Type 0} → (W → ℕ) → ℕ → Lost W → Type 0
CountsLost faults before (Fault w) = faults w ≡ min (before + 1) (2 ^ 64 - 1)
CountsLost faults before (Memory w) = faults w ≡ before
