-- A journal on a disk.
use Rattle.std.specs.Prelude.{List, [], drop, length, take, ℕ, ⊤, ◌++◌, ◌+◌, ◌∷◌, ◌≡◌, ◌⊎◌}
use Rattle.mar_types.specs.Causes.{Rose}
use Rattle.mar_journal.specs.Disk.{Only}
use Rattle.mar_journal.specs.Format.{IsDamaged, IsJournal, IsNew, behind_gate}
use Rattle.mar_journal.specs.declared.journal.Unopened.{Unopened}
use Rattle.mar_journal.specs.declared.journal.Unopened.TheVariants.{Damaged, Fault, Memory}

-- The disk has a journal of these records with its closed gate at this place, and all of it is durable.
pub record IsSettled {R D : Type 0} (spelled : R → List ℕ) (Valid : R → Type 0) (seen : D → List ℕ) (may_leave : D → List ℕ → Type 0)
    (records : List R) (end : ℕ) (disk : D) : Type 0 where
  pub journal : IsJournal spelled Valid records end (seen disk)
  pub only : Only (seen disk) (may_leave disk)

-- behind the gate at this place a batch and a closed gate stand
abbrev pub IsStaged : {R : Type 0} → (R → List ℕ) → List R → ℕ → List ℕ → Type 0
IsStaged spelled batch end file = take (length (behind_gate spelled batch ++ 0 ∷ [])) (drop (end + 1) file) ≡ behind_gate spelled batch ++ 0 ∷ []

-- The journal of the second disk has the records of the first one's, and behind them these.
pub record Adds {R D : Type 0} (spelled : R → List ℕ) (Valid : R → Type 0) (seen : D → List ℕ) (may_leave : D → List ℕ → Type 0) (more : List R) (old new : D) : Type 0 where
  pub records : List R
  pub end : ℕ
  pub settled : IsSettled spelled Valid seen may_leave records end old
  pub later_end : ℕ
  pub added : IsSettled spelled Valid seen may_leave (records ++ more) later_end new

-- Why a journal isn't opened: the disk failed, or its bytes show damage at that place.
abbrev pub HasReason : {R : Type 0} → (R → List ℕ) → (R → Type 0) → ℕ → ℕ → List ℕ → Unopened → Type 0
HasReason spelled Valid before now file Fault = Rose before now
HasReason spelled Valid before now file Memory = ⊤
HasReason spelled Valid before now file (Damaged at) = (now ≡ before) × IsDamaged spelled Valid at file

-- what an opening may leave: what was there, and of a new file a new one
abbrev pub IsOldOrNew : List ℕ → (List ℕ → Type 0) → List ℕ → Type 0
IsOldOrNew seen old c = old c ⊎ (IsNew seen × IsNew c)
