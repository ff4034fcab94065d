-- Why a call of a disk failed.
use Rattle.std.proofs.Common.{Ok, arith, ℕ, ◌≡◌}
use Rattle.mar_journal.specs.Disk.{Answers}

-- a call went well, and the count of the disk's failures stayed
pub answers_ok : {T : Type 0} (before now : ℕ) (value : T) → now ≡ before → Answers before now (Ok value)
answers_ok before now value same = record { later = omega (arith, same); failed = λ is. absurd cc; calm = same }
