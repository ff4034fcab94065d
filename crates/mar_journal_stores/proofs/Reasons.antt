-- Why a store is lost whose journal wasn't opened, where no damage was seen.
use Rattle.std.proofs.Common.{None, refl, ◌≡◌, ℕ}
use Rattle.mar_store.specs.declared.Miss.TheVariants.{Fault as Missed}
use Rattle.mar_journal.specs.declared.Unopened.{Unopened}
use Rattle.mar_journal.specs.declared.Unopened.TheVariants.{Damaged, Fault, Memory}
use Rattle.mar_journal_stores.specs.Reasons.{damage_of, miss_of}

pub none_seen : (reason : Unopened) → ((at : ℕ) → reason ≡ Damaged at → ⊥) → damage_of reason ≡ None
none_seen Fault none = refl
none_seen Memory none = refl
none_seen (Damaged at) none = absurd (none at refl)

pub fault_told : {X : Type 0} (reason : Unopened) → ((at : ℕ) → reason ≡ Damaged at → ⊥) → (reason ≡ Fault → X) → miss_of reason ≡ Missed → X
fault_told Fault none rose is = rose refl
fault_told Memory none rose is = absurd cc
fault_told (Damaged at) none rose is = absurd (none at refl)
