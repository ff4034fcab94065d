-- Bytes, and digests of 32 of them.
use Rattle.std.specs.Coded.{le_prop, ×_prop}
use Rattle.std.specs.List.{AllByRecursion, AllByRecursion-prop}
use Rattle.std.specs.Prelude.{List, length, ℕ, ◌<◌, ◌≡◌}
use Rattle.std.proofs.Math.Nat.{ℕ_set}

abbrev pub IsByte : ℕ → Type 0
IsByte b = b < 256

-- so many bytes
abbrev pub IsBytes : ℕ → List ℕ → Type 0
IsBytes size bytes = (length bytes ≡ size) × AllByRecursion IsByte bytes

abbrev pub IsDigest : List ℕ → Type 0
IsDigest d = (length d ≡ 32) × AllByRecursion IsByte d

-- that these are so many bytes has one proof at most
pub IsBytes-prop : (size : ℕ) (bytes : List ℕ) → IsProp (IsBytes size bytes)
IsBytes-prop size bytes = ×_prop (ℕ_set _ _) (AllByRecursion-prop IsByte (λ b. le_prop) bytes)
