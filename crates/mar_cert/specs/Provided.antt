-- The epochs that a mock provider gives a scheme for.
use Rattle.std.specs.Prelude.{Bool, nat_le, ℕ, ◌&&◌}

-- the epochs from the first to the last have the scheme of so many members
pub record Provided : Type 0 where
  pub members : ℕ
  pub first : ℕ
  pub last : ℕ

abbrev pub is_provided : Provided → ℕ → Bool
is_provided p epoch = nat_le p.first epoch && nat_le epoch p.last
