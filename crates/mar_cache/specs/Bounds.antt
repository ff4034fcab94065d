-- The lowest and the highest epoch of a cache, as its metadata keeps them.
use Rattle.std.specs.Prelude.{Bool, List, nat_le, unwrap_or, ℕ, ◌&&◌, ◌++◌}
use Rattle.mar_store.specs.Changes.{Within}
use Rattle.mar_store.specs.Values.{Values}

pub record Bounds : Type 0 where
  pub lowest : ℕ
  pub highest : ℕ

-- under the keys 0 and 1; one that is missing is 0
abbrev pub bounds_of : Values → Bounds
bounds_of values = record { lowest = unwrap_or (values 0) 0; highest = unwrap_or (values 1) 0 }

-- an epoch from the lowest to the highest
abbrev pub includes : Bounds → ℕ → Bool
includes b k = nat_le b.lowest k && nat_le k b.highest

-- nothing that might be left is gone, and nothing else may be left but what was to be written
pub record LeavesBounds (old more left : List Bounds) : Type 0 where
  pub kept : Within old left
  pub within : Within left (old ++ more)
