-- The processed height, and whether its block was there when it was set.
use Rattle.std.specs.Prelude.{None, Option, Some, ℕ, ◌+◌}
use Rattle.mar_key.specs.Cutoff.{Cutoff}

-- the processed height, and whether its block was there when it was set
pub data Processed : Type 0 where
  at_block : ℕ → Processed
  at_absent : ℕ → Processed

abbrev pub height_in : Processed → ℕ
height_in (at_block h) = h
height_in (at_absent h) = h

-- the lowest block that is kept for it
abbrev pub anchor_of : Processed → ℕ
anchor_of (at_block h) = h
anchor_of (at_absent h) = h + 1

-- the processed height, and 0 where nothing is processed
abbrev pub height_of : Option Processed → ℕ
height_of None = 0
height_of (Some p) = height_in p

-- the first height that is not processed
abbrev pub first_unprocessed : Option Processed → ℕ
first_unprocessed None = 0
first_unprocessed (Some p) = height_in p + 1

-- what is restored at an opening: the processed height and the round cutoff
pub record Floor : Type 0 where
  pub processed : Option Processed
  pub cutoff : Cutoff
