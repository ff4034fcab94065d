-- Epochs of varying lengths, by a table.
use Rattle.std.specs.List.{AllByRecursion}
use Rattle.std.specs.Prelude.{List, None, Some, if◌then◌else◌, length, min, nat_le, slice_index, suc, zero, ℕ, ◌+◌, ◌-◌, ◌^◌, ◌<◌, ◌≤◌}
use Rattle.mar_types.specs.Epochs.{Epochs}

-- the first height of an epoch, where `size` says how many heights each has: as many as all before it have
abbrev pub first_of : (ℕ → ℕ) → ℕ → ℕ
first_of size zero = 0
first_of size (suc e) = first_of size e + size e

-- epochs of these sizes, one behind the other from height 0 on; None where the last height would not fit 64 bits
abbrev pub sized_epochs : (ℕ → ℕ) → Epochs
sized_epochs size e = if nat_le (first_of size e + size e) (2 ^ 64) then Some (record { first = first_of size e; last = first_of size e + size e - 1 }) else None

-- how many heights an epoch has: the length at its place, and past the table the last one
abbrev pub table_size : List ℕ → ℕ → ℕ
table_size lengths e = slice_index lengths (min e (length lengths - 1))

-- epochs of these lengths, of which the last one repeats
abbrev pub table_epochs : List ℕ → Epochs
table_epochs lengths = sized_epochs (table_size lengths)

-- A table has 1 to 64 lengths, the first above 1 and the others above 0.
pub record IsTable (lengths : List ℕ) : Type 0 where
  pub some : 0 < length lengths
  pub few : length lengths ≤ 64
  pub long : 1 < slice_index lengths 0
  pub positive : AllByRecursion (λ n. 0 < n) lengths
