-- How large a value may be that a store takes.
use Rattle.std.specs.Prelude.{List, length, ℕ, ◌≤◌}

-- The bytes of a value are few enough: 1,048,576 at most.
abbrev pub IsSmall : List ℕ → Type 0
IsSmall bytes = length bytes ≤ 1048576
