-- The numbers that a seed draws, one after another.
use Rattle.std.specs.Prelude.{suc, zero, ℕ, ◌%◌, ◌*◌, ◌+◌, ◌/◌, ◌^◌}

abbrev pub next_state : ℕ → ℕ
next_state x = (x * 6_364_136_223_846_793_005 + 1_442_695_040_888_963_407) % 2 ^ 64

-- the generator's state after so many draws
unfoldable pub state_after : ℕ → ℕ → ℕ
state_after seed zero = seed
state_after seed (suc k) = next_state (state_after seed k)

-- the draw of this number, counted from 1
abbrev pub drawn : ℕ → ℕ → ℕ
drawn seed k = state_after seed k / 2 ^ 33
