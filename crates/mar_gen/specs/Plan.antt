-- The order in which the heights come, and the steps of a made script that don't depend on the node.
use Rattle.std.specs.List.{swap}
use Rattle.std.specs.Prelude.{Bool, List, [], false, get_or, if◌then◌else◌, suc, true, zero, ℕ, ◌%◌, ◌*◌, ◌++◌, ◌+◌, ◌-◌, ◌/◌, ◌==◌, ◌∷◌, ◌≤◌, ⊤}
use Rattle.mar_types.specs.Varint.{IsNumber}
use Rattle.mar_gen.specs.Draws.{drawn}
use Rattle.mar_gen.specs.declared.steps.Planned.{Planned}
use Rattle.mar_gen.specs.declared.steps.Planned.TheVariants.{Buffer, Crash, Final, Open}

unfoldable pub heights_upto : ℕ → List ℕ
heights_upto zero = []
heights_upto (suc n) = heights_upto n ++ suc n ∷ []

-- The heights from 1 to n after so many exchanges: the first exchanges the last place with a drawn one that is not
-- behind it, the next the place before the last, and so on. The draws follow those of the blocks.
unfoldable pub exchanged : ℕ → ℕ → ℕ → List ℕ
exchanged seed n zero = heights_upto n
exchanged seed n (suc k) = swap (exchanged seed n k) (n - 1 - k) (drawn seed (n + 1 + k) % (n - k))

abbrev pub order : ℕ → ℕ → List ℕ
order seed n = exchanged seed n (n - 1)

-- after every 16th height, counted from 1, a crash with a draw for its luck, and an opening; these draws follow those of the order
abbrev pub restart : ℕ → ℕ → ℕ → List Planned
restart seed n k = if k % 16 == 0 then Crash (drawn seed (2 * n - 1 + k / 16)) ∷ Open ∷ [] else []

-- the k-th height that comes, counted from 0
abbrev pub height_at : ℕ → ℕ → ℕ → ℕ
height_at seed n k = get_or (order seed n) k 0

-- its steps
abbrev pub height_steps : ℕ → ℕ → ℕ → List Planned
height_steps seed n k = Buffer (height_at seed n k) ∷ Final (height_at seed n k) ∷ restart seed n (k + 1)

unfoldable pub steps_upto : ℕ → ℕ → ℕ → List Planned
steps_upto seed n zero = Open ∷ []
steps_upto seed n (suc k) = steps_upto seed n k ++ height_steps seed n k

-- an opening, then the steps of each height
abbrev pub plan : ℕ → ℕ → List Planned
plan seed n = steps_upto seed n n

abbrev pub is_open : Planned → Bool
is_open Open = true
is_open _ = false

-- one of the heights from 1 to n
pub record IsWithin (n h : ℕ) : Type 0 where
  pub above : 1 ≤ h
  pub within : h ≤ n

-- a step of one of the heights, or of none
abbrev pub IsStepWithin : ℕ → Planned → Type 0
IsStepWithin n (Buffer h) = IsWithin n h
IsStepWithin n (Final h) = IsWithin n h
IsStepWithin n (Crash luck) = IsNumber luck
IsStepWithin n Open = ⊤
