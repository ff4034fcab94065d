-- What ranges of heights hold, and what is missing between them.
use Rattle.std.specs.Prelude.{Contains, List, Option, [], find, if◌then◌else◌, max, nat_le, nat_lt, option_map, take, ℕ, ⊤, ◌&&◌, ◌++◌, ◌+◌, ◌-◌, ◌<◌, ◌≤◌, ◌∷◌}
use Rattle.std.specs.List.{range_with_len}
use Rattle.mar_store.specs.Ranges.{Range}

-- the numbers from one on, up to below another
abbrev pub numbers : ℕ → ℕ → List ℕ
numbers from to = range_with_len from (to - from)

-- the missing heights from a first one on that lie below some range
abbrev pub missing_from : List Range → ℕ → List ℕ
missing_from [] start = []
missing_from (r ∷ rs) start = numbers start r.from ++ missing_from rs (max start (r.to + 1))

-- of these the lowest, at most so many
abbrev pub missing_items : List Range → ℕ → ℕ → List ℕ
missing_items rs start most = take most (missing_from rs start)

-- the end of the range that holds a height
abbrev pub range_end : List Range → ℕ → Option ℕ
range_end rs h = option_map (λ r. r.to) (find (λ r. nat_le r.from h && nat_le h r.to) rs)

-- the start of the next range after it
abbrev pub next_start : List Range → ℕ → Option ℕ
next_start rs h = option_map (λ r. r.from) (find (λ r. nat_lt h r.from) rs)

-- the ranges that overlap or follow a height
abbrev pub ranges_from : List Range → ℕ → List Range
ranges_from [] h = []
ranges_from (r ∷ rs) h = if nat_lt r.to h then ranges_from rs h else r ∷ rs

-- The height isn't in the list; it is at or above a start, and below a height of the list.
pub record IsMissing (heights : List ℕ) (start h : ℕ) : Type 0 where
  pub from : start ≤ h
  pub lacks : Contains heights h → ⊥
  pub above : ℕ
  pub held : Contains heights above
  pub below : h < above

-- each number is above the one before it, and the first is at or above `low`
abbrev pub AscendAbove : ℕ → List ℕ → Type 0
AscendAbove low [] = ⊤
AscendAbove low (x ∷ xs) = (low ≤ x) × AscendAbove (x + 1) xs

-- All heights from h to e are in the list, and the one after them isn't.
pub record EndsRun (heights : List ℕ) (h e : ℕ) : Type 0 where
  pub from : h ≤ e
  pub held : (k : ℕ) → h ≤ k → k ≤ e → Contains heights k
  pub ends : Contains heights (e + 1) → ⊥

-- Of the heights above h in the list, s is the first whose forerunner isn't in it.
pub record BeginsNext (heights : List ℕ) (h s : ℕ) : Type 0 where
  pub above : h < s
  pub held : Contains heights s
  pub begins : Contains heights (s - 1) → ⊥
  pub first : (k : ℕ) → h < k → k < s → Contains heights k → Contains heights (k - 1)
