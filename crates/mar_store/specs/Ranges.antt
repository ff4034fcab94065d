-- Heights as ranges that ascend and do not touch.
use Rattle.std.specs.Prelude.{Bool, List, None, Option, Some, [], false, fold, if◌then◌else◌, nat_le, nat_lt, ℕ, ◌&&◌, ◌+◌, ◌==◌, ◌||◌, ◌∷◌}

-- consecutive heights
pub record Range : Type 0 where
  pub from : ℕ
  pub to : ℕ

abbrev pub range_before : ℕ → ℕ → List Range → List Range
range_before from to [] = record { from = from; to = to } ∷ []
range_before from to (r ∷ rs) = if to + 1 == r.from then record { from = from; to = r.to } ∷ rs else record { from = from; to = to } ∷ r ∷ rs

-- the ranges with one more height; they ascend, and no two touch
abbrev pub with_height : ℕ → List Range → List Range
with_height h [] = record { from = h; to = h } ∷ []
with_height h (r ∷ rs) =
    if nat_lt h r.from then range_before h h (r ∷ rs)
    else if nat_le h r.to then r ∷ rs
    else if h == r.to + 1 then range_before r.from h rs
    else r ∷ with_height h rs

abbrev pub ranges : List ℕ → List Range
ranges heights = fold (λ rs h. with_height h rs) [] heights

-- the end of the last range
abbrev pub last_end : List Range → Option ℕ
last_end [] = None
last_end (r ∷ []) = Some r.to
last_end (r ∷ s ∷ rs) = last_end (s ∷ rs)

-- whether some range has the height
abbrev pub in_ranges : List Range → ℕ → Bool
in_ranges [] h = false
in_ranges (r ∷ rs) h = (nat_le r.from h && nat_le h r.to) || in_ranges rs h
