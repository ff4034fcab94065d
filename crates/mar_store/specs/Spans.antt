-- Spans of the code as ranges, and what a list of ranges keeps.
use Rattle.std.specs.Prelude.{List, [], map, ℕ, ⊤, ◌≡◌, ◌+◌, ◌<◌, ◌≤◌, ◌∷◌}
use Rattle.std.specs.List.{AllByRecursion}
use Rattle.mar_store.specs.Ranges.{Range}
use Rattle.mar_store.specs.declared.range_set.HeightSpan.{HeightSpan}

abbrev pub range_of : HeightSpan → Range
range_of span = record { from = span.from; to = span.to }

abbrev pub ranges_of : List HeightSpan → List Range
ranges_of spans = map range_of spans

-- Each range begins at or above `low`, and two or more above the end of the range before it.
abbrev pub AscendFrom : ℕ → List Range → Type 0
AscendFrom low [] = ⊤
AscendFrom low (r ∷ rs) = (low ≤ r.from) × (r.from ≤ r.to) × AscendFrom (r.to + 2) rs

-- The height is below the first range, in it, or just above it; or there is none.
abbrev pub IsReached : ℕ → List Range → Type 0
IsReached h [] = ⊤
IsReached h (r ∷ rs) = h ≤ r.to + 1

-- The first range ends at or above the height, or there is none.
abbrev pub EndsFrom : ℕ → List Range → Type 0
EndsFrom h [] = ⊤
EndsFrom h (r ∷ rs) = h ≤ r.to

-- The height is two or more below the first range, or there is none.
abbrev pub IsAlone : ℕ → List Range → Type 0
IsAlone h [] = ⊤
IsAlone h (r ∷ rs) = h + 1 < r.from

-- The height is just above the first range.
abbrev pub IsFollowed : ℕ → List Range → Type 0
IsFollowed h [] = ⊥
IsFollowed h (r ∷ rs) = (r.from ≤ r.to) × (h ≡ r.to + 1)

-- There is a range, and it begins just above the height.
abbrev pub BeginsAfter : ℕ → List Range → Type 0
BeginsAfter h [] = ⊥
BeginsAfter h (r ∷ rs) = r.from ≡ h + 1

-- each range ends at or above its beginning
abbrev pub AreOrdered : List Range → Type 0
AreOrdered rs = AllByRecursion (λ r. r.from ≤ r.to) rs
