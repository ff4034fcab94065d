-- Heights as ranges: which heights they hold, and one more height at the end.
use Rattle.std.proofs.Common.{◌⊎◌, ◌≤◌, ℕ, List, [], ◌∷◌}
use Rattle.mar_store.specs.Ranges.{Range}

-- some range has the height
abbrev pub IsInRanges : List Range → ℕ → Type 0
IsInRanges [] h = ⊥
IsInRanges (r ∷ rs) h = ((r.from ≤ h) × (h ≤ r.to)) ⊎ IsInRanges rs h
