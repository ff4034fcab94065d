-- The newest of the heights that ranges hold.
use Rattle.std.specs.Prelude.{List, Option, None, Some, fold, if◌then◌else◌, min, nat_le, ℕ}
use Rattle.mar_store.specs.Ranges.{Range}

-- the greatest height of a range at or below this one, or else what was found before
abbrev pub upto_in : Option ℕ → Range → ℕ → Option ℕ
upto_in found r height = if nat_le r.from height then Some (min r.to height) else found

-- the same of ranges that ascend
abbrev pub upto : List Range → ℕ → Option ℕ
upto rs height = fold (λ found r. upto_in found r height) None rs
