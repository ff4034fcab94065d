-- The ranges of heights, one height more.
use Rattle.std.specs.Prelude.{List, [], ℕ, ◌++◌, ◌∷◌, ◌≡◌}
use Rattle.std.proofs.lemmas.List.Sums.{fold-append}
use Rattle.mar_store.specs.Ranges.{ranges, with_height}

pub ranges_push : (heights : List ℕ) (h : ℕ) → ranges (heights ++ h ∷ []) ≡ with_height h (ranges heights)
ranges_push heights h = fold-append (λ rs k. with_height k rs) [] heights (h ∷ [])
