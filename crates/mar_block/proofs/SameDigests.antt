-- Digests that are not told apart.
use Rattle.std.proofs.Common.{Bool, List, false, true, sym, ℕ, ◌∙◌, ◌≡◌}
use Rattle.std.proofs.lemmas.Slice.Eq.{bytes_eq-Decides}
use Rattle.std.specs.Prelude.{bytes_eq, not, ◌≢◌}

-- a comparison that answers "not unequal" was of the same bytes
pub not_unequal : (unequal equal : Bool) (xs ys : List ℕ) → unequal ≡ false → unequal ≡ not equal → equal ≡ bytes_eq xs ys → xs ≡ ys
not_unequal unequal true xs ys unset is tells = (bytes_eq-Decides xs ys).0 (sym tells)
not_unequal unequal false xs ys unset is tells = absurd (clash (sym unset ∙ is))
  where
    clash : false ≡ true → ⊥
    clash e = cc

-- and one that answers "unequal" was not
pub told_apart : (unequal equal : Bool) (xs ys : List ℕ) → unequal ≡ true → unequal ≡ not equal → equal ≡ bytes_eq xs ys → xs ≢ ys
told_apart unequal true xs ys set is tells same = absurd (clash (sym is ∙ set))
  where
    clash : false ≡ true → ⊥
    clash e = cc
told_apart unequal false xs ys set is tells same = absurd (clash (tells ∙ (bytes_eq-Decides xs ys).1 same))
  where
    clash : false ≡ true → ⊥
    clash e = cc
