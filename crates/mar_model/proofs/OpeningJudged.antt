-- What the parts of an opening judge, one after another.
use Rattle.std.proofs.Common.{◌≡◌, ◌≤◌, ◌==◌, ℕ, List, [], ◌∷◌, Bool, true, false, Option, Some, None, IfSome, is_some, refl, sym, ◌∙◌, subst, arith, eqb-true, eq-eqb}
use Rattle.mar_store.specs.Kept.{At, has_height, value_at}
use Rattle.mar_store.specs.Named.{last_index}
use Rattle.mar_store.proofs.Lookups.{AllByRecursion-value_at, has_height-from_value}
use Rattle.mar_model.specs.Faults.{is_at_limit, last_height}
use Rattle.mar_model.proofs.Tips.{at_last, below_last}

-- THE LAST HEIGHT

-- it is held exactly where it is the last index, since no index is above it
pub holds_last : {T : Type 0} (xs : List (At T)) (o : Option ℕ) → o ≡ last_index xs → IfSome o (λ h. h ≤ last_height) → has_height xs last_height ≡ is_at_limit o
holds_last {T = T} xs None is low = nothing xs (sym is)
  where
    nothing : (ys : List (At T)) → last_index ys ≡ None → has_height ys last_height ≡ false
    nothing [] none = refl
    nothing (y ∷ ys) none = absurd cc
holds_last {T = T} xs (Some h) is low = by (h == last_height) refl
  where
    missing : (h == last_height) ≡ false → (o : Option T) → value_at xs last_height ≡ o → is_some o ≡ false
    missing apart None none = refl
    missing apart (Some v) there = absurd (let under : last_height ≤ h = AllByRecursion-value_at (λ (x : At T). x.height ≤ h) xs last_height v (below_last xs h (sym is)) there in let most : h ≤ last_height = low in let same : h ≡ last_height = omega arith in let on : (h == last_height) ≡ true = eq-eqb h last_height same in let both : true ≡ false = sym on ∙ apart in cc)

    by : (b : Bool) → (h == last_height) ≡ b → has_height xs last_height ≡ b
    by true at = let found = at_last xs h (sym is) in subst (λ k. has_height xs k ≡ true) (eqb-true h last_height at) (has_height-from_value xs h found.0 found.1)
    by false apart = missing apart (value_at xs last_height) refl
