-- Entries by height.
use Rattle.std.proofs.Common.{List, Some, [], ap, arith, cond, false, map, refl, sym, true, ℕ, ◌==◌, ◌∙◌, ◌∷◌, ◌≡◌}
use Rattle.std.proofs.lemmas.Bool.Decides.{nat_tests}
use Rattle.std.specs.BTreeMap.{is_at}
use Rattle.std.specs.Map.{lookup}
use Rattle.std.specs.Ordering.{is_eq, nat_cmp}
use Rattle.std.specs.Prelude.{option_map}

same_height : (h k : ℕ) → is_eq (nat_cmp h k) ≡ (k == h)
same_height h k = grind (arith, nat_tests)

-- what stands at a height, where entries are seen through `see`
pub seen_at : {X Y : Type 0} (see : X → Y) (h : ℕ) (es : List (ℕ × X)) → lookup (λ k. k == h) (map (λ e. (e.0, see e.1)) es) ≡ option_map see (lookup (is_at (nat_cmp h)) es)
seen_at see h [] = refl
seen_at see h (e ∷ es) =
    ap (λ b. cond b (Some (see e.1)) (lookup (λ k. k == h) (map (λ e. (e.0, see e.1)) es))) (sym (same_height h e.0))
    ∙ elim (is_at (nat_cmp h) e.0) as (λ b. cond b (Some (see e.1)) (lookup (λ k. k == h) (map (λ e. (e.0, see e.1)) es)) ≡ option_map see (cond b (Some e.1) (lookup (is_at (nat_cmp h)) es))) [
      | true ↦ refl
      | false ↦ seen_at see h es
    ]
