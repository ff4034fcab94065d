-- Entries under the bytes of their names.
use Rattle.std.proofs.Common.{Bool, List, Some, [], ap, cond, false, map, refl, sym, true, ℕ, ◌∙◌, ◌∷◌, ◌≡◌}
use Rattle.std.proofs.lemmas.Map.Entries.{lookup_head, lookup_tail}
use Rattle.std.proofs.lemmas.Map.Text.{is_eq-slice_cmp}
use Rattle.std.specs.BTreeMap.{is_at}
use Rattle.std.specs.Cmp.Lexicographic.{slice_cmp}
use Rattle.std.specs.Map.{lookup, set_value}
use Rattle.std.specs.Option.{unwrap_or}
use Rattle.std.specs.Ordering.{is_eq, nat_cmp}
use Rattle.std.specs.Prelude.{bytes_eq, option_map}
use Rattle.std.specs.declared.cmp.Ordering.{Ordering}

-- names are compared by their bytes
abbrev pub IsByBytes : {K : Type 0} → (K → List ℕ) → (K → K → Ordering) → Type 0
IsByBytes bytes cmp = (x y : _) → cmp x y ≡ slice_cmp nat_cmp (bytes x) (bytes y)

pub same_name : {K : Type 0} (bytes : K → List ℕ) (cmp : K → K → Ordering) → IsByBytes bytes cmp → (x y : K) → is_at (cmp x) y ≡ bytes_eq (bytes x) (bytes y)
same_name bytes cmp ordered x y = ap is_eq (ordered x y) ∙ is_eq-slice_cmp (bytes x) (bytes y)

-- what stands under a name, where entries are seen through `see`
pub named : {K X Y : Type 0} (bytes : K → List ℕ) (cmp : K → K → Ordering) (see : X → Y) → IsByBytes bytes cmp → (q : K) (es : List (K × X)) → lookup (bytes_eq (bytes q)) (map (λ e. (bytes e.0, see e.1)) es) ≡ option_map see (lookup (is_at (cmp q)) es)
named bytes cmp see ordered q [] = refl
named bytes cmp see ordered q (e ∷ es) =
    ap (λ b. cond b (Some (see e.1)) (lookup (bytes_eq (bytes q)) (map (λ e. (bytes e.0, see e.1)) es))) (sym (same_name bytes cmp ordered q e.0))
    ∙ elim (is_at (cmp q) e.0) as (λ b. cond b (Some (see e.1)) (lookup (bytes_eq (bytes q)) (map (λ e. (bytes e.0, see e.1)) es)) ≡ option_map see (cond b (Some e.1) (lookup (is_at (cmp q)) es))) [
      | true ↦ refl
      | false ↦ named bytes cmp see ordered q es
    ]

-- entries under their names, as under the bytes of these, seen through `see`
abbrev pub seen : {K N X Y : Type 0} → (K → N) → (X → Y) → List (K × X) → List (N × Y)
seen bytes see es = map (λ e. (bytes e.0, see e.1)) es

abbrev under : {N Y : Type 0} → N → List (N × Y) → Y → List (N × Y)
under name rest y = (name, y) ∷ rest

-- what was read and is written back as it was seen changes nothing that is seen
pub written_same : {K N X Y : Type 0} (bytes : K → N) (see : X → Y) (t : K → Bool) (w v : X) (es : List (K × X)) → lookup t es ≡ Some v → see w ≡ see v → seen bytes see (set_value t es w) ≡ seen bytes see es
written_same bytes see t w v [] found same = refl
written_same {K = K} {X = X} bytes see t w v (e ∷ es) found same = first (t e.0) refl (λ later. written_same bytes see t w v es later same)
  where
    first : (b : Bool) → t e.0 ≡ b → (lookup t es ≡ Some v → seen bytes see (set_value t es w) ≡ seen bytes see es) → seen bytes see (cond b ((e.0, w) ∷ es) (e ∷ set_value t es w)) ≡ seen bytes see (e ∷ es)
    first true hit rest =
        let is : e.1 ≡ v = ap (λ o. unwrap_or o e.1) (sym (lookup_head t e es hit) ∙ found) in
        ap (under (bytes e.0) (seen bytes see es)) (same ∙ ap see (sym is))
    first false miss rest = ap (λ ys. (under (bytes e.0) ys (see e.1))) (rest (sym (lookup_tail t e es miss) ∙ found))
