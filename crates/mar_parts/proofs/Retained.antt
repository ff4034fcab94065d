-- What stands under a name once entries were changed and dropped.
use Rattle.std.proofs.Common.{Bool, List, None, Option, Some, [], ap, cond, false, refl, subst, sym, true, ◌∙◌, ◌∷◌, ◌≡◌}
use Rattle.std.proofs.lemmas.Map.{NonePasses, lookup-none}
use Rattle.std.proofs.lemmas.Map.Entries.{lookup_head, lookup_tail, none_past_head}
use Rattle.std.specs.BTreeMap.{is_at}
use Rattle.std.specs.Cmp.{IsEquivalence}
use Rattle.std.specs.List.{IsDistinct}
use Rattle.std.specs.Map.{keys_of, lookup}
use Rattle.std.specs.Map.Calls.{RetainsPairs}
use Rattle.std.specs.Ordering.{eq_by_cmp}
use Rattle.std.specs.Prelude.{option_and_then, option_map}
use Rattle.std.specs.declared.cmp.Ordering.{Ordering}

absent_kept : {F K X : Type 0} (T : F → K → X → Bool → X → F → Type 0) (t : K → Bool) (f : F) (es kept : List (K × X)) → RetainsPairs T f es kept → NonePasses t es → NonePasses t kept
absent_kept T t f [] kept none absent = rw none tt
absent_kept T t f (e ∷ es) kept r absent =
    let rest = absent_kept T t r.2 es r.3 r.5 absent.1 in
    rw r.6 (elim r.0 as (λ b. NonePasses t (cond b ((e.0, r.1) ∷ r.3) r.3)) [ true ↦ (absent.0, rest) | false ↦ rest ])

-- the first entry stays or goes, and is asked for or isn't
first_kept : {K X Y : Type 0} (t : K → Bool) (see : X → Y) (still : Y → Option Y) (e : K × X) (w : X) (es kept rest : List (K × X)) → (t e.0 ≡ true → lookup t rest ≡ None) → option_map see (lookup t rest) ≡ option_and_then still (option_map see (lookup t es)) → (h b : Bool) → t e.0 ≡ h → kept ≡ cond b ((e.0, w) ∷ rest) rest → still (see e.1) ≡ cond b (Some (see w)) None → option_map see (lookup t kept) ≡ option_and_then still (option_map see (lookup t (e ∷ es)))
first_kept t see still e w es kept rest alone so_far true true hit is stays = ap (option_map see) (ap (lookup t) is ∙ lookup_head t (e.0, w) rest hit) ∙ sym stays ∙ ap (λ o. option_and_then still (option_map see o)) (sym (lookup_head t e es hit))
first_kept t see still e w es kept rest alone so_far true false hit is goes = ap (option_map see) (ap (lookup t) is ∙ alone hit) ∙ sym goes ∙ ap (λ o. option_and_then still (option_map see o)) (sym (lookup_head t e es hit))
first_kept t see still e w es kept rest alone so_far false true miss is stays = ap (option_map see) (ap (lookup t) is ∙ lookup_tail t (e.0, w) rest miss) ∙ so_far ∙ ap (λ o. option_and_then still (option_map see o)) (sym (lookup_tail t e es miss))
first_kept t see still e w es kept rest alone so_far false false miss is goes = ap (option_map see) (ap (lookup t) is) ∙ so_far ∙ ap (λ o. option_and_then still (option_map see o)) (sym (lookup_tail t e es miss))

-- each call of a closure that stays as it is tells whether an entry stays, and how it is seen then
pub kept_under : {F K X Y : Type 0} (T : F → K → X → Bool → X → F → Type 0) (see : X → Y) (still : Y → Option Y) (f : F) → ((k : K) (v : X) (b : Bool) (w : X) (f' : F) → T f k v b w f' → (still (see v) ≡ cond b (Some (see w)) None) × (f' ≡ f)) → (cmp : K → K → Ordering) → IsEquivalence (eq_by_cmp cmp) → (q : K) (es kept : List (K × X)) → IsDistinct (eq_by_cmp cmp) (keys_of es) → RetainsPairs T f es kept → option_map see (lookup (is_at (cmp q)) kept) ≡ option_and_then still (option_map see (lookup (is_at (cmp q)) es))
unfolding IsDistinct
kept_under T see still f step cmp laws q [] kept distinct none = ap (λ xs. option_map see (lookup (is_at (cmp q)) xs)) none
kept_under T see still f step cmp laws q (e ∷ es) kept distinct r =
    let here = step e.0 e.1 r.0 r.1 r.2 r.4 in
    let more : RetainsPairs T f es r.3 = subst (λ g. RetainsPairs T g es r.3) here.1 r.5 in
    let rest = kept_under T see still f step cmp laws q es r.3 distinct.1 more in
    let alone : is_at (cmp q) e.0 ≡ true → lookup (is_at (cmp q)) r.3 ≡ None
    = λ hit. lookup-none (is_at (cmp q)) r.3 (absent_kept T (is_at (cmp q)) f es r.3 more (none_past_head laws q e es distinct hit)) in
    first_kept (is_at (cmp q)) see still e r.1 es kept r.3 alone rest (is_at (cmp q) e.0) r.0 refl r.6 here.0
