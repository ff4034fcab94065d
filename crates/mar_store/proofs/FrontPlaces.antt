-- The places that are below an end: those of the entries at the front.
use Rattle.std.proofs.Common.{◌≡◌, ◌∙◌, ◌≤◌, ℕ, zero, suc, List, [], ◌∷◌, Bool, true, false, Option, Some, None, cond, refl, ap, take, length, arith}
use Rattle.std.specs.Prelude.{filter, nat_lt, option_map}
use Rattle.std.specs.declared.cmp.Ordering.{Ordering}
use Rattle.std.specs.BTreeMap.{BTreeMap, IsOrdered, get, is_at, keys}
use Rattle.std.specs.Cmp.{IsTotalOrder}
use Rattle.std.specs.Map.{lookup}
use Rattle.std.proofs.lemmas.Bool.{le-ltb, lt-ltb, ltb-false, ltb-true}
use Rattle.std.proofs.lemmas.Cmp.{eq_by_cmp_equiv}
use Rattle.std.proofs.lemmas.List.{length-take-le}
use Rattle.std.proofs.lemmas.Map.Entries.{lookup-filter-values, option_filter}
use Rattle.std.proofs.lemmas.Map.Keys.{IsDistinct-from_sorted}
use Rattle.mar_types.specs.Places.{first_place}
use Rattle.mar_store.specs.Choices.{chosen, place_below, stays}
use Rattle.mar_store.specs.declared.choice.Choice.TheVariants.{Lucky}
use Rattle.mar_store.specs.declared.entry.Entry.{Entry}
use Rattle.mar_store.proofs.Settled.{sure_stay}

pub places_kept : {K : Type 0} {R : K → K → Ordering} → IsTotalOrder R → (m n : BTreeMap K ℕ) (end : ℕ) → n.entries ≡ filter (λ e. nat_lt e.1 end) m.entries → IsOrdered R m → (k : K) → get R n k ≡ place_below end (get R m k)
places_kept {R = R} total m n end is ordered k =
    ap (lookup (is_at (R k))) is
    ∙ lookup-filter-values (eq_by_cmp_equiv total) (λ place. nat_lt place end) k m.entries (IsDistinct-from_sorted R (keys m) ordered)
    ∙ same (get R m k)
  where
    same : (o : Option ℕ) → option_filter (λ place. nat_lt place end) o ≡ place_below end o
    same None = refl
    same (Some place) = refl

none_below : (o : Option ℕ) → place_below zero o ≡ None
none_below None = refl
none_below (Some place) = rw (le-ltb place zero (omega arith)) refl

below_both : (place end : ℕ) → nat_lt (suc place) (suc end) ≡ nat_lt place end
below_both place end = by (nat_lt place end) refl
  where
    by : (b : Bool) → nat_lt place end ≡ b → nat_lt (suc place) (suc end) ≡ b
    by true is = lt-ltb (suc place) (suc end) (omega (arith, ltb-true place end is))
    by false is = le-ltb (suc place) (suc end) (omega (arith, ltb-false place end is))

below_more : (end : ℕ) (o : Option ℕ) → place_below (suc end) (option_map suc o) ≡ option_map suc (place_below end o)
below_more end None = refl
below_more end (Some place) =
    ap (λ b. cond b (Some (suc place)) None) (below_both place end)
    ∙ elim (nat_lt place end) as (λ b. cond b (Some (suc place)) None ≡ option_map suc (cond b (Some place) None)) [ true ↦ refl | false ↦ refl ]

first_below : {X : Type 0} (p : X → Bool) (end : ℕ) (xs : List X) → place_below end (first_place p xs) ≡ first_place p (take end xs)
first_below p zero xs = none_below (first_place p xs)
first_below p (suc end) [] = refl
first_below p (suc end) (x ∷ xs) =
    elim (p x) as (λ b. place_below (suc end) (cond b (Some 0) (option_map suc (first_place p xs))) ≡ cond b (Some 0) (option_map suc (first_place p (take end xs))))
    [ true ↦ rw (lt-ltb zero (suc end) (omega arith)) refl | false ↦ below_more end (first_place p xs) ∙ ap (option_map suc) (first_below p end xs) ]

pub at_front : {X : Type 0} (p : X → Bool) (end : ℕ) (xs : List X) (old new : Option ℕ) → old ≡ first_place p xs → new ≡ place_below end old → new ≡ first_place p (take end xs)
at_front p end xs old new was is = is ∙ ap (place_below end) was ∙ first_below p end xs

-- each of the sure entries stays
pub front_stays : {T : Type 0} (half n : ℕ) (items : List (Entry T)) → n ≤ length items → chosen (stays (Lucky n half)) 0 (take n items) ≡ take n items
front_stays half n items within = sure_stay half n 0 (take n items) (let long : length (take n items) ≡ n = length-take-le n items within in omega (arith, long))
