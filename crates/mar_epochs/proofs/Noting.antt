-- A spot that is noted under a key which has one.
use Rattle.std.proofs.Common.{◌≡◌, ◌∙◌, List, [], ◌∷◌, Bool, true, false, Some, cond, refl, ap, ap₂}
use Rattle.std.specs.BTreeMap.{BTreeMap, get, is_at}
use Rattle.std.specs.Cmp.{IsEquivalence, IsTotalOrder}
use Rattle.std.specs.Map.{lookup}
use Rattle.std.specs.Ordering.{eq_by_cmp}
use Rattle.std.specs.declared.cmp.Ordering.{Ordering}
use Rattle.std.proofs.lemmas.Cmp.{eq_by_cmp_equiv}
use Rattle.mar_epochs.specs.Spots.{sooner}
use Rattle.mar_epochs.specs.declared.index.Spot.{Spot}

-- equal keys find the same
got_same : {K X : Type 0} {eq : K → K → Bool} → IsEquivalence eq → (j k : K) → eq j k ≡ true → (es : List (K × X)) → lookup (eq j) es ≡ lookup (eq k) es
got_same laws j k same [] = refl
got_same laws j k same (e ∷ es) = ap₂ (λ b o. cond b (Some e.1) o) (laws.congr j k e.0 same) (got_same laws j k same es)

pub noted_over : {K : Type 0} {R : K → K → Ordering} → IsTotalOrder R → (old mid new : BTreeMap K Spot) (key : K) (spot found put : Spot) → Some found ≡ get R old key
    → ((q : K) → get R mid q ≡ cond (is_at (R key) q) (Some spot) (get R old q)) → ((q : K) → get R new q ≡ cond (is_at (R key) q) (Some put) (get R mid q)) → Some put ≡ sooner (Some found) spot
    → (k : K) → get R new k ≡ cond (eq_by_cmp R key k) (sooner (get R old k) spot) (get R old k)
noted_over {R = R} total old mid new key spot found put has first second is k = by (eq_by_cmp R key k) refl
  where
    by : (b : Bool) → eq_by_cmp R key k ≡ b → get R new k ≡ cond b (sooner (get R old k) spot) (get R old k)
    by true same = second k ∙ ap (λ b. cond b (Some put) (get R mid k)) same ∙ is ∙ ap (λ o. sooner o spot) (has ∙ got_same (eq_by_cmp_equiv total) key k same old.entries)
    by false other = second k ∙ ap (λ b. cond b (Some put) (get R mid k)) other ∙ first k ∙ ap (λ b. cond b (Some spot) (get R old k)) other
