-- Small facts for the instances.
use Rattle.std.proofs.Common.{◌≡◌, ◌⊎◌, inl, inr, ⊎_elim, IsTrue, ℕ, zero, suc, Bool, true, false, not, ◌&&◌, ◌||◌, List, [], ◌∷◌, ◌++◌, Some, None, is_some, Contains, refl, ap, arith, if◌then◌else◌}
use Rattle.mar_types.specs.Round.{Round}
use Rattle.mar_model.specs.Chain.{IsFinal}
use Rattle.mar_store.proofs.Lookups.{has_height-push_cases, value_at-append_found}
use Rattle.mar_store.specs.Kept.{At, Kept, has_height}
use Rattle.mar_model.specs.Step.{KeepsFrom}
use Rattle.mar_model_tests.proofs.SmallChain.{chain, r1}

-- the one element
pub only : {T : Type 0} (x y : T) → Contains (x ∷ []) y → x ≡ y
only x y (zero, lt, e) = e
only x y (suc k, lt, e) = absurd (omega arith)

pub none_in : {T : Type 0} (y : T) → Contains [] y → ⊥
none_in y (k, lt, e) = omega arith

-- the chain's one finalized round
pub final_round : (r : Round) (h : ℕ) → IsFinal chain r h → r1 ≡ r
final_round r h named = ap (λ x. x.round) (only (record { round = r1; height = 1 }) (record { round = r; height = h }) named)

pub final_height : (r : Round) (h : ℕ) → IsFinal chain r h → 1 ≡ h
final_height r h named = ap (λ x. x.height) (only (record { round = r1; height = 1 }) (record { round = r; height = h }) named)

-- nothing left where nothing was taken away
pub same_kept : {T : Type 0} (bound : ℕ) (k : Kept (At T)) → KeepsFrom bound k k
same_kept bound k = record { held = λ h v above e. e; sure = λ h v e still. e }

pub grown_kept : {T : Type 0} (bound : ℕ) (xs ys : List (At T)) → KeepsFrom bound (record { held = xs; sure = xs; may = xs }) (record { held = xs ++ ys; sure = xs ++ ys; may = xs ++ ys })
grown_kept bound xs ys = record { held = λ h v above e. value_at-append_found xs ys h v e; sure = λ h v e still. value_at-append_found xs ys h v e }

-- what was held before did not enter
pub not_entered : (x a c : Bool) → false ≡ (x && (a && (not a && c)))
not_entered false a c = refl
not_entered true false c = refl
not_entered true true c = refl

pub entered_own : {T : Type 0} (x a c : Bool) (v w : T) → false ≡ (x && (is_some (if a then Some v else if c then Some w else None) && (not (is_some (if a then Some v else None)) && not (c || false))))
entered_own false a c v w = refl
entered_own true true c v w = refl
entered_own true false true v w = refl
entered_own true false false v w = refl

-- a height of a store where one value was put is that value's, or was held before
pub entered_height : {T : Type 0} (old : List (At T)) (k : ℕ) (v : T) (h : ℕ) → IsTrue (has_height (old ++ record { height = k; value = v } ∷ []) h) → IsTrue (has_height old h) ⊎ Contains (k ∷ []) h
entered_height old k v h has = ⊎_elim (λ before. inl before) (λ same. inr (zero, omega arith, same)) (has_height-push_cases old k h v has)
