-- The order is one of the heights from 1 to the last, and the steps speak of these alone.
use Rattle.std.proofs.Common.{Bool, Contains, List, [], add-one, ap, arith, false, get_or, if◌then◌else◌, inl, inr, length, length-append, refl, subst, suc, true, zero, ℕ, ◌%◌, ◌*◌, ◌+◌, ◌-◌, ◌/◌, ◌<◌, ◌==◌, ◌∙◌, ◌∷◌, ◌≡◌, ◌≤◌, ◌⊎◌}
use Rattle.std.specs.List.{AllByRecursion}
use Rattle.std.specs.List.Sorted.{IsPermutation}
use Rattle.std.proofs.lemmas.List.Edits.{length-swap}
use Rattle.std.proofs.lemmas.List.Elements.{Contains-append_cases}
use Rattle.std.proofs.lemmas.List.Sorted.{Contains-permutation, IsPermutation-refl, IsPermutation-swap, IsPermutation-sym, IsPermutation-trans}
use Rattle.std.proofs.lemmas.Option.{get_or_from_slice_get, slice_get-get_or}
use Rattle.mar_types.specs.Varint.{IsNumber}
use Rattle.mar_store.proofs.Lookups.{AllByRecursion-append}
use Rattle.mar_gen.specs.Draws.{drawn, state_after}
use Rattle.mar_gen.specs.Plan.{IsStepWithin, IsWithin, exchanged, height_at, height_steps, heights_upto, order, plan, restart, steps_upto}
use Rattle.mar_gen.specs.declared.steps.Planned.TheVariants.{Crash, Open}

length-heights : (n : ℕ) → length (heights_upto n) ≡ n
unfolding heights_upto
length-heights zero = refl
length-heights (suc n) = length-append (heights_upto n) (suc n ∷ []) ∙ ap (λ k. k + 1) (length-heights n) ∙ add-one n

length-exchanged : (seed n k : ℕ) → length (exchanged seed n k) ≡ n
unfolding exchanged
length-exchanged seed n zero = length-heights n
length-exchanged seed n (suc k) = length-swap (exchanged seed n k) (n - 1 - k) (drawn seed (n + 1 + k) % (n - k)) ∙ length-exchanged seed n k

exchanges : (seed n k : ℕ) → k < n → IsPermutation (heights_upto n) (exchanged seed n k)
unfolding exchanged
exchanges seed n zero low = IsPermutation-refl (heights_upto n)
exchanges seed n (suc k) low =
    IsPermutation-trans (heights_upto n) (exchanged seed n k) (exchanged seed n (suc k)) (exchanges seed n k (omega (arith, low)))
    (IsPermutation-swap (exchanged seed n k) (exchanged seed n (suc k)) (n - 1 - k) (drawn seed (n + 1 + k) % (n - k)) (omega (arith, low, length-exchanged seed n k)) (omega (arith, low, length-exchanged seed n k)) refl)

pub is_order : (seed n : ℕ) → 1 ≤ n → IsPermutation (heights_upto n) (order seed n)
is_order seed n some = exchanges seed n (n - 1) (omega (arith, some))

only : {T : Type 0} (x y : T) → Contains (x ∷ []) y → x ≡ y
only x y (zero, low, is) = is
only x y (suc k, low, is) = absurd (omega (arith, low))

heights_within : (n h : ℕ) → Contains (heights_upto n) h → IsWithin n h
unfolding heights_upto
heights_within zero h (i, low, is) = absurd (omega (arith, low))
heights_within (suc n) h has = by (heights_within n h) (Contains-append_cases (heights_upto n) (suc n ∷ []) h has)
  where
    by : (Contains (heights_upto n) h → IsWithin n h) → Contains (heights_upto n) h ⊎ Contains (suc n ∷ []) h → IsWithin (suc n) h
    by before (inl there) = let w = before there in record { above = w.above; within = omega (arith, w.within) }
    by before (inr there) = subst (IsWithin (suc n)) (only _ _ there) (record { above = omega arith; within = omega arith })

pub height_within : (seed n k : ℕ) → k < n → IsWithin n (height_at seed n k)
height_within seed n k low =
    let within : k < length (order seed n) = omega (arith, low, length-exchanged seed n (n - 1)) in
    heights_within n (height_at seed n k) (Contains-permutation (order seed n) (heights_upto n) (height_at seed n k) (IsPermutation-sym (heights_upto n) (order seed n) (is_order seed n (omega (arith, low)))) (k, within, get_or_from_slice_get (order seed n) k (height_at seed n k) (height_at seed n k) (slice_get-get_or (order seed n) k 0 within)))

pub state_fits : (seed k : ℕ) → IsNumber seed → IsNumber (state_after seed k)
unfolding state_after
state_fits seed zero fits = fits
state_fits seed (suc k) fits = omega arith

restart_within : (seed n k : ℕ) → IsNumber seed → AllByRecursion (IsStepWithin n) (restart seed n k)
restart_within seed n k fits = by (k % 16 == 0)
  where
    by : (b : Bool) → AllByRecursion (IsStepWithin n) (if b then Crash (drawn seed (2 * n - 1 + k / 16)) ∷ Open ∷ [] else [])
    by true = (omega (arith, state_fits seed (2 * n - 1 + k / 16) fits), (tt, tt))
    by false = tt

steps_within : (seed n k : ℕ) → IsNumber seed → k ≤ n → AllByRecursion (IsStepWithin n) (steps_upto seed n k)
unfolding steps_upto
steps_within seed n zero fits low = (tt, tt)
steps_within seed n (suc k) fits low =
    let within : IsWithin n (height_at seed n k) = height_within seed n k (omega (arith, low)) in
    AllByRecursion-append (IsStepWithin n) (steps_upto seed n k) (height_steps seed n k) (steps_within seed n k fits (omega (arith, low))) (within, (within, restart_within seed n (k + 1) fits))

pub plan_within : (seed n : ℕ) → IsNumber seed → AllByRecursion (IsStepWithin n) (plan seed n)
plan_within seed n fits = steps_within seed n n fits (omega arith)

-- what holds of each holds of the one at a place
pub all_at : {T : Type 0} (P : T → Type 0) (xs : List T) (i : ℕ) (d : T) → AllByRecursion P xs → i < length xs → P (get_or xs i d)
all_at P [] i d all low = absurd (omega (arith, low))
all_at P (x ∷ xs) zero d all low = all.0
all_at P (x ∷ xs) (suc i) d all low = all_at P xs i d all.1 (omega (arith, low))
