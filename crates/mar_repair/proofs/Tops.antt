-- Which held block is right above the lowest gap, where heights fit, and what is missing.
use Rattle.std.proofs.Common.{◌≡◌, ◌∷◌, [], List, Option, None, Some, IfSome, Bool, true, false, if◌then◌else◌, nat_lt, ℕ, ◌+◌, ◌-◌, ◌<◌, ◌≤◌, Contains, IsFalse, refl, sym, ◌∙◌, ap, subst, arith, max, min, find, option_map, take, zero, suc, inl, inr, ◌⊎◌}
use Rattle.std.proofs.lemmas.Bool.Decides.{nat_tests}
use Rattle.std.specs.List.{AllByRecursion, range_with_len}
use Rattle.std.specs.Prelude.{◌++◌}
use Rattle.mar_store.specs.Changes.{heights}
use Rattle.mar_store.specs.Gaps.{AscendAbove, missing_from, missing_items, next_start, numbers}
use Rattle.mar_store.specs.Kept.{At, has_height}
use Rattle.mar_store.specs.Ranges.{Range, ranges}
use Rattle.mar_cert.specs.Block.{Block}
use Rattle.mar_model.proofs.RepairLaw.{upper_gap}
use Rattle.mar_store.proofs.MissingHeights.{missing_ascend}

-- where no range begins above a height, none begins above the next
none_above : (rs : List Range) (n : ℕ) → next_start rs n ≡ None → next_start rs (n + 1) ≡ None
none_above [] n none = refl
none_above (r ∷ rs) n none = by (nat_lt n r.from) refl (nat_lt (n + 1) r.from) refl (λ e. none_above rs n e) none
  where
    by : (p : Bool) → nat_lt n r.from ≡ p → (q : Bool) → nat_lt (n + 1) r.from ≡ q → (next_start rs n ≡ None → next_start rs (n + 1) ≡ None) → option_map (λ x. x.from) (if p then Some r else find (λ x. nat_lt n x.from) rs) ≡ None → option_map (λ x. x.from) (if q then Some r else find (λ x. nat_lt (n + 1) x.from) rs) ≡ None
    by true is q is' rest e = absurd cc
    by false is true is' rest e = absurd (grind (arith, nat_tests))
    by false is false is' rest e = rest e

pub start_after : (rs : List Range) (n s : ℕ) → next_start rs n ≡ Some s → n < s
start_after [] n s is = absurd cc
start_after (r ∷ rs) n s is = by (nat_lt n r.from) refl (λ e. start_after rs n s e) is
  where
    own : ◌≡◌ {A = Option ℕ} (Some r.from) (Some s) → r.from ≡ s
    own e = cc

    first : nat_lt n r.from ≡ true → n < r.from
    first above = grind (arith, nat_tests)

    by : (p : Bool) → nat_lt n r.from ≡ p → (next_start rs n ≡ Some s → n < s) → option_map (λ x. x.from) (if p then Some r else find (λ x. nat_lt n x.from) rs) ≡ Some s → n < s
    by true above rest e = subst (λ k. n < k) (own e) (first above)
    by false above rest e = rest e

-- the next one above the processed height, where that is the last that fits too
pub next_after : (rs : List Range) (last p from : ℕ) (o : Option ℕ) → o ≡ next_start rs from → min (p + 1) last ≡ from → p ≤ last → IfSome o (λ s. s ≤ last) → o ≡ next_start rs (p + 1)
next_after rs last p from o is from_is low fits = by (nat_lt p last) refl o is fits
  where
    next : nat_lt p last ≡ true → from ≡ p + 1
    next less = let below : p < last = grind (arith, nat_tests) in omega (arith, below, from_is)

    at_last : nat_lt p last ≡ false → p ≡ last
    at_last more = let above : last ≤ p = grind (arith, nat_tests) in omega (arith, above, low)

    by : (c : Bool) → nat_lt p last ≡ c → (q : Option ℕ) → q ≡ next_start rs from → IfSome q (λ s. s ≤ last) → q ≡ next_start rs (p + 1)
    by true less q found fit = found ∙ ap (next_start rs) (next less)
    by false more None found fit = sym (none_above rs p (subst (λ k. next_start rs k ≡ None) (omega (arith, at_last more, from_is)) (sym found)))
    by false more (Some s) found fit = absurd (let above = start_after rs from s (sym found) in omega (arith, above, fit, at_last more, from_is))

-- MISSING

none_missing : (rs : List Range) (n start : ℕ) → next_start rs n ≡ None → n ≤ start → missing_from rs start ≡ []
none_missing [] n start none above = refl
none_missing (r ∷ rs) n start none above = by (nat_lt n r.from) refl (λ e. none_missing rs n (max start (r.to + 1)) e (omega (arith, above))) none
  where
    low : nat_lt n r.from ≡ false → r.from - start ≡ 0
    low is = let below : r.from ≤ n = grind (arith, nat_tests) in omega (arith, below, above)

    by : (p : Bool) → nat_lt n r.from ≡ p → (next_start rs n ≡ None → missing_from rs (max start (r.to + 1)) ≡ []) → option_map (λ x. x.from) (if p then Some r else find (λ x. nat_lt n x.from) rs) ≡ None → missing_from (r ∷ rs) start ≡ []
    by true is rest e = absurd cc
    by false is rest e = ap (λ k. range_with_len start k ++ missing_from rs (max start (r.to + 1))) (low is) ∙ rest e

pub nothing_missing : (rs : List Range) (n most : ℕ) → None ≡ next_start rs n → [] ≡ missing_items rs n most
nothing_missing rs n most none = by most (sym (none_missing rs n n (sym none) (omega arith)))
  where
    by : (m : ℕ) → [] ≡ missing_from rs n → [] ≡ take m (missing_from rs n)
    by zero is = subst (λ xs. [] ≡ take zero xs) is refl
    by (suc m) is = subst (λ xs. [] ≡ take (suc m) xs) is refl

all_above : (p low : ℕ) (xs : List ℕ) (m : ℕ) → p < low → AscendAbove low xs → AllByRecursion (λ h. p < h) (take m xs)
all_above p low xs zero above ascend = tt
all_above p low [] (suc m) above ascend = tt
all_above p low (x ∷ xs) (suc m) above ascend = (omega (arith, above, ascend.0), all_above p (x + 1) xs m (omega (arith, above, ascend.0)) ascend.1)

-- right below it none is held
pub gap_below : (held : List (At Block)) (from s : ℕ) → next_start (ranges (heights held)) from ≡ Some s → has_height held (s - 1) ≡ false
gap_below held from s is = (upper_gap held from s is).1

pub missing_above : {T : Type 0} (held : List (At T)) (p most : ℕ) → AllByRecursion (λ h. p < h) (missing_items (ranges (heights held)) (p + 1) most)
missing_above held p most = all_above p (p + 1) (missing_from (ranges (heights held)) (p + 1)) most (omega arith) (missing_ascend (heights held) (p + 1))
