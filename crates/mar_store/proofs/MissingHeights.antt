-- The missing heights of ranges are those of the heights that the ranges hold.
use Rattle.std.proofs.Common.{◌≡◌, inl, inr, ⊎_elim, ℕ, zero, suc, ◌+◌, ◌-◌, ◌<◌, ◌≤◌, List, [], ◌∷◌, ◌++◌, max, Contains, sym, ◌∙◌, subst, arith, le_refl}
use Rattle.std.specs.List.{range_with_len}
use Rattle.std.proofs.lemmas.Bool.{cases_lt}
use Rattle.std.proofs.lemmas.List.Elements.{Contains-append_cases, Contains-append_left, Contains-append_right}
use Rattle.std.proofs.lemmas.List.FromFn.{get_or-range_with_len, length-range_with_len}
use Rattle.mar_store.specs.Ranges.{Range, ranges}
use Rattle.mar_store.proofs.RangeLemmas.{IsInRanges}
use Rattle.mar_store.proofs.RangeMembers.{AscendFrom, bound_of, ranges-ascend, ranges-has, ranges-members}
use Rattle.mar_store.specs.Gaps.{AscendAbove, IsMissing, missing_from, numbers}

numbers-has : (from to h : ℕ) → from ≤ h → h < to → Contains (numbers from to) h
numbers-has from to h above below = (h - from, subst (λ n. h - from < n) (sym (length-range_with_len from (to - from))) (within from to h above below), get_or-range_with_len from (to - from) (h - from) h (within from to h above below) ∙ back from h above)
  where
    within : (a b c : ℕ) → a ≤ c → c < b → c - a < b - a
    within a b c p q = omega arith

    back : (a c : ℕ) → a ≤ c → a + (c - a) ≡ c
    back a c p = omega arith

numbers-members : (from to h : ℕ) → Contains (numbers from to) h → (from ≤ h) × (h < to)
numbers-members from to h (k, lt, e) = placed from to h k short (sym (get_or-range_with_len from (to - from) k h short) ∙ e)
  where
    short : k < to - from
    short = subst (λ n. k < n) (length-range_with_len from (to - from)) lt

    placed : (a b c i : ℕ) → i < b - a → a + i ≡ c → (a ≤ c) × (c < b)
    placed a b c i p q = (omega arith, omega arith)

-- a height from a start on that no range holds, below one that some range holds
abbrev IsLacking : List Range → ℕ → ℕ → Type 0
IsLacking rs start h = (start ≤ h) × (IsInRanges rs h → ⊥) × ((k : ℕ) × IsInRanges rs k × (h < k))

lacking-only : (low start h : ℕ) (rs : List Range) → AscendFrom low rs → Contains (missing_from rs start) h → IsLacking rs start h
lacking-only low start h [] up (k, lt, e) = absurd (omega arith)
lacking-only low start h (r ∷ rs) up has = ⊎_elim (λ here. first (numbers-members start r.from h here)) (λ there. later (lacking-only (r.to + 2) (max start (r.to + 1)) h rs up.2 there)) (Contains-append_cases (numbers start r.from) (missing_from rs (max start (r.to + 1))) h has)
  where
    first : (start ≤ h) × (h < r.from) → IsLacking (r ∷ rs) start h
    first (above, below) = (above, lacks, (r.from, inl (le_refl _, up.1), below))
      where
        lacks : IsInRanges (r ∷ rs) h → ⊥
        lacks (inl (from, to)) = omega arith
        lacks (inr inside) = let far : r.to + 2 ≤ h = bound_of (r.to + 2) h rs up.2 inside in let ordered : r.from ≤ r.to = up.1 in omega arith

    later : IsLacking rs (max start (r.to + 1)) h → IsLacking (r ∷ rs) start h
    later (above, lacks, (k, inside, below)) = (omega arith, both, (k, inr inside, below))
      where
        both : IsInRanges (r ∷ rs) h → ⊥
        both (inl (from, to)) = omega arith
        both (inr there) = lacks there

lacking-all : (low start h : ℕ) (rs : List Range) → AscendFrom low rs → IsLacking rs start h → Contains (missing_from rs start) h
lacking-all low start h [] up (above, lacks, (k, inside, below)) = absurd inside
lacking-all low start h (r ∷ rs) up (above, lacks, (k, inside, below)) =
    ⊎_elim first (λ ge. past (lacking-all (r.to + 2) (max start (r.to + 1)) h rs up.2 (later (beyond ge)))) (cases_lt h r.from)
  where
    first : h < r.from → Contains (missing_from (r ∷ rs) start) h
    first lt = Contains-append_left (numbers start r.from) (missing_from rs (max start (r.to + 1))) h (numbers-has start r.from h above lt)

    beyond : r.from ≤ h → r.to < h
    beyond ge = ⊎_elim (λ lt. lt) (λ le. absurd (lacks (inl (ge, le)))) (cases_lt r.to h)

    rest : r.to < h → (j : ℕ) → h < j → IsInRanges (r ∷ rs) j → (m : ℕ) × IsInRanges rs m × (h < m)
    rest lt j under (inl (from, to)) = absurd (omega arith)
    rest lt j under (inr there) = (j, there, under)

    later : r.to < h → IsLacking rs (max start (r.to + 1)) h
    later lt = (omega arith, (λ there. lacks (inr there)), rest lt k below inside)

    past : Contains (missing_from rs (max start (r.to + 1))) h → Contains (missing_from (r ∷ rs) start) h
    past there = Contains-append_right (numbers start r.from) (missing_from rs (max start (r.to + 1))) h there

lower : (low high : ℕ) (xs : List ℕ) → low ≤ high → AscendAbove high xs → AscendAbove low xs
lower low high [] le up = tt
lower low high (x ∷ xs) le up = (let a : high ≤ x = up.0 in omega arith, up.1)

numbers-ascend : (a n : ℕ) (rest : List ℕ) → AscendAbove (a + n) rest → AscendAbove a (range_with_len a n ++ rest)
numbers-ascend a zero rest up = lower a (a + 0) rest (omega arith) up
numbers-ascend a (suc n) rest up = (le_refl a, numbers-ascend (a + 1) n rest (lower (a + 1 + n) (a + suc n) rest (omega arith) up))

missing-ascend : (low start : ℕ) (rs : List Range) → AscendFrom low rs → AscendAbove start (missing_from rs start)
missing-ascend low start [] up = tt
missing-ascend low start (r ∷ rs) up =
    numbers-ascend start (r.from - start) (missing_from rs (max start (r.to + 1)))
    (lower (start + (r.from - start)) (max start (r.to + 1)) (missing_from rs (max start (r.to + 1))) (let ordered : r.from ≤ r.to = up.1 in omega arith) (missing-ascend (r.to + 2) (max start (r.to + 1)) rs up.2))

pub missing_ascend : (heights : List ℕ) (start : ℕ) → AscendAbove start (missing_from (ranges heights) start)
missing_ascend heights start = missing-ascend 0 start (ranges heights) (ranges-ascend heights)

pub missing_only : (heights : List ℕ) (start h : ℕ) → Contains (missing_from (ranges heights) start) h → IsMissing heights start h
missing_only heights start h has = by (lacking-only 0 start h (ranges heights) (ranges-ascend heights) has)
  where
    by : IsLacking (ranges heights) start h → IsMissing heights start h
    by (above, lacks, (k, inside, below)) = record { from = above; lacks = λ there. lacks (ranges-has heights h there); above = k; held = ranges-members heights k inside; below = below }

pub missing_all : (heights : List ℕ) (start h : ℕ) → IsMissing heights start h → Contains (missing_from (ranges heights) start) h
missing_all heights start h is =
    lacking-all 0 start h (ranges heights) (ranges-ascend heights) (is.from, (λ inside. is.lacks (ranges-members heights h inside)), (is.above, ranges-has heights is.above is.held, is.below))
