-- The end of the last range of heights is the greatest height.
use Rattle.std.proofs.Common.{◌≡◌, ◌⊎◌, inl, inr, ◌<◌, ◌≤◌, ◌+◌, ◌-◌, ℕ, zero, suc, List, [], ◌∷◌, Option, Some, None, Contains, length, refl, ◌∙◌, ap, subst, arith}
use Rattle.std.proofs.lemmas.Bool.{cases_lt}
use Rattle.std.specs.Prelude.{option_map, slice_get}
use Rattle.mar_store.specs.Kept.{At}
use Rattle.mar_store.specs.Changes.{heights}
use Rattle.mar_store.specs.Named.{greatest_of, last_index}
use Rattle.mar_store.specs.Ranges.{Range, last_end, ranges}
use Rattle.mar_store.specs.Spans.{ranges_of}
use Rattle.mar_store.specs.declared.range_set.HeightSpan.{HeightSpan}
use Rattle.mar_store.proofs.RangeLemmas.{IsInRanges}
use Rattle.mar_store.proofs.RangeMembers.{AscendFrom, bound_of, ranges-ascend, ranges-members, ranges-has}

-- the last span of the code ends where the last range does
pub last_span : (spans : List HeightSpan) → last_end (ranges_of spans) ≡ option_map (λ s. s.to) (slice_get spans (length spans - 1))
last_span [] = refl
last_span (x ∷ []) = refl
last_span (x ∷ y ∷ ys) = let less : length (x ∷ y ∷ ys) - 1 ≡ suc (length (y ∷ ys) - 1) = omega arith in rw less (last_span (y ∷ ys))

some_is : {n m : ℕ} → Some n ≡ Some m → n ≡ m
some_is same = cc

end_in : (low t : ℕ) (rs : List Range) → AscendFrom low rs → last_end rs ≡ Some t → IsInRanges rs t
end_in low t [] up is = absurd cc
end_in low t (r ∷ []) up is = let same : r.to ≡ t = some_is is in let ordered : r.from ≤ r.to = up.1 in inl (omega arith, omega arith)
end_in low t (r ∷ s ∷ rs) up is = inr (end_in (r.to + 2) t (s ∷ rs) up.2 is)

end_above : (low t k : ℕ) (rs : List Range) → AscendFrom low rs → last_end rs ≡ Some t → IsInRanges rs k → k ≤ t
end_above low t k [] up is inside = absurd inside
end_above low t k (r ∷ []) up is (inl here) = let same : r.to ≡ t = some_is is in let below : k ≤ r.to = here.1 in omega arith
end_above low t k (r ∷ []) up is (inr later) = absurd later
end_above low t k (r ∷ s ∷ rs) up is (inl here) =
    let later : r.to + 2 ≤ t = bound_of (r.to + 2) t (s ∷ rs) up.2 (end_in (r.to + 2) t (s ∷ rs) up.2 is) in
    let below : k ≤ r.to = here.1 in
    omega arith
end_above low t k (r ∷ s ∷ rs) up is (inr later) = end_above (r.to + 2) t k (s ∷ rs) up.2 is later

end_some : (r : Range) (rs : List Range) → last_end (r ∷ rs) ≡ None → ⊥
end_some r [] none = cc
end_some r (s ∷ rs) none = end_some s rs none

greater_in : (h m : ℕ) (hs : List ℕ) (o : Option ℕ) → ((k : ℕ) → o ≡ Some k → Contains hs k) → greatest_of h o ≡ m → Contains (h ∷ hs) m
greater_in h m hs None rest is = (zero, omega arith, is)
greater_in h m hs (Some k) rest is = by (cases_lt h k)
  where
    by : (h < k) ⊎ (k ≤ h) → Contains (h ∷ hs) m
    by (inl below) = let there = rest k refl in let same : k ≡ m = omega (arith, is, below) in subst (λ t. Contains (h ∷ hs) t) same (suc there.0, omega (arith, there.1), there.2)
    by (inr above) = (zero, omega arith, omega (arith, is, above))

greatest_in : {T : Type 0} (xs : List (At T)) (m : ℕ) → last_index xs ≡ Some m → Contains (heights xs) m
greatest_in [] m is = absurd cc
greatest_in (x ∷ xs) m is = greater_in x.height m (heights xs) (last_index xs) (λ k some. greatest_in xs k some) (some_is is)

greater_above : (h m k : ℕ) (hs : List ℕ) (o : Option ℕ) → (o ≡ None → hs ≡ []) → ((n : ℕ) → o ≡ Some n → Contains hs k → k ≤ n) → greatest_of h o ≡ m → Contains (h ∷ hs) k → k ≤ m
greater_above h m k hs None empty rest is (zero, lt, e) = omega (arith, is, e)
greater_above h m k hs None empty rest is (suc i, lt, e) = absurd (let none : hs ≡ [] = empty refl in let within : i < length hs = omega arith in (let past : i < 0 = (rw none at within) in omega arith))
greater_above h m k hs (Some n) empty rest is (zero, lt, e) = omega (arith, is, e)
greater_above h m k hs (Some n) empty rest is (suc i, lt, e) = let below : k ≤ n = rest n refl (i, omega arith, e) in omega (arith, is, below)

none_empty : {T : Type 0} (xs : List (At T)) → last_index xs ≡ None → heights xs ≡ []
none_empty [] none = refl
none_empty (x ∷ xs) none = absurd cc

greatest_above : {T : Type 0} (xs : List (At T)) (m k : ℕ) → last_index xs ≡ Some m → Contains (heights xs) k → k ≤ m
greatest_above [] m k is has = absurd cc
greatest_above (x ∷ xs) m k is has = greater_above x.height m k (heights xs) (last_index xs) (none_empty xs) (λ n some there. greatest_above xs n k some there) (some_is is) has

-- the greatest height ends the last range
pub last_is_end : {T : Type 0} (xs : List (At T)) → last_end (ranges (heights xs)) ≡ last_index xs
last_is_end [] = refl
last_is_end {T} (x ∷ xs) = by (ranges (heights (x ∷ xs))) refl
  where
    m : ℕ
    m = greatest_of x.height (last_index xs)

    within : Contains (heights (x ∷ xs)) m
    within = greatest_in (x ∷ xs) m refl

    by : (rs : List Range) → ranges (heights (x ∷ xs)) ≡ rs → last_end (ranges (heights (x ∷ xs))) ≡ Some m
    by [] none = absurd (rw none at (ranges-has (heights (x ∷ xs)) m within))
    by (r ∷ rs) some = at_end (last_end (ranges (heights (x ∷ xs)))) refl
      where
        at_end : (o : Option ℕ) → last_end (ranges (heights (x ∷ xs))) ≡ o → last_end (ranges (heights (x ∷ xs))) ≡ Some m
        at_end None lacks = absurd (end_some r rs (rw some at lacks))
        at_end (Some t) is =
            let up = ranges-ascend (heights (x ∷ xs)) in
            let below : m ≤ t = end_above 0 t m (ranges (heights (x ∷ xs))) up is (ranges-has (heights (x ∷ xs)) m within) in
            let above : t ≤ m = greatest_above (x ∷ xs) m t refl (ranges-members (heights (x ∷ xs)) t (end_in 0 t (ranges (heights (x ∷ xs))) up is)) in
            let same : t ≡ m = omega arith in
            is ∙ ap Some same
