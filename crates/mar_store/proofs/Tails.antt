-- What ranges that ascend tell of a height stands in those of them that don't end below it.
use Rattle.std.proofs.Common.{◌≡◌, inl, inr, subst, None, Some, ℕ, zero, suc, ◌+◌, ◌<◌, ◌≤◌, List, [], ◌∷◌, ◌++◌, length, get_or, drop, max, refl, sym, ap, ◌∙◌, arith, add-one}
use Rattle.std.specs.Prelude.{option_map, slice_get}
use Rattle.std.proofs.lemmas.Bool.{cases_lt}
use Rattle.std.proofs.lemmas.Bool.Decides.{nat_tests}
use Rattle.mar_store.specs.Gaps.{missing_from, next_start, range_end, ranges_from}
use Rattle.mar_store.specs.Ranges.{Range, in_ranges}
use Rattle.mar_store.specs.Spans.{range_of, ranges_of, AscendFrom, EndsFrom}
use Rattle.mar_store.specs.declared.range_set.HeightSpan.{HeightSpan}
use Rattle.mar_store.proofs.Missing.{numbers_none}
use Rattle.mar_store.proofs.SpanEdits.{at_place, low_there}

-- one that ends below the height is left out, and one that doesn't is the first that stays
left_out : (r : Range) (rs : List Range) (h : ℕ) → r.to < h → ranges_from (r ∷ rs) h ≡ ranges_from rs h
left_out r rs h below = grind (arith, nat_tests)

stays : (r : Range) (rs : List Range) (h : ℕ) → h ≤ r.to → ranges_from (r ∷ rs) h ≡ r ∷ rs
stays r rs h above = grind (arith, nat_tests)

pub passed : (low h : ℕ) (xs : List HeightSpan) (i : ℕ) (x : HeightSpan) → i < length xs → x ≡ get_or xs i x → x.to < h → AscendFrom low (ranges_of xs) → ranges_from (drop (suc i) (ranges_of xs)) h ≡ ranges_from (ranges_of xs) h
passed low h [] i x lt is past ascend = absurd (omega arith)
passed low h (y ∷ ys) zero x lt is past ascend = sym (left_out (range_of y) (ranges_of ys) h (rw is at past))
passed low h (y ∷ ys) (suc i) x lt is past ascend =
    let higher = low_there (y.to + 2) ys i x (omega arith) is ascend.2 in
    passed (y.to + 2) h ys i x (omega arith) is past ascend.2 ∙ sym (left_out (range_of y) (ranges_of ys) h (omega (arith, higher, past)))

pub whole : (h : ℕ) (rs : List Range) → EndsFrom h rs → ranges_from rs h ≡ rs
whole h [] ends = refl
whole h (r ∷ rs) ends = stays r rs h ends

pub ends : (h : ℕ) (rs : List Range) → EndsFrom h (ranges_from rs h)
ends h [] = tt
ends h (r ∷ rs) = elim (cases_lt r.to h) [
  | inl below ↦ rw (left_out r rs h below) (ends h rs)
  | inr above ↦ rw (stays r rs h above) above
]

-- whether a height is held

pub held : (h : ℕ) (rs : List Range) → in_ranges (ranges_from rs h) h ≡ in_ranges rs h
held h [] = refl
held h (r ∷ rs) = elim (cases_lt r.to h) [
  | inl below ↦ ap (λ qs. in_ranges qs h) (left_out r rs h below) ∙ (held h rs ∙ sym (past below))
  | inr above ↦ ap (λ qs. in_ranges qs h) (stays r rs h above)
]
  where
    past : r.to < h → in_ranges (r ∷ rs) h ≡ in_ranges rs h
    past below = grind (arith, nat_tests)

-- the end of the range that holds a height, and the start of the next one

ended_before : (h : ℕ) (r : Range) (rs : List Range) → r.to < h → range_end (r ∷ rs) h ≡ range_end rs h
ended_before h r rs below = grind (arith, nat_tests)

ended_here : (h : ℕ) (r : Range) (rs : List Range) → r.from ≤ h → h ≤ r.to → range_end (r ∷ rs) h ≡ Some r.to
ended_here h r rs low high = grind (arith, nat_tests)

ended_above : (h : ℕ) (r : Range) (rs : List Range) → h < r.from → range_end (r ∷ rs) h ≡ range_end rs h
ended_above h r rs under = grind (arith, nat_tests)

started_before : (h : ℕ) (r : Range) (rs : List Range) → r.from ≤ h → next_start (r ∷ rs) h ≡ next_start rs h
started_before h r rs low = grind (arith, nat_tests)

started_here : (h : ℕ) (r : Range) (rs : List Range) → h < r.from → next_start (r ∷ rs) h ≡ Some r.from
started_here h r rs under = grind (arith, nat_tests)

end-tail : (h : ℕ) (rs : List Range) → range_end (ranges_from rs h) h ≡ range_end rs h
end-tail h [] = refl
end-tail h (r ∷ rs) = elim (cases_lt r.to h) [
  | inl below ↦ ap (λ qs. range_end qs h) (left_out r rs h below) ∙ (end-tail h rs ∙ sym (ended_before h r rs below))
  | inr above ↦ ap (λ qs. range_end qs h) (stays r rs h above)
]

start-tail : (low h : ℕ) (rs : List Range) → AscendFrom low rs → next_start (ranges_from rs h) h ≡ next_start rs h
start-tail low h [] up = refl
start-tail low h (r ∷ rs) up = elim (cases_lt r.to h) [
  | inl below ↦ ap (λ qs. next_start qs h) (left_out r rs h below) ∙ (start-tail (r.to + 2) h rs up.2 ∙ sym (started_before h r rs (let ordered : r.from ≤ r.to = up.1 in omega arith)))
  | inr above ↦ ap (λ qs. next_start qs h) (stays r rs h above)
]

tail-ascends : (low h : ℕ) (rs : List Range) → AscendFrom low rs → AscendFrom 0 (ranges_from rs h)
tail-ascends low h [] up = tt
tail-ascends low h (r ∷ rs) up = elim (cases_lt r.to h) [
  | inl below ↦ rw (left_out r rs h below) (tail-ascends (r.to + 2) h rs up.2)
  | inr above ↦ rw (stays r rs h above) (omega arith, up.1, up.2)
]

-- ranges that begin above a height don't hold it
no-end : (low h : ℕ) (rs : List Range) → AscendFrom low rs → h < low → range_end rs h ≡ None
no-end low h [] up under = refl
no-end low h (r ∷ rs) up under = ended_above h r rs (omega (arith, up.0)) ∙ no-end (r.to + 2) h rs up.2 (omega (arith, up.0, up.1))

-- no range is left
pub none_ends : (h k : ℕ) (rs : List Range) → drop k rs ≡ ranges_from rs h → drop k rs ≡ [] → None ≡ range_end rs h
none_ends h k rs rest none = ap (λ qs. range_end qs h) (sym none ∙ rest) ∙ end-tail h rs

pub none_starts : (h k : ℕ) (rs : List Range) → AscendFrom 0 rs → drop k rs ≡ ranges_from rs h → drop k rs ≡ [] → None ≡ next_start rs h
none_starts h k rs up rest none = ap (λ qs. next_start qs h) (sym none ∙ rest) ∙ start-tail 0 h rs up

pub dropped : (xs : List HeightSpan) (k : ℕ) → length xs ≤ k → drop k (ranges_of xs) ≡ []
dropped [] zero past = refl
dropped [] (suc k) past = refl
dropped (x ∷ xs) zero past = absurd (omega arith)
dropped (x ∷ xs) (suc k) past = dropped xs k (omega arith)

-- the first that is left begins above the height
pub above_ends : (h k : ℕ) (xs : List HeightSpan) (x : HeightSpan) → k < length xs → x ≡ get_or xs k x → AscendFrom 0 (ranges_of xs) → drop k (ranges_of xs) ≡ ranges_from (ranges_of xs) h → h < x.from → None ≡ range_end (ranges_of xs) h
above_ends h k xs x lt is up rest under =
    let first = at_place xs k x lt is in
    let ascends : AscendFrom 0 (range_of x ∷ drop (k + 1) (ranges_of xs)) = subst (AscendFrom 0) (sym rest ∙ first) (tail-ascends 0 h (ranges_of xs) up) in
    sym (no-end (h + 1) h (range_of x ∷ drop (k + 1) (ranges_of xs)) (omega (arith, under), ascends.1, ascends.2) (omega arith)) ∙ (ap (λ qs. range_end qs h) (sym first ∙ rest) ∙ end-tail h (ranges_of xs))

pub above_starts : (h k : ℕ) (xs : List HeightSpan) (x : HeightSpan) → k < length xs → x ≡ get_or xs k x → AscendFrom 0 (ranges_of xs) → drop k (ranges_of xs) ≡ ranges_from (ranges_of xs) h → h < x.from → Some x.from ≡ next_start (ranges_of xs) h
above_starts h k xs x lt is up rest under =
    sym (started_here h (range_of x) (drop (k + 1) (ranges_of xs)) under) ∙ (ap (λ qs. next_start qs h) (sym (at_place xs k x lt is) ∙ rest) ∙ start-tail 0 h (ranges_of xs) up)

-- the first that is left has the height
pub within_ends : (h k : ℕ) (xs : List HeightSpan) (x : HeightSpan) → k < length xs → x ≡ get_or xs k x → drop k (ranges_of xs) ≡ ranges_from (ranges_of xs) h → x.from ≤ h → Some x.to ≡ range_end (ranges_of xs) h
within_ends h k xs x lt is rest low =
    let first = at_place xs k x lt is in
    let high : EndsFrom h (range_of x ∷ drop (k + 1) (ranges_of xs)) = subst (EndsFrom h) (sym rest ∙ first) (ends h (ranges_of xs)) in
    sym (ended_here h (range_of x) (drop (k + 1) (ranges_of xs)) low high) ∙ (ap (λ qs. range_end qs h) (sym first ∙ rest) ∙ end-tail h (ranges_of xs))

next-first : (low h : ℕ) (xs : List HeightSpan) → AscendFrom low (ranges_of xs) → h < low → next_start (ranges_of xs) h ≡ option_map (λ s. s.from) (slice_get xs 0)
next-first low h [] up under = refl
next-first low h (x ∷ xs) up under = started_here h (range_of x) (ranges_of xs) (omega (arith, up.0))

next-at : (low h k : ℕ) (xs : List HeightSpan) → k < length xs → AscendFrom low (ranges_of xs) → EndsFrom h (drop k (ranges_of xs)) → next_start (drop (suc k) (ranges_of xs)) h ≡ option_map (λ s. s.from) (slice_get xs (suc k))
next-at low h k [] lt up high = absurd (omega arith)
next-at low h zero (x ∷ xs) lt up high = next-first (x.to + 2) h xs up.2 (omega (arith, high))
next-at low h (suc k) (x ∷ xs) lt up high = next-at (x.to + 2) h k xs (omega arith) up.2 high

pub within_starts : (h k : ℕ) (xs : List HeightSpan) (x : HeightSpan) → k < length xs → x ≡ get_or xs k x → AscendFrom 0 (ranges_of xs) → drop k (ranges_of xs) ≡ ranges_from (ranges_of xs) h → x.from ≤ h → option_map (λ s. s.from) (slice_get xs (k + 1)) ≡ next_start (ranges_of xs) h
within_starts h k xs x lt is up rest low =
    let high : EndsFrom h (drop k (ranges_of xs)) = rw rest (ends h (ranges_of xs)) in
    let next : next_start (drop (k + 1) (ranges_of xs)) h ≡ option_map (λ s. s.from) (slice_get xs (k + 1)) = rw add-one (next-at 0 h k xs lt up high) in
    sym next
    ∙ (sym (started_before h (range_of x) (drop (k + 1) (ranges_of xs)) low) ∙ (ap (λ qs. next_start qs h) (sym (at_place xs k x lt is) ∙ rest) ∙ start-tail 0 h (ranges_of xs) up))

-- what is missing

pub missing_tail : (low start : ℕ) (rs : List Range) → AscendFrom low rs → missing_from (ranges_from rs start) start ≡ missing_from rs start
missing_tail low start [] up = refl
missing_tail low start (r ∷ rs) up = elim (cases_lt r.to start) [
  | inl below ↦ ap (λ qs. missing_from qs start) (left_out r rs start below) ∙ (missing_tail (r.to + 2) start rs up.2 ∙ sym (past below))
  | inr above ↦ ap (λ qs. missing_from qs start) (stays r rs start above)
]
  where
    same : r.to < start → max start (r.to + 1) ≡ start
    same below = omega arith

    past : r.to < start → missing_from (r ∷ rs) start ≡ missing_from rs start
    past below =
        ap (λ ns. ns ++ missing_from rs (max start (r.to + 1))) (numbers_none start r.from (let ordered : r.from ≤ r.to = up.1 in omega arith)) ∙ ap (missing_from rs) (same below)
