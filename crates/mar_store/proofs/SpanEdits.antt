-- One more height in ranges that ascend, and spans as ranges.
use Rattle.std.proofs.Common.{◌≡◌, ℕ, zero, suc, ◌+◌, ◌<◌, ◌≤◌, List, [], ◌∷◌, ◌++◌, length, get_or, set, take, drop, refl, ap, sym, ◌∙◌, arith, add-one, suc-add, inl, inr, Bool, false, IsTrue, Result, Ok, Err, OnOk, OnErr}
use Rattle.std.proofs.lemmas.List.{drop-map, get_or_default, take-append-drop}
use Rattle.std.proofs.lemmas.Bool.{both_ways, cases_lt, cases_eq}
use Rattle.std.proofs.lemmas.Bool.Decides.{nat_tests}
use Rattle.std.specs.List.{insert, remove}
use Rattle.mar_store.specs.Ranges.{Range, with_height}
use Rattle.mar_store.specs.Spans.{range_of, ranges_of, AscendFrom, AreOrdered, IsReached, IsAlone, IsFollowed, BeginsAfter}
use Rattle.mar_store.specs.declared.range_set.HeightSpan.{HeightSpan}

pub alone : (h : ℕ) (rs : List Range) → IsAlone h rs → with_height h rs ≡ record { from = h; to = h } ∷ rs
alone h [] far = refl
alone h (r ∷ rs) far = grind (arith, nat_tests)

pub before : (h : ℕ) (r : Range) (rs : List Range) → r.from ≡ h + 1 → with_height h (r ∷ rs) ≡ record { from = h; to = r.to } ∷ rs
before h r rs next = grind (arith, nat_tests)

pub within : (h : ℕ) (r : Range) (rs : List Range) → r.from ≤ h → h ≤ r.to → with_height h (r ∷ rs) ≡ r ∷ rs
within h r rs low high = grind (arith, nat_tests)

pub after : (h : ℕ) (r : Range) (rs : List Range) → IsFollowed h (r ∷ rs) → (BeginsAfter h rs → ⊥) → with_height h (r ∷ rs) ≡ record { from = r.from; to = h } ∷ rs
after h r [] follows apart = grind (arith, nat_tests)
after h r (s ∷ rs) follows apart = grind (arith, nat_tests)

pub between : (h : ℕ) (r s : Range) (rs : List Range) → IsFollowed h (r ∷ (s ∷ rs)) → s.from ≡ h + 1 → with_height h (r ∷ (s ∷ rs)) ≡ record { from = r.from; to = s.to } ∷ rs
between h r s rs follows joined = grind (arith, nat_tests)

past : (h : ℕ) (r : Range) (rs : List Range) → r.from ≤ r.to → r.to + 1 < h → with_height h (r ∷ rs) ≡ r ∷ with_height h rs
past h r rs ordered above = grind (arith, nat_tests)

ascend_below : (low h : ℕ) (r : Range) (rs : List Range) → AscendFrom low (r ∷ rs) → low ≤ h → h < r.from → AscendFrom low (with_height h (r ∷ rs))
ascend_below low h r rs ascend above below =
    elim (cases_eq r.from (h + 1)) [
      | inl next ↦ rw (before h r rs next) (above, omega arith, ascend.2)
      | inr far ↦ rw (alone h (r ∷ rs) (omega arith)) (above, omega arith, (omega arith, ascend.1, ascend.2))
    ]

ascend_after : (low h : ℕ) (r : Range) (rs : List Range) → AscendFrom low (r ∷ rs) → h ≡ r.to + 1 → AscendFrom low (with_height h (r ∷ rs))
ascend_after low h r [] ascend follows = rw (after h r [] (ascend.1, follows) (λ e. e)) (ascend.0, omega arith, tt)
ascend_after low h r (s ∷ rs) ascend follows =
    elim (cases_eq s.from (h + 1)) [
      | inl meets ↦ rw (between h r s rs (ascend.1, follows) meets) (ascend.0, omega arith, ascend.2.2)
      | inr apart ↦ rw (after h r (s ∷ rs) (ascend.1, follows) apart) (ascend.0, omega arith, (omega arith, ascend.2.1, ascend.2.2))
    ]

-- the ranges stay as they are kept
pub ascend_with : (low h : ℕ) (rs : List Range) → AscendFrom low rs → low ≤ h → AscendFrom low (with_height h rs)
ascend_with low h [] ascend above = (above, omega arith, tt)
ascend_with low h (r ∷ rs) ascend above =
    elim (cases_lt h r.from) [
      | inl below ↦ ascend_below low h r rs ascend above below
      | inr from ↦ elim (cases_lt r.to h) [
        | inr inside ↦ rw (within h r rs from inside) ascend
        | inl past_end ↦ elim (cases_eq h (r.to + 1)) [
          | inl follows ↦ ascend_after low h r rs ascend follows
          | inr far ↦ rw (past h r rs (omega arith) (omega arith)) (ascend.0, ascend.1, ascend_with (r.to + 2) h rs ascend.2 (omega arith))
        ]
      ]
    ]

-- ---- spans

pub at_place : (xs : List HeightSpan) (i : ℕ) (x : HeightSpan) → i < length xs → x ≡ get_or xs i x → drop i (ranges_of xs) ≡ range_of x ∷ drop (i + 1) (ranges_of xs)
at_place [] i x lt is = absurd (omega arith)
at_place (y ∷ ys) zero x lt is = rw is refl
at_place (y ∷ ys) (suc i) x lt is = rw (suc-add) (at_place ys i x (omega arith) is)

inserted : (xs : List HeightSpan) (i : ℕ) (y : HeightSpan) → ranges_of (insert xs i y) ≡ take i (ranges_of xs) ++ range_of y ∷ drop i (ranges_of xs)
inserted xs zero y = refl
inserted [] (suc i) y = refl
inserted (x ∷ xs) (suc i) y = ap (λ rs. range_of x ∷ rs) (inserted xs i y)

replaced : (xs : List HeightSpan) (i : ℕ) (y : HeightSpan) → i < length xs → ranges_of (set xs i y) ≡ take i (ranges_of xs) ++ range_of y ∷ drop (suc i) (ranges_of xs)
replaced [] i y lt = absurd (omega arith)
replaced (x ∷ xs) zero y lt = refl
replaced (x ∷ xs) (suc i) y lt = ap (λ rs. range_of x ∷ rs) (replaced xs i y (omega arith))

joined : (xs : List HeightSpan) (i : ℕ) (y : HeightSpan) → i < length xs → ranges_of (set (remove xs (suc i)) i y) ≡ take i (ranges_of xs) ++ range_of y ∷ drop (suc (suc i)) (ranges_of xs)
joined [] i y lt = absurd (omega arith)
joined (x ∷ xs) zero y lt = ap (λ (rs : List Range). range_of y ∷ rs) (sym (drop-map range_of 1 xs))
joined (x ∷ xs) (suc i) y lt = ap (λ rs. range_of x ∷ rs) (joined xs i y (omega arith))

pub put_alone : (xs : List HeightSpan) (i h : ℕ) → IsAlone h (drop i (ranges_of xs)) → ranges_of (insert xs i (record { from = h; to = h })) ≡ take i (ranges_of xs) ++ with_height h (drop i (ranges_of xs))
put_alone xs i h far = rw (alone h _ far) (inserted xs i _)

pub put_before : (xs : List HeightSpan) (i h : ℕ) (x : HeightSpan) → i < length xs → x ≡ get_or xs i x → x.from ≡ h + 1 → ranges_of (set xs i (record { from = h; to = x.to })) ≡ take i (ranges_of xs) ++ with_height h (drop i (ranges_of xs))
put_before xs i h x lt is next = rw (at_place xs i x lt is, before h (range_of x) _ next, add-one) (replaced xs i _ lt)

pub put_within : (xs : List HeightSpan) (i h : ℕ) (x : HeightSpan) → i < length xs → x ≡ get_or xs i x → x.from ≤ h → h ≤ x.to → ranges_of xs ≡ take i (ranges_of xs) ++ with_height h (drop i (ranges_of xs))
put_within xs i h x lt is low high = rw (at_place xs i x lt is, within h (range_of x) _ low high, ← at_place xs i x lt is) (sym (take-append-drop i (ranges_of xs)))

pub put_after : (xs : List HeightSpan) (i h : ℕ) (x : HeightSpan) → i < length xs → x ≡ get_or xs i x → IsFollowed h (drop i (ranges_of xs)) → (BeginsAfter h (drop (i + 1) (ranges_of xs)) → ⊥) → ranges_of (set xs i (record { from = x.from; to = h })) ≡ take i (ranges_of xs) ++ with_height h (drop i (ranges_of xs))
put_after xs i h x lt is follows apart =
    let followed = rw (at_place xs i x lt is) at follows in
    rw (at_place xs i x lt is, after h (range_of x) _ followed apart, add-one) (replaced xs i _ lt)

pub put_between : (xs : List HeightSpan) (i h : ℕ) (x y : HeightSpan) → i + 1 < length xs → x ≡ get_or xs i x → y ≡ get_or xs (i + 1) y → IsFollowed h (drop i (ranges_of xs)) → BeginsAfter h (drop (i + 1) (ranges_of xs))
    → ranges_of (set (remove xs (i + 1)) i (record { from = x.from; to = y.to })) ≡ take i (ranges_of xs) ++ with_height h (drop i (ranges_of xs))
put_between xs i h x y lt is_x is_y follows begins =
    let at_x = at_place xs i x (omega arith) is_x in
    let at_y = at_place xs (i + 1) y lt is_y in
    let followed : IsFollowed h (range_of x ∷ (range_of y ∷ drop (i + 1 + 1) (ranges_of xs))) = (rw at_x at follows) in
    let next = rw at_y at begins in
    rw (at_x, at_y, between h (range_of x) (range_of y) (drop (i + 1 + 1) (ranges_of xs)) followed next, add-one, add-one) (joined xs i _ (omega arith))

-- what the code asks of a place is what the ranges say there
pub followed_there : (xs : List HeightSpan) (i h : ℕ) (x : HeightSpan) → i < length xs → x ≡ get_or xs i x → x.from ≤ x.to → h ≡ x.to + 1 → IsFollowed h (drop i (ranges_of xs))
followed_there xs i h x lt is ordered follows = rw (at_place xs i x lt is) (ordered, follows)

pub begins_there : (xs : List HeightSpan) (i h : ℕ) (x : HeightSpan) → i < length xs → x ≡ get_or xs i x → x.from ≡ h + 1 → BeginsAfter h (drop i (ranges_of xs))
begins_there xs i h x lt is next = rw (at_place xs i x lt is) next

pub follows_there : (xs : List HeightSpan) (i h : ℕ) (x : HeightSpan) → i < length xs → x ≡ get_or xs i x → BeginsAfter h (drop i (ranges_of xs)) → x.from ≡ h + 1
follows_there xs i h x lt is begins = rw (at_place xs i x lt is) at begins

pub begins_within : (xs : List HeightSpan) (i h : ℕ) → BeginsAfter h (drop i (ranges_of xs)) → i < length xs
begins_within [] zero h begins = absurd begins
begins_within [] (suc i) h begins = absurd begins
begins_within (x ∷ xs) zero h begins = omega arith
begins_within (x ∷ xs) (suc i) h begins = let more = begins_within xs i h begins in omega arith

pub reached_there : (xs : List HeightSpan) (i h : ℕ) (x : HeightSpan) → i < length xs → x ≡ get_or xs i x → IsReached h (drop i (ranges_of xs)) → h ≤ x.to + 1
reached_there xs i h x lt is reached = rw (at_place xs i x lt is) at reached

pub alone_there : (xs : List HeightSpan) (i h : ℕ) (x : HeightSpan) → i < length xs → x ≡ get_or xs i x → h + 1 < x.from → IsAlone h (drop i (ranges_of xs))
alone_there xs i h x lt is far = rw (at_place xs i x lt is) far

pub ordered_there : (xs : List HeightSpan) (i : ℕ) (x : HeightSpan) → i < length xs → x ≡ get_or xs i x → AreOrdered (ranges_of xs) → x.from ≤ x.to
ordered_there [] i x lt is ordered = absurd (omega arith)
ordered_there (y ∷ ys) zero x lt is ordered = rw is ordered.0
ordered_there (y ∷ ys) (suc i) x lt is ordered = ordered_there ys i x (omega arith) is ordered.1

-- a height that is two or more above the end of a span stays behind it
pub low_there : (low : ℕ) (xs : List HeightSpan) (i : ℕ) (x : HeightSpan) → i < length xs → x ≡ get_or xs i x → AscendFrom low (ranges_of xs) → low ≤ x.to
low_there low [] i x lt is ascend = absurd (omega arith)
low_there low (y ∷ ys) zero x lt is ascend = rw is (omega (arith, ascend.0, ascend.1))
low_there low (y ∷ ys) (suc i) x lt is ascend = let above = low_there (y.to + 2) ys i x (omega arith) is ascend.2 in omega (arith, above, ascend.0, ascend.1)

pub apart_there : (low h : ℕ) (xs : List HeightSpan) (i : ℕ) (x : HeightSpan) → i < length xs → x ≡ get_or xs i x → x.to + 1 < h → AscendFrom low (ranges_of xs)
    → with_height h (ranges_of xs) ≡ take (suc i) (ranges_of xs) ++ with_height h (drop (suc i) (ranges_of xs))
apart_there low h [] i x lt is above ascend = absurd (omega arith)
apart_there low h (y ∷ ys) zero x lt is above ascend = past h (range_of y) (ranges_of ys) ascend.1 (rw is at above)
apart_there low h (y ∷ ys) (suc i) x lt is above ascend =
    let under = low_there (y.to + 2) ys i x (omega arith) is ascend.2 in
    past h (range_of y) (ranges_of ys) ascend.1 (omega arith) ∙ ap (λ rs. range_of y ∷ rs) (apart_there (y.to + 2) h ys i x (omega arith) is above ascend.2)

pub reached_at : (xs : List HeightSpan) (i h : ℕ) (x : HeightSpan) → i < length xs → x ≡ get_or xs i x → h ≤ x.to + 1 → IsReached h (drop i (ranges_of xs))
reached_at xs i h x lt is low = rw (at_place xs i x lt is) low

pub apart_after : (h : ℕ) (xs : List HeightSpan) (i : ℕ) (d : HeightSpan) → i < length xs → (get_or xs i d).to + 1 < h → AscendFrom 0 (ranges_of xs)
    → with_height h (ranges_of xs) ≡ take (i + 1) (ranges_of xs) ++ with_height h (drop (i + 1) (ranges_of xs))
apart_after h xs i d there above ascend = rw add-one (apart_there 0 h xs i (get_or xs i d) there (get_or_default xs i d _ there) above ascend)

pub high_from_test : (test : Bool) (end h : ℕ) → test ≡ false → (end + 1 < h → IsTrue test) → h ≤ end + 1
high_from_test test end h is tells = elim (cases_lt (end + 1) h) [ inl below ↦ absurd (both_ways test is (tells below)) | inr at ↦ at ]

pub ordered : (low : ℕ) (rs : List Range) → AscendFrom low rs → AreOrdered rs
ordered low [] ascend = tt
ordered low (r ∷ rs) ascend = (ascend.1, ordered (r.to + 2) rs ascend.2)

-- after a call that puts the height there or leaves the spans
pub ascend_after_call : {T E : Type 0} (result : Result T E) (h : ℕ) (split : List Range) (xs ys : List HeightSpan) → AscendFrom 0 (ranges_of xs) → with_height h (ranges_of xs) ≡ split
    → OnOk result (ranges_of ys ≡ split) → OnErr result (ys ≡ xs) → AscendFrom 0 (ranges_of ys)
ascend_after_call (Ok x) h split xs ys ascend apart done same = rw (done, ← apart) (ascend_with 0 h (ranges_of xs) ascend (omega arith))
ascend_after_call (Err e) h split xs ys ascend apart done same = rw same ascend
