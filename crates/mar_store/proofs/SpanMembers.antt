-- Which heights spans that ascend have, as they are searched by halving.
use Rattle.std.proofs.Common.{◌≡◌, ◌⊎◌, inl, inr, Contains, Some, is_some, if◌then◌else◌, ◌==◌, eqb-true, leb-true, slice_index_or, ℕ, zero, suc, ◌+◌, ◌<◌, ◌≤◌, List, [], ◌∷◌, length, get_or, drop, refl, arith, Bool, true, false, ◌&&◌, ◌||◌, nat_le}
use Rattle.std.proofs.lemmas.Bool.{both_ways}
use Rattle.std.proofs.lemmas.List.Elements.{Contains-append_right}
use Rattle.std.proofs.lemmas.Bool.Decides.{nat_tests}
use Rattle.mar_store.specs.Kept.{At, has_height, value_at}
use Rattle.mar_store.specs.Changes.{heights}
use Rattle.mar_store.specs.Ranges.{Range, in_ranges, ranges}
use Rattle.mar_store.specs.Spans.{ranges_of, AscendFrom, EndsFrom}
use Rattle.mar_store.specs.declared.range_set.HeightSpan.{HeightSpan}
use Rattle.mar_store.proofs.RangeLemmas.{IsInRanges}
use Rattle.mar_store.proofs.RangeMembers.{ranges-has, ranges-members}
use Rattle.mar_store.proofs.SpanEdits.{at_place}

-- a height below ranges isn't in them
below : (h low : ℕ) (rs : List Range) → AscendFrom low rs → h < low → in_ranges rs h ≡ false
below h low [] ascend less = refl
below h low (r ∷ rs) ascend less = let rest = below h (r.to + 2) rs ascend.2 (omega (arith, ascend.0, ascend.1, less)) in grind (arith, nat_tests, rest, ascend.0, less)

-- in the first range that ends at or above the height, or in none
pub in_first : (low h : ℕ) (xs : List HeightSpan) (i : ℕ) (x : HeightSpan) → i < length xs → x ≡ get_or xs i x → AscendFrom low (ranges_of xs) → EndsFrom h (drop i (ranges_of xs)) → in_ranges (drop i (ranges_of xs)) h ≡ nat_le x.from h
in_first low h [] i x lt is ascend ends = absurd (omega arith)
in_first low h (y ∷ ys) zero x lt is ascend ends = rw is (let rest = below h (y.to + 2) (ranges_of ys) ascend.2 (omega (arith, ends)) in grind (arith, nat_tests, rest, ends))
in_first low h (y ∷ ys) (suc i) x lt is ascend ends = in_first (y.to + 2) h ys i x (omega arith) is ascend.2 ends

pub ends_at : (xs : List HeightSpan) (i h : ℕ) (x : HeightSpan) → i < length xs → x ≡ get_or xs i x → h ≤ x.to → EndsFrom h (drop i (ranges_of xs))
ends_at xs i h x lt is most = rw (at_place xs i x lt is) most

-- HEIGHTS

in_some : (rs : List Range) (h : ℕ) → in_ranges rs h ≡ true → IsInRanges rs h
in_some [] h is = absurd cc
in_some (r ∷ rs) h is = by (nat_le r.from h) (nat_le h r.to) refl refl (in_some rs h) is
  where
    by : (a b : Bool) → nat_le r.from h ≡ a → nat_le h r.to ≡ b → (in_ranges rs h ≡ true → IsInRanges rs h) → ((a && b) || in_ranges rs h) ≡ true → ((r.from ≤ h) × (h ≤ r.to)) ⊎ IsInRanges rs h
    by true true low high later is = inl (leb-true r.from h low, leb-true h r.to high)
    by true false low high later is = inr (later is)
    by false b low high later is = inr (later is)

some_in : (rs : List Range) (h : ℕ) → IsInRanges rs h → in_ranges rs h ≡ true
some_in [] h is = absurd is
some_in (r ∷ rs) h (inl both) = grind (arith, nat_tests, both.0, both.1)
some_in (r ∷ rs) h (inr later) = or_right (nat_le r.from h && nat_le h r.to) _ (some_in rs h later)
  where
    or_right : (a b : Bool) → b ≡ true → (a || b) ≡ true
    or_right true b is = refl
    or_right false b is = is

held_in : {T : Type 0} (xs : List (At T)) (h : ℕ) → has_height xs h ≡ true → Contains (heights xs) h
held_in [] h has = absurd cc
held_in (x ∷ xs) h has = by (x.height == h) refl (held_in xs h) has
  where
    by : (b : Bool) → (x.height == h) ≡ b → (has_height xs h ≡ true → Contains (heights xs) h) → is_some (if b then Some x.value else value_at xs h) ≡ true → Contains (heights (x ∷ xs)) h
    by true is later here = (zero, omega arith, eqb-true x.height h is)
    by false is later has = Contains-append_right (x.height ∷ []) (heights xs) h (later has)

in_held : {T : Type 0} (xs : List (At T)) (h : ℕ) → Contains (heights xs) h → has_height xs h ≡ true
in_held [] h has = absurd (let lt : has.0 < 0 = has.1 in omega arith)
in_held (x ∷ xs) h has = by (x.height == h) refl (in_held xs h)
  where
    later : (k : ℕ) (is : (k < length (heights (x ∷ xs))) × (slice_index_or (heights (x ∷ xs)) k h ≡ h)) → (x.height == h) ≡ false → (Contains (heights xs) h → has_height xs h ≡ true) → has_height xs h ≡ true
    later zero is other held = absurd (both_ways _ other (grind (arith, nat_tests, is.1)))
    later (suc k) is other held = held (k, omega (arith, is.0), is.1)

    by : (b : Bool) → (x.height == h) ≡ b → (Contains (heights xs) h → has_height xs h ≡ true) → is_some (if b then Some x.value else value_at xs h) ≡ true
    by true is held = refl
    by false is held = later has.0 (has.1, has.2) is held

-- a height stands in the ranges of what is held where it is held
pub in_ranges-heights : {T : Type 0} (xs : List (At T)) (h : ℕ) → in_ranges (ranges (heights xs)) h ≡ has_height xs h
in_ranges-heights xs h = by (has_height xs h) refl (in_ranges (ranges (heights xs)) h) refl
  where
    by : (a : Bool) → has_height xs h ≡ a → (b : Bool) → in_ranges (ranges (heights xs)) h ≡ b → b ≡ a
    by true has true is = refl
    by false has false is = refl
    by true has false is = absurd (both_ways _ is (some_in _ h (ranges-has (heights xs) h (held_in xs h has))))
    by false has true is = absurd (both_ways _ has (in_held xs h (ranges-members (heights xs) h (in_some _ h is))))
