-- The missing heights, range by range.
use Rattle.std.proofs.Common.{◌≡◌, ℕ, zero, suc, ◌+◌, ◌-◌, ◌<◌, ◌≤◌, List, [], ◌∷◌, ◌++◌, length, take, drop, min, max, get_or, refl, ap, ◌∙◌, sym, arith, inl, inr, append_assoc}
use Rattle.std.specs.List.{range_with_len}
use Rattle.std.proofs.lemmas.Bool.{cases_lt}
use Rattle.std.proofs.lemmas.List.{take_all}
use Rattle.mar_store.specs.Ranges.{Range}
use Rattle.mar_store.specs.Spans.{ranges_of}
use Rattle.mar_store.specs.declared.range_set.HeightSpan.{HeightSpan}
use Rattle.mar_store.proofs.SpanEdits.{at_place}
use Rattle.mar_store.specs.Gaps.{missing_from, numbers}

range_more : (a n m : ℕ) → range_with_len a (n + m) ≡ range_with_len a n ++ range_with_len (a + n) m
range_more a zero m = ap (range_with_len a) (left m) ∙ ap (λ b. range_with_len b m) (right a)
  where
    left : (b : ℕ) → 0 + b ≡ b
    left b = omega arith

    right : (b : ℕ) → b ≡ b + 0
    right b = omega arith
range_more a (suc n) m = ap (range_with_len a) (carried n m) ∙ ap (λ xs. a ∷ xs) (range_more (a + 1) n m ∙ ap (λ b. range_with_len (a + 1) n ++ range_with_len b m) (moved a n))
  where
    carried : (b k : ℕ) → suc b + k ≡ suc (b + k)
    carried b k = omega arith

    moved : (b k : ℕ) → (b + 1) + k ≡ b + suc k
    moved b k = omega arith

-- the numbers up to one, and on from there
pub numbers_on : (from h to : ℕ) → from ≤ h → h ≤ to → numbers from to ≡ numbers from h ++ numbers h to
numbers_on from h to above below =
    ap (range_with_len from) (parted from h to above below) ∙ (range_more from (h - from) (to - h) ∙ ap (λ b. numbers from h ++ range_with_len b (to - h)) (back from h above))
  where
    parted : (a b c : ℕ) → a ≤ b → b ≤ c → c - a ≡ (b - a) + (c - b)
    parted a b c p q = omega arith

    back : (a b : ℕ) → a ≤ b → a + (b - a) ≡ b
    back a b p = omega arith

numbers_one : (h : ℕ) → numbers h (h + 1) ≡ h ∷ []
numbers_one h = ap (range_with_len h) (one h)
  where
    one : (b : ℕ) → (b + 1) - b ≡ 1
    one b = omega arith

pub numbers_none : (from to : ℕ) → to ≤ from → numbers from to ≡ []
numbers_none from to le = ap (range_with_len from) (none from to le)
  where
    none : (a b : ℕ) → b ≤ a → b - a ≡ 0
    none a b p = omega arith

-- one more number at the end
pub pushed_number : (from h : ℕ) (old items new : List ℕ) → from ≤ h → items ≡ old ++ numbers from h → new ≡ items ++ h ∷ [] → new ≡ old ++ numbers from (h + 1)
pushed_number from h old items new above are is =
    is ∙ (ap (λ xs. xs ++ h ∷ []) are ∙ (append_assoc old (numbers from h) (h ∷ []) ∙ ap (λ xs. old ++ xs) (ap (λ xs. numbers from h ++ xs) (sym (numbers_one h)) ∙ sym (numbers_on from h (h + 1) above (le_more h)))))
  where
    le_more : (b : ℕ) → b ≤ b + 1
    le_more b = omega arith

take_seam : (n : ℕ) (xs ys : List ℕ) → length xs ≡ n → take n (xs ++ ys) ≡ xs
take_seam zero [] ys is = refl
take_seam (suc n) [] ys is = absurd (omega arith)
take_seam zero (x ∷ xs) ys is = absurd (omega arith)
take_seam (suc n) (x ∷ xs) ys is = ap (λ zs. x ∷ zs) (take_seam n xs ys (omega arith))

-- where there are as many as may be
pub numbers_full : (most from h to : ℕ) (old items : List ℕ) → from ≤ h → h ≤ to → items ≡ old ++ numbers from h → length items ≡ most → items ≡ take most (old ++ numbers from to)
numbers_full most from h to old items above below are full =
    sym (take_seam most items (numbers h to) full)
    ∙ ap (take most) (ap (λ xs. xs ++ numbers h to) are ∙ (append_assoc old (numbers from h) (numbers h to) ∙ ap (λ xs. old ++ xs) (sym (numbers_on from h to above below))))

-- and where all are there
pub numbers_all : (most from h to : ℕ) (old items : List ℕ) → from ≤ h → to ≤ h → h ≤ max from to → items ≡ old ++ numbers from h → length items ≤ most → items ≡ take most (old ++ numbers from to)
numbers_all most from h to old items above past within are room =
    sym (take_all most items room) ∙ ap (take most) (are ∙ ap (λ n. old ++ range_with_len from n) (omega arith))

-- a front of a longer list needs a front of its first part alone
take_front : (n : ℕ) (xs ys : List ℕ) → take n (xs ++ ys) ≡ take n (take n xs ++ ys)
take_front zero xs ys = refl
take_front (suc n) [] ys = refl
take_front (suc n) (x ∷ xs) ys = ap (λ zs. x ∷ zs) (take_front n xs ys)

same_numbers : (n next from last : ℕ) → next ≡ min n last → from ≤ last → numbers n from ≡ numbers next from
same_numbers n next from last is within = elim (cases_lt last n) [
  | inl over ↦ numbers_none n from (omega arith) ∙ sym (numbers_none next from (omega arith))
  | inr under ↦ ap (λ b. numbers b from) (same n next last is under)
]
  where
    same : (a b c : ℕ) → b ≡ min a c → a ≤ c → a ≡ b
    same a b c p q = omega arith

-- what is gathered before a range, and what is missing from it on
pub record Gathered (all : List ℕ) (most next last : ℕ) (items : List ℕ) (rest : List Range) : Type 0 where
  pub above : ℕ
  pub next_is : next ≡ min above last
  pub all_is : take most all ≡ take most (items ++ missing_from rest above)

pub gathered_more : (all : List ℕ) (most k next next' last : ℕ) (spans : List HeightSpan) (span : HeightSpan) (items items' : List ℕ)
    → k < length spans → span ≡ get_or spans k span → span.from ≤ last → items' ≡ take most (items ++ numbers next span.from) → next' ≡ max next (min (span.to + 1) last)
    → Gathered all most next last items (drop k (ranges_of spans)) → Gathered all most next' last items' (drop (k + 1) (ranges_of spans))
gathered_more all most k next next' last spans span items items' lt is within are grew so_far = record {
  above = max so_far.above (span.to + 1);
  next_is = higher so_far.above next (span.to + 1) last next' so_far.next_is grew;
  all_is =
      so_far.all_is
      ∙ (ap (λ rs. take most (items ++ missing_from rs so_far.above)) (at_place spans k span lt is)
      ∙ (ap (take most) (sym (append_assoc items (numbers so_far.above span.from) rest))
      ∙ (take_front most (items ++ numbers so_far.above span.from) rest
      ∙ ap (λ xs. take most (xs ++ rest)) (ap (λ ns. take most (items ++ ns)) (same_numbers so_far.above next span.from last so_far.next_is within) ∙ sym are))));
}
  where
    rest : List ℕ
    rest = missing_from (drop (k + 1) (ranges_of spans)) (max so_far.above (span.to + 1))

    higher : (a b c l d : ℕ) → b ≡ min a l → d ≡ max b (min c l) → d ≡ min (max a c) l
    higher a b c l d p q = omega arith

pub take_short : (n : ℕ) (xs : List ℕ) → length (take n xs) ≤ n
take_short zero xs = omega arith
take_short (suc n) [] = omega arith
take_short (suc n) (x ∷ xs) = let shorter = take_short n xs in omega arith

-- ---- the rest of a list

pub rest_whole : {X : Type 0} (k : ℕ) (xs : List X) → take (length xs - k) (drop k xs) ≡ drop k xs
rest_whole zero xs = ap (λ n. take n xs) (all (length xs)) ∙ take_all (length xs) xs (same (length xs))
  where
    all : (n : ℕ) → n - 0 ≡ n
    all n = omega arith

    same : (n : ℕ) → n ≤ n
    same n = omega arith
rest_whole (suc k) [] = take_all (0 - suc k) [] (none (0 - suc k))
  where
    none : (n : ℕ) → 0 ≤ n
    none n = omega arith
rest_whole (suc k) (x ∷ xs) = ap (λ n. take n (drop k xs)) (fewer (length xs) k) ∙ rest_whole k xs
  where
    fewer : (a b : ℕ) → suc a - suc b ≡ a - b
    fewer a b = omega arith
