-- Spans that are exchanged, and their text.
use Rattle.std.proofs.Common.{List, [], ap, append_assoc, arith, drop, get_or, length, length-append, map, refl, subst, sym, take, ℕ, ◌+◌, ◌++◌, ◌-◌, ◌<◌, ◌^◌, ◌∙◌, ◌∷◌, ◌≡◌, ◌≤◌}
use Rattle.std.specs.List.{replace_range, slice_range, sum}
use Rattle.std.proofs.lemmas.List.{drop-map, drop_at, drop_more, get_or_at, map-append, take-append-drop, take-map, take-take, take_all, take_at}
use Rattle.std.proofs.lemmas.List.Concat.{flat_map-append}
use Rattle.std.proofs.lemmas.List.Edits.{split_between}
use Rattle.std.proofs.lemmas.List.Sums.{sum_by-cons}
use Rattle.std.specs.String.Boundary.{IsSplitPoint}
use Rattle.mar_store.specs.Ranges.{Range}
use Rattle.mar_store.specs.Spans.{range_of, ranges_of}
use Rattle.mar_store.specs.declared.HeightSpan.{HeightSpan}
use Rattle.mar_script.specs.SpanTexts.{sizes_of, span_text, spans_text}
use Rattle.mar_script.specs.Shown.{ranges_shown}
use Rattle.mar_script.specs.Text.{range_text}
use Rattle.mar_script.proofs.Sentences.{joined}

pub sizes_sum : (spans : List HeightSpan) → sum (sizes_of spans) ≡ length (spans_text spans)
sizes_sum [] = refl
sizes_sum (s ∷ spans) = sum_by-cons (λ x. x) (length (span_text s)) (sizes_of spans) ∙ ap (λ n. length (span_text s) + n) (sizes_sum spans) ∙ sym (length-append (span_text s) (spans_text spans))

-- the text of spans in two parts
parts : (n : ℕ) (spans : List HeightSpan) → spans_text spans ≡ spans_text (take n spans) ++ spans_text (drop n spans)
parts n spans = ap spans_text (sym (take-append-drop n spans)) ∙ flat_map-append span_text (take n spans) (drop n spans)

-- the places in the text of spans at which those from one place to another begin and end, of sums of sizes
pub record Cuts (spans : List HeightSpan) (from to : ℕ) (start rest size : ℕ) : Type 0 where
  pub within : rest ≤ size
  pub ordered : start ≤ size - rest
  pub start_is : start ≡ length (spans_text (take from spans))
  pub end_is : size - rest ≡ length (spans_text (take to spans))

pub cuts : (spans : List HeightSpan) (from to : ℕ) (sizes text front back : List ℕ) (start rest size : ℕ) → from ≤ to → sizes ≡ sizes_of spans → text ≡ spans_text spans → size ≡ length text → size < 2 ^ 64
    → front ≡ take from sizes → (sum front < 2 ^ 64 → start ≡ sum front) → back ≡ drop to sizes → (sum back < 2 ^ 64 → rest ≡ sum back) → Cuts spans from to start rest size
cuts spans from to sizes text front back start rest size ordered sized is long small front_is sum_front back_is sum_back =
    let before : sum front ≡ length (spans_text (take from spans)) = ap sum (front_is ∙ ap (take from) sized ∙ take-map (λ s. length (span_text s)) from spans) ∙ sizes_sum (take from spans) in
    let behind : sum back ≡ length (spans_text (drop to spans)) = ap sum (back_is ∙ ap (drop to) sized ∙ drop-map (λ s. length (span_text s)) to spans) ∙ sizes_sum (drop to spans) in
    let whole : size ≡ length (spans_text (take to spans)) + length (spans_text (drop to spans)) = long ∙ ap length (is ∙ parts to spans) ∙ length-append (spans_text (take to spans)) (spans_text (drop to spans)) in
    let inner : length (spans_text (take to spans)) ≡ length (spans_text (take from spans)) + length (spans_text (drop from (take to spans))) =
    ap length (parts from (take to spans)) ∙ length-append (spans_text (take from (take to spans))) (spans_text (drop from (take to spans))) ∙ ap (λ xs. length (spans_text xs) + length (spans_text (drop from (take to spans)))) (take-take from to spans ordered) in
    let start_is : start ≡ length (spans_text (take from spans)) = sum_front (omega (arith, before, whole, inner, small)) ∙ before in
    let rest_is : rest ≡ length (spans_text (drop to spans)) = sum_back (omega (arith, behind, whole, small)) ∙ behind in
    record {
      within = omega (arith, rest_is, whole);
      ordered = omega (arith, rest_is, start_is, whole, inner);
      start_is = start_is;
      end_is = omega (arith, rest_is, whole);
    }

-- the text may be cut there
pub splits : (spans : List HeightSpan) (n at : ℕ) (text : List ℕ) → text ≡ spans_text spans → at ≡ length (spans_text (take n spans)) → IsSplitPoint text at
splits spans n at text is here = subst (λ t. IsSplitPoint t at) (sym (is ∙ parts n spans)) (by (drop n spans))
  where
    front : List ℕ
    front = spans_text (take n spans)

    by : (rest : List HeightSpan) → IsSplitPoint (front ++ spans_text rest) at
    by [] = (omega (arith, here, length-append front []), λ some below high. absurd (omega (arith, here, below, length-append front [])))
    by (s ∷ rest) =
        let comma : get_or (front ++ spans_text (s ∷ rest)) at 0 ≡ 44 = get_or_at front 44 (range_text (range_of s) ++ spans_text rest) 0 at (sym here) in
        (omega (arith, here, length-append front (spans_text (s ∷ rest))), λ some below high. absurd (omega (arith, high, comma)))

-- spans are exchanged in the list and in the text
pub text_exchanged : (spans fresh : List HeightSpan) (from to start end : ℕ) (text : List ℕ) → text ≡ spans_text spans → start ≡ length (spans_text (take from spans)) → end ≡ length (spans_text (take to spans))
    → replace_range text start end (spans_text fresh) ≡ spans_text (replace_range spans from to fresh)
text_exchanged spans fresh from to start end text is here there =
    let before : take start text ≡ spans_text (take from spans) = ap (take start) (is ∙ parts from spans) ∙ take_at (spans_text (take from spans)) (spans_text (drop from spans)) start (sym here) in
    let after : drop end text ≡ spans_text (drop to spans) = ap (drop end) (is ∙ parts to spans) ∙ drop_at (spans_text (take to spans)) (spans_text (drop to spans)) end (sym there) in
    ap (λ l. (l ++ spans_text fresh) ++ drop end text) before ∙ ap (λ l. (spans_text (take from spans) ++ spans_text fresh) ++ l) after
    ∙ ap (λ l. l ++ spans_text (drop to spans)) (sym (flat_map-append span_text (take from spans) fresh)) ∙ sym (flat_map-append span_text (take from spans ++ fresh) (drop to spans))

map_exchanged : {X Y : Type 0} (f : X → Y) (xs fresh : List X) (from to : ℕ) → replace_range (map f xs) from to (map f fresh) ≡ map f (replace_range xs from to fresh)
map_exchanged f xs fresh from to =
    ap (λ l. (l ++ map f fresh) ++ drop to (map f xs)) (take-map f from xs) ∙ ap (λ l. (map f (take from xs) ++ map f fresh) ++ l) (drop-map f to xs)
    ∙ ap (λ l. l ++ map f (drop to xs)) (sym (map-append f (take from xs) fresh)) ∙ sym (map-append f (take from xs ++ fresh) (drop to xs))

pub sizes_exchanged : (spans fresh : List HeightSpan) (from to : ℕ) (sizes : List ℕ) → sizes ≡ sizes_of spans → replace_range sizes from to (sizes_of fresh) ≡ sizes_of (replace_range spans from to fresh)
sizes_exchanged spans fresh from to sizes is = ap (λ xs. replace_range xs from to (sizes_of fresh)) is ∙ map_exchanged (λ s. length (span_text s)) spans fresh from to

pub ranges_exchanged : (spans fresh : List HeightSpan) (from to : ℕ) → ranges_of (replace_range spans from to fresh) ≡ replace_range (ranges_of spans) from to (ranges_of fresh)
ranges_exchanged spans fresh from to = sym (map_exchanged range_of spans fresh from to)

-- the spans between those that are the same at both ends, exchanged
pub exchanged : (old new : List HeightSpan) (front back : ℕ) → front + back ≤ length new → take front old ≡ take front new → drop (length old - back) old ≡ drop (length new - back) new
    → replace_range old front (length old - back) (slice_range new front (length new - back)) ≡ new
exchanged old new front back within same_front same_back =
    ap (λ l. (l ++ slice_range new front (length new - back)) ++ drop (length old - back) old) same_front
    ∙ ap (λ l. (take front new ++ slice_range new front (length new - back)) ++ l) same_back
    ∙ three (take front new) (slice_range new front (length new - back)) (drop (length new - back) new)
    ∙ sym (split_between new front (length new - back) (omega (arith, within)))
  where
    three : (a b c : List HeightSpan) → (a ++ b) ++ c ≡ a ++ (b ++ c)
    three a b c = append_assoc a b c

-- the same of ranges that are seen as those of spans
pub spans_exchanged : (seen result : List Range) (held old new mid : List HeightSpan) (front back size : ℕ) → seen ≡ ranges_of held → old ≡ held → size ≡ length old → front + back ≤ length new → take front old ≡ take front new → drop (length old - back) old ≡ drop (length new - back) new
    → mid ≡ slice_range new front (length new - back) → result ≡ replace_range seen front (size - back) (ranges_of mid) → result ≡ ranges_of new
spans_exchanged seen result held old new mid front back size seen_is old_is sized within same_front same_back mid_is is =
    is ∙ ap (λ xs. replace_range xs front (size - back) (ranges_of mid)) (seen_is ∙ ap ranges_of (sym old_is)) ∙ ap (λ n. replace_range (ranges_of old) front (n - back) (ranges_of mid)) sized
    ∙ ap (λ xs. replace_range (ranges_of old) front (length old - back) (ranges_of xs)) mid_is
    ∙ sym (ranges_exchanged old (slice_range new front (length new - back)) front (length old - back)) ∙ ap ranges_of (exchanged old new front back within same_front same_back)

-- all of both are the same
pub same_whole : (old new : List HeightSpan) (n : ℕ) → n ≡ length old → n ≡ length new → take n old ≡ take n new → old ≡ new
same_whole old new n of_old of_new same = sym (take_all n old (omega (arith, of_old))) ∙ same ∙ take_all n new (omega (arith, of_new))

-- one more span is the same from behind
pub more_back : (xs ys : List HeightSpan) (i j : ℕ) (d : HeightSpan) → i < length xs → j < length ys → get_or xs i d ≡ get_or ys j d → drop (i + 1) xs ≡ drop (j + 1) ys → drop i xs ≡ drop j ys
more_back xs ys i j d in_xs in_ys same rest = drop_more xs i d in_xs ∙ ap (λ x. x ∷ drop (i + 1) xs) same ∙ ap (λ l. get_or ys j d ∷ l) rest ∙ sym (drop_more ys j d in_ys)

-- what is shown of some ranges stands behind the first comma
pub shown_behind_comma : (spans : List HeightSpan) → 0 < length spans → ranges_shown (ranges_of spans) ≡ drop 1 (spans_text spans)
shown_behind_comma [] some = absurd (omega (arith, some))
shown_behind_comma (s ∷ rest) some = joined range_of range_text s rest

pub begins_with_comma : (spans : List HeightSpan) (text : List ℕ) → 0 < length spans → text ≡ spans_text spans → (0 < length text) × (get_or text 0 0 ≡ 44)
begins_with_comma [] text some is = absurd (omega (arith, some))
begins_with_comma (s ∷ rest) text some is = (omega (arith, ap length is), ap (λ t. get_or t 0 0) is)
