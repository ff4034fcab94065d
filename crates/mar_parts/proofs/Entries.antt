-- Lists of outstanding blocks, entry by entry.
use native.Mathlib.Numerals.{unary_clauses}
use Rattle.std.proofs.Common.{Bool, List, [], false, if◌then◌else◌, true, ap, arith, get_or, length, map, refl, sym, take, ℕ, ◌++◌, ◌+◌, ◌-◌, ◌<◌, ◌||◌, ◌∙◌, ◌∷◌, ◌≡◌}
use Rattle.std.proofs.lemmas.Bool.{false≢true}
use Rattle.std.proofs.lemmas.List.{length-map}
use Rattle.std.proofs.lemmas.List.Folds.{list_any_more}
use Rattle.std.specs.List.{AllByRecursion, list_any}
use Rattle.mar_key.specs.Fronts.{entry_here, list_any-map, mapped_front}
use Rattle.mar_model.specs.Acks.{HasNextHeight, Mark, Outstanding, height_after, is_unmarked, with_mark}

-- a loop over `ys`, which writes an entry at a time and tells whether one passed, where the first `i` of them are written
pub entry_found : {A B : Type 0} (f : A → B) (g : B → B) (i : ℕ) (xs ys : List A) (d : A) → map f ys ≡ mapped_front g i (map f xs) → (p : B → Bool) (found hit : Bool) → i < length xs → found ≡ list_any p (take i (map f xs)) → hit ≡ p (f (get_or ys i d)) → (found || hit) ≡ list_any p (take (i + 1) (map f xs))
entry_found f g i xs ys d so_far p found hit below so_found is_hit =
    ap (λ b. b || hit) so_found
    ∙ ap (λ b. list_any p (take i (map f xs)) || b) (is_hit ∙ ap p (entry_here f g i xs ys d so_far))
    ∙ sym (list_any_more p (map f xs) i (f d) (omega (arith, length-map xs f)))

newest_of : {A : Type 0} (f : A → Outstanding) (start : ℕ) (xs : List A) (d : A) → AllByRecursion HasNextHeight (map f xs) → 0 < length xs → HasNextHeight (f (get_or xs (length xs - 1) d)) × (height_after start (map f xs) ≡ (f (get_or xs (length xs - 1) d)).height + 1)
newest_of f start [] d all h = absurd (omega arith)
newest_of f start (x ∷ []) d all h = (all.0, refl)
newest_of f start (x ∷ y ∷ ys) d all h = let rest = newest_of f ((f x).height + 1) (y ∷ ys) d all.1 (omega arith) in simp unary_clauses (simp unary_clauses at rest)

-- of entries that all have a height above them, the newest does, and that height is the next
pub newest : {A : Type 0} (f : A → Outstanding) (start : ℕ) (xs : List A) (d : A) → AllByRecursion HasNextHeight (map f xs) → (n : ℕ) → n ≡ length xs → 0 < n → d ≡ get_or xs (n - 1) d → HasNextHeight (f d) × (height_after start (map f xs) ≡ (f d).height + 1)
newest f start xs d all n long some is =
    let here : get_or xs (length xs - 1) d ≡ d = ap (λ k. get_or xs (k - 1) d) (sym long) ∙ sym is in
    rw here at (newest_of f start xs d all (rw long at some))

entry_keeps : (b : Bool) (mark : Mark) (a : Outstanding) → HasNextHeight a → HasNextHeight (if b then record a { mark = mark } else a)
entry_keeps true mark a h = h
entry_keeps false mark a h = h

marks_keep : (ticket : ℕ) (mark : Mark) (out : List Outstanding) → AllByRecursion HasNextHeight out → AllByRecursion HasNextHeight (with_mark ticket mark out)
marks_keep ticket mark [] all = tt
marks_keep ticket mark (a ∷ out) all = (entry_keeps (is_unmarked ticket a) mark a all.0, marks_keep ticket mark out all.1)

-- marks change no height
pub marked_heights : {A : Type 0} (f : A → Outstanding) (ticket : ℕ) (mark : Mark) (old new items : List A) → map f new ≡ with_mark ticket mark (map f old) → old ≡ items → AllByRecursion HasNextHeight (map f items) → AllByRecursion HasNextHeight (map f new)
marked_heights f ticket mark old new items marked same all = rw (marked, same) (marks_keep ticket mark (map f items) all)

list_any-append : {A : Type 0} (p : A → Bool) (xs ys : List A) → list_any p (xs ++ ys) ≡ (list_any p xs || list_any p ys)
list_any-append p [] ys = refl
list_any-append p (x ∷ xs) ys = ap (λ b. p x || b) (list_any-append p xs ys) ∙ sym (or_assoc (p x) (list_any p xs) (list_any p ys))
  where
    or_assoc : (a b c : Bool) → ((a || b) || c) ≡ (a || (b || c))
    or_assoc true b c = refl
    or_assoc false b c = refl

-- an entry passes, where the entries stand in two parts
pub list_any-parts : {A B : Type 0} (p : B → Bool) (f : A → B) (front back items : List A) → front ++ back ≡ items → (list_any (λ x. p (f x)) front || list_any (λ x. p (f x)) back) ≡ list_any p (map f items)
list_any-parts p f front back items parts = sym (list_any-map p f items ∙ ap (list_any (λ x. p (f x))) (sym parts) ∙ list_any-append (λ x. p (f x)) front back)

-- where no unmarked entry has the ticket no mark is set
with_mark-none : (ticket : ℕ) (mark : Mark) (out : List Outstanding) → list_any (is_unmarked ticket) out ≡ false → with_mark ticket mark out ≡ out
with_mark-none ticket mark [] none = refl
with_mark-none ticket mark (a ∷ out) none =
    elim (is_unmarked ticket a) as (λ b. (b || list_any (is_unmarked ticket) out) ≡ false → (if b then record a { mark = mark } else a) ∷ with_mark ticket mark out ≡ a ∷ out) [
      | true ↦ λ found. absurd (false≢true (sym found))
      | false ↦ λ rest. ap (λ xs. a ∷ xs) (with_mark-none ticket mark out rest)
    ] none

pub marked_none : {A : Type 0} (f : A → Outstanding) (ticket : ℕ) (mark : Mark) (old new items : List A) (found : Bool) → map f new ≡ with_mark ticket mark (map f old) → old ≡ items → found ≡ list_any (is_unmarked ticket) (map f old) → found ≡ false → map f new ≡ map f items
marked_none f ticket mark old new items found marked same is none = marked ∙ with_mark-none ticket mark (map f old) (sym is ∙ none) ∙ ap (map f) same
