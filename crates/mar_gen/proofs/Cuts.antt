-- A text cut at each byte of a kind, one cut further.
use Rattle.std.proofs.Common.{Bool, List, None, Some, [], ap, append_assoc, arith, drop, false, get_or, length, refl, subst, sym, take, true, ℕ, ◌+◌, ◌++◌, ◌<◌, ◌∙◌, ◌==◌, ◌∷◌, ◌≡◌, ◌≤◌}
use Rattle.std.specs.List.{All}
use Rattle.std.proofs.lemmas.List.{drop-drop, drop_more, get_or-take, get_or_default, length-take-le, take-append-drop, take_all}
use Rattle.std.proofs.lemmas.List.Splits.{slice_split_at, slice_split_none}
use Rattle.memchr.specs.Find.{IsFirstByte, Nowhere, Passes, is_byte}
use Rattle.mar_gen.specs.Output.{pieces}

-- no byte below that place is of the kind
none_of_kind : (at : ℕ) (text : List ℕ) (n : ℕ) → n ≤ length text → Nowhere (Passes (is_byte at) text) 0 n → All (λ b. (b == at) ≡ false) (take n text)
none_of_kind at text n within none = λ k d low.
    let below : k < n = omega (arith, low, length-take-le n text within) in
    by (get_or (take n text) k d == at) refl below
    (get_or-take n text k d below ∙ get_or_default text k d 0 (omega (arith, below, within)))
  where
    by : {k : ℕ} {x : ℕ} (b : Bool) → (x == at) ≡ b → k < n → x ≡ get_or text k 0 → b ≡ false
    by false is below same = refl
    by {k} true is below same = absurd (none k (omega arith) below (ap (λ y. y == at) (sym same) ∙ is))

pub cut_none : (at : ℕ) (text : List ℕ) → IsFirstByte (is_byte at) text None → pieces at text ≡ text ∷ []
cut_none at text none = slice_split_none (λ b. b == at) text (subst (λ t. All (λ b. (b == at) ≡ false) t) (take_all (length text) text (omega arith)) (none_of_kind at text (length text) (omega arith) none))

pub cut_at : (at : ℕ) (text : List ℕ) (n : ℕ) → IsFirstByte (is_byte at) text (Some n) → pieces at text ≡ take n text ∷ pieces at (drop 1 (drop n text))
cut_at at text n (first, there) =
    ap (pieces at) (sym (take-append-drop n text) ∙ ap (λ l. take n text ++ l) (drop_more text n 0 first.high))
    ∙ slice_split_at (λ b. b == at) (take n text) (get_or text n 0) (drop (n + 1) text) (none_of_kind at text n (omega (arith, first.high)) first.before) there
    ∙ ap (λ l. take n text ∷ pieces at l) (sym (drop-drop 1 n text))

-- one piece more was cut off
pub cut_more : (at : ℕ) (found piece_list : List (List ℕ)) (text rest behind : List ℕ) (n : ℕ) → IsFirstByte (is_byte at) rest (Some n) → found ++ pieces at rest ≡ pieces at text → behind ≡ drop 1 (drop n rest) → piece_list ≡ found ++ take n rest ∷ [] → piece_list ++ pieces at behind ≡ pieces at text
cut_more at found piece_list text rest behind n first so is more =
    ap (λ l. l ++ pieces at behind) more ∙ append_assoc found (take n rest ∷ []) (pieces at behind) ∙ ap (λ l. found ++ take n rest ∷ pieces at l) is ∙ ap (λ l. found ++ l) (sym (cut_at at rest n first)) ∙ so

-- the last piece was put behind the others
pub cut_last : (at : ℕ) (found whole : List (List ℕ)) (text rest : List ℕ) → IsFirstByte (is_byte at) rest None → found ++ pieces at rest ≡ pieces at text → whole ≡ found ++ rest ∷ [] → whole ≡ pieces at text
cut_last at found whole text rest none so is = is ∙ ap (λ l. found ++ l) (sym (cut_none at rest none)) ∙ so
