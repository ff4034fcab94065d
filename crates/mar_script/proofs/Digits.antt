-- Bytes that are read of their spelling, two digits at a time.
use Rattle.std.proofs.Common.{List, [], ap, arith, drop, get_or, length, refl, slice_index, subst, suc, sym, zero, ℕ, ◌%◌, ◌*◌, ◌++◌, ◌+◌, ◌/◌, ◌<◌, ◌∙◌, ◌∷◌, ◌≡◌, ◌≤◌}
use Rattle.std.proofs.lemmas.List.{append-nil, drop_all, drop_at, get_or-drop, nil_from_length}
use Rattle.hex.specs.Hex.{IsBytes, encode_lower, encode_with, lower_digits}
use Rattle.hex.proofs.HexLemmas.{length-encode_with}
use Rattle.mar_script.specs.Script.{hex}
use Rattle.mar_script.proofs.Spelled.{hex_some}

pub nothing_read : (word bs : List ℕ) → bs ≡ [] → word ≡ encode_lower bs ++ word
unfolding encode_with
nothing_read word bs is = ap (λ xs. encode_lower xs ++ word) (sym is)

pub no_bytes : (bs : List ℕ) → bs ≡ [] → IsBytes bs
no_bytes bs is = λ i. subst (λ xs. slice_index xs i < 256) (sym is) (omega arith)

digits_more : (bs : List ℕ) (b : ℕ) (rest : List ℕ) → encode_lower (bs ++ b ∷ []) ++ rest ≡ encode_lower bs ++ slice_index lower_digits (b / 16) ∷ slice_index lower_digits (b % 16) ∷ rest
unfolding encode_with
digits_more [] b rest = refl
digits_more (x ∷ bs) b rest = ap (λ l. slice_index lower_digits (x / 16) ∷ slice_index lower_digits (x % 16) ∷ l) (digits_more bs b rest)

two_first : (rest behind : List ℕ) → 2 ≤ length rest → behind ≡ drop 2 rest → rest ≡ get_or rest 0 0 ∷ get_or rest 1 0 ∷ behind
two_first [] behind two is = absurd (omega (arith, two))
two_first (x ∷ []) behind two is = absurd (omega (arith, two))
two_first (x ∷ y ∷ rest) behind two is = ap (λ l. x ∷ y ∷ l) (sym is)

-- one byte more was read
pub byte_more : (word bs new : List ℕ) (b : ℕ) (rest behind : List ℕ) → word ≡ encode_lower bs ++ rest → 2 ≤ length rest → behind ≡ drop 2 rest → get_or rest 0 0 ≡ slice_index lower_digits (b / 16) → get_or rest 1 0 ≡ slice_index lower_digits (b % 16) → new ≡ bs ++ b ∷ []
    → word ≡ encode_lower new ++ behind
byte_more word bs new b rest behind is two behind_is high low more =
    is ∙ ap (λ l. encode_lower bs ++ l) (two_first rest behind two behind_is ∙ ap (λ h. h ∷ get_or rest 1 0 ∷ behind) high ∙ ap (λ l. slice_index lower_digits (b / 16) ∷ l ∷ behind) low)
    ∙ sym (digits_more bs b behind) ∙ ap (λ l. encode_lower l ++ behind) (sym more)

pub bytes_push : (bs new : List ℕ) (b : ℕ) → IsBytes bs → b < 256 → new ≡ bs ++ b ∷ [] → IsBytes new
bytes_push bs new b are small is = subst IsBytes (sym is) (go bs are)
  where
    go : (xs : List ℕ) → IsBytes xs → IsBytes (xs ++ b ∷ [])
    go [] h zero = small
    go [] h (suc i) = omega arith
    go (x ∷ xs) h zero = h 0
    go (x ∷ xs) h (suc i) = go xs (λ j. h (suc j)) i

-- WHAT IS LEFT

drop_encoded : (n : ℕ) (all : List ℕ) → drop (2 * n) (encode_lower all) ≡ encode_lower (drop n all)
unfolding encode_with
drop_encoded zero all = refl
drop_encoded (suc n) [] = drop_all (2 * suc n) [] (omega arith)
drop_encoded (suc n) (b ∷ all) =
    let two : 2 * suc n ≡ suc (suc (2 * n)) = omega arith in
    ap (λ k. drop k (slice_index lower_digits (b / 16) ∷ slice_index lower_digits (b % 16) ∷ encode_lower all)) two ∙ drop_encoded n all

-- what is not read yet of a word that spells bytes spells the rest of them
pub rest_spells : (word bs rest all : List ℕ) → word ≡ encode_lower bs ++ rest → word ≡ encode_lower all → rest ≡ encode_lower (drop (length bs) all)
rest_spells word bs rest all is spells =
    sym (drop_at (encode_lower bs) rest (2 * length bs) (length-encode_with lower_digits bs)) ∙ ap (drop (2 * length bs)) (sym is ∙ spells) ∙ drop_encoded (length bs) all

pub bytes_behind : (all : List ℕ) (n : ℕ) → IsBytes all → IsBytes (drop n all)
bytes_behind all n are = λ i. subst (λ x. x < 256) (sym (get_or-drop n all i 0)) (are (n + i))

-- its first two digits
pub first_spells : (all rest : List ℕ) → IsBytes all → 2 ≤ length rest → rest ≡ encode_lower all → (b : ℕ) × (b < 256) × (get_or rest 0 0 ≡ slice_index lower_digits (b / 16)) × (get_or rest 1 0 ≡ slice_index lower_digits (b % 16))
unfolding encode_with
first_spells [] rest are two spells = absurd (omega (arith, two, ap length spells))
first_spells (b ∷ all) rest are two spells = (b, are 0, ap (λ l. get_or l 0 0) spells, ap (λ l. get_or l 1 0) spells)

-- a word of bytes has two digits for each
pub even_spelled : (rest all : List ℕ) → rest ≡ encode_lower all → length rest ≡ 2 * length all
even_spelled rest all spells = ap length spells ∙ length-encode_with lower_digits all

-- all was read of a word that isn't empty
pub all_read : (word bs rest : List ℕ) → 0 < length word → length rest ≡ 0 → word ≡ encode_lower bs ++ rest → (0 < length bs) × (word ≡ hex bs)
all_read word bs rest some none is =
    let whole : word ≡ encode_lower bs = is ∙ ap (λ l. encode_lower bs ++ l) (nil_from_length rest none) ∙ append-nil (encode_lower bs) in
    let bytes : 0 < length bs = omega (arith, some, even_spelled word bs whole) in
    (bytes, whole ∙ sym (hex_some bs bytes))
