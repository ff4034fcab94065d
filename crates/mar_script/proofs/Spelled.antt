-- Words that are compared and spelled again.
use Rattle.std.proofs.Common.{Bool, add-one, not, List, None, Ok, Some, [], ap, arith, false, get_or, length, map, refl, suc, sym, take, true, zero, ℕ, ◌++◌, ◌+◌, ◌<◌, ◌^◌, ◌∙◌, ◌∷◌, ◌≡◌, ◌≤◌}
use Rattle.std.specs.Borrow.{Bor}
use Rattle.std.specs.Fmt.{decimal}
use Rattle.std.specs.List.{AllByRecursion, slice_get}
use Rattle.std.specs.Prelude.{option_map}
use Rattle.std.specs.Str.{bytes_eq}
use Rattle.std.proofs.lemmas.List.{get_or-map, length-map, map-append, take_all}
use Rattle.std.proofs.lemmas.Option.{slice_get-get_or}
use Rattle.std.proofs.lemmas.Slice.Eq.{bytes_eq-Decides}
use Rattle.std.proofs.Math.Seq.{take-append_seam, take-suc}
use Rattle.hex.specs.Hex.{IsBytes, decode_of, encode_lower}
use Rattle.hex.proofs.HexLemmas.{decode_of-encode_lower}
use Rattle.mar_types.specs.Varint.{IsNumber}
use Rattle.mar_script.specs.Script.{hex}
use Rattle.mar_script.specs.Words.{IsWithheld, words_of}
use Rattle.mar_script.specs.declared.words.ParseError.{ParseError}
use Rattle.mar_script.specs.declared.words.ParseError.TheVariants.{Grammar, Memory}

pub same_bytes : (xs ys : List ℕ) → bytes_eq xs ys ≡ true → xs ≡ ys
same_bytes xs ys h = (bytes_eq-Decides xs ys).0 h

-- a list of one
pub single : {A : Type 0} (xs : List A) (x : A) → 0 < length xs → length xs < 2 → x ≡ get_or xs 0 x → xs ≡ x ∷ []
single [] x some few is = absurd (omega arith)
single (y ∷ []) x some few is = ap (λ v. v ∷ []) (sym is)
single (y ∷ z ∷ zs) x some few is = absurd (omega arith)

pub only_word : (r : Bool) (bs : List (List ℕ)) (text word : List ℕ) → r ≡ bytes_eq text word → bs ≡ text ∷ [] → (r ≡ true → bs ≡ word ∷ []) × (bs ≡ word ∷ [] → r ≡ true)
only_word r bs text word e is = (
  λ t. is ∙ ap (λ v. v ∷ []) (same_bytes text word (sym e ∙ t)),
  λ s. let same : text ≡ word = cc (is, s) in e ∙ (bytes_eq-Decides text word).1 same,
)

-- a word, a space and the rest
pub front_of : (line word rest : List ℕ) → line ≡ word ++ 32 ∷ rest → take (length word) line ≡ word
front_of line word rest is = ap (take (length word)) is ∙ take-append_seam word (32 ∷ rest)

pub differs : (r : Bool) (xs ys : List ℕ) → r ≡ not (bytes_eq xs ys) → r ≡ true → xs ≡ ys → ⊥
differs r xs ys e t same = let f : not (bytes_eq xs ys) ≡ false = ap not ((bytes_eq-Decides xs ys).1 same) in cc (e, t, f)

-- what is no grammar's fault may be withheld
pub withheld : (e : ParseError) → (e ≡ Grammar → ⊥) → IsWithheld e
withheld Grammar h = h refl
withheld Memory h = tt

pub hex_some : (bytes : List ℕ) → 0 < length bytes → hex bytes ≡ encode_lower bytes
hex_some [] h = absurd (omega arith)
hex_some (b ∷ bytes) h = refl

pub decodes : (word bytes : List ℕ) → IsBytes bytes → 0 < length bytes → word ≡ hex bytes → decode_of word ≡ Ok bytes
decodes word bytes h some is = ap decode_of (is ∙ hex_some bytes some) ∙ decode_of-encode_lower bytes h

pub nth_fits : (ws : List (Bor (List ℕ))) (ns : List ℕ) (i : ℕ) → words_of ws ≡ map decimal ns → i < length ws → i < length ns
nth_fits ws ns i same low = let e : length (words_of ws) ≡ length (map decimal ns) = ap length same in omega (arith, e, length-map ws (λ (v : Bor (List ℕ)). v.now), length-map ns decimal)

pub nth_word : (ws : List (Bor (List ℕ))) (ns : List ℕ) (i : ℕ) (d : Bor (List ℕ)) → words_of ws ≡ map decimal ns → i < length ws → (get_or ws i d).now ≡ decimal (get_or ns i 0)
nth_word ws ns i d same low =
    let fits : i < length ns = nth_fits ws ns i same low in
    sym (get_or-map (λ (v : Bor (List ℕ)). v.now) ws i d (d.now) low) ∙ ap (λ l. get_or l i d.now) same ∙ get_or-map decimal ns i 0 d.now fits

pub nth_small : (ns : List ℕ) (i : ℕ) → AllByRecursion IsNumber ns → get_or ns i 0 < 2 ^ 64
nth_small [] i h = omega arith
nth_small (n ∷ ns) zero h = h.0
nth_small (n ∷ ns) (suc i) h = nth_small ns i h.1

-- one more word and its number
pub words_more : (ws : List (Bor (List ℕ))) (xs : List ℕ) (i : ℕ) (d : Bor (List ℕ)) (n : ℕ) → words_of (take i ws) ≡ map decimal xs → i < length ws → (get_or ws i d).now ≡ decimal n → words_of (take (i + 1) ws) ≡ map decimal (xs ++ n ∷ [])
words_more ws xs i d n same low is =
    ap words_of (rw add-one (take-suc ws i d low)) ∙ map-append (λ (v : Bor (List ℕ)). v.now) (take i ws) (get_or ws i d ∷ [])
    ∙ ap (λ l. l ++ (get_or ws i d).now ∷ []) same ∙ ap (λ w. map decimal xs ++ w ∷ []) is ∙ sym (map-append decimal xs (n ∷ []))

pub numbers_more : (ns xs : List ℕ) (i n : ℕ) → xs ≡ take i ns → i < length ns → n ≡ get_or ns i 0 → xs ++ n ∷ [] ≡ take (i + 1) ns
numbers_more ns xs i n same low is = ap (λ l. l ++ n ∷ []) same ∙ ap (λ v. take i ns ++ v ∷ []) is ∙ sym (rw add-one (take-suc ns i 0 low))

-- all words and their numbers
pub words_whole : (ws : List (Bor (List ℕ))) (xs : List ℕ) (i : ℕ) → words_of (take i ws) ≡ map decimal xs → length ws ≤ i → words_of ws ≡ map decimal xs
words_whole ws xs i same past = ap words_of (sym (take_all i ws past)) ∙ same

pub numbers_whole : (ws : List (Bor (List ℕ))) (ns xs : List ℕ) (i : ℕ) → xs ≡ take i ns → words_of ws ≡ map decimal ns → length ws ≤ i → xs ≡ ns
numbers_whole ws ns xs i is same past =
    let e : length (words_of ws) ≡ length (map decimal ns) = ap length same in
    is ∙ take_all i ns (omega (arith, past, e, length-map ws (λ (v : Bor (List ℕ)). v.now), length-map ns decimal))

-- one more of what is listed
pub listed_more : {A B : Type 0} (f : A → B) (xs : List A) (ys : List B) (i : ℕ) (a : A) → map f xs ≡ take i ys → i < length ys → option_map f (Some a) ≡ slice_get ys i → map f (xs ++ a ∷ []) ≡ take (i + 1) ys
listed_more f xs ys i a same low is =
    let at : f a ≡ get_or ys i (f a) = cc (is, slice_get-get_or ys i (f a) low) in
    map-append f xs (a ∷ []) ∙ ap (λ l. l ++ f a ∷ []) same ∙ ap (λ v. take i ys ++ v ∷ []) at ∙ sym (rw add-one (take-suc ys i (f a) low))

pub listed_all : {B : Type 0} (ys : List B) (i : ℕ) → i < length ys → slice_get ys i ≡ None → ⊥
listed_all [] i low is = absurd (omega arith)
listed_all (y ∷ ys) i low is = cc (is, slice_get-get_or (y ∷ ys) i y low)
