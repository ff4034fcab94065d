-- A sentence has one first word, and a table of words tells which it is.
use Rattle.std.proofs.Common.{Bool, List, None, Option, Some, [], ap, arith, cond, false, refl, subst, sym, true, ℕ, ◌++◌, ◌∙◌, ◌∷◌, ◌≡◌}
use Rattle.std.specs.List.{All, find, list_all}
use Rattle.std.specs.Option.{option_map}
use Rattle.std.specs.Prelude.{Contains, nat_lt, ◌&&◌}
use Rattle.std.specs.Str.{bytes_eq}
use Rattle.std.proofs.lemmas.Bool.{and_parts, ltb-true}
use Rattle.std.proofs.lemmas.List.Elements.{All-contains, All-cons, All-nil, Contains-append_right}
use Rattle.std.proofs.lemmas.Slice.Eq.{bytes_eq-Decides}
use Rattle.mar_script.specs.Lines.{IsWord, NamesFirst, is_inked, named}
use Rattle.mar_script.proofs.Sentences.{IsInk}

pub heads : {X : Type 0} (x y : X) (xs ys : List X) → x ∷ xs ≡ y ∷ ys → (x ≡ y) × (xs ≡ ys)
heads x y xs ys e = (cc, cc)

-- SENTENCES

longer : (x y : ℕ) (xs ys : List ℕ) → x ≡ y → xs ≡ ys → x ∷ xs ≡ y ∷ ys
longer x y xs ys p q = cc

behind_first : (x : ℕ) (xs : List ℕ) → IsWord (x ∷ xs) → IsWord xs
behind_first x xs is = λ has. is (Contains-append_right (x ∷ []) xs 32 has)

-- the same sentence has the same first word
pub one_split : (v w rest more : List ℕ) → IsWord v → IsWord w → v ++ 32 ∷ rest ≡ w ++ 32 ∷ more → (v ≡ w) × (rest ≡ more)
one_split [] [] rest more p q e = (refl, (heads 32 32 rest more e).1)
one_split [] (y ∷ w) rest more p q e = absurd (q (0, omega arith, sym (heads 32 y rest _ e).0))
one_split (x ∷ v) [] rest more p q e = absurd (p (0, omega arith, (heads x 32 _ more e).0))
one_split (x ∷ v) (y ∷ w) rest more p q e =
    let first = heads x y _ _ e in
    let behind = one_split v w rest more (behind_first x v p) (behind_first y w q) first.1 in
    (longer x y v w first.0 behind.0, behind.1)

-- a word is no sentence of more words
pub no_sentence : (bytes word rest : List ℕ) → IsWord bytes → bytes ≡ word ++ 32 ∷ rest → ⊥
no_sentence bytes word rest is e =
    let spaced : Contains (word ++ 32 ∷ rest) 32 = Contains-append_right word (32 ∷ rest) 32 (0, omega arith, refl) in
    is (rw e spaced)

-- TABLES

pub inked : (word : List ℕ) → is_inked word ≡ true → All IsInk word
inked [] test = All-nil IsInk
inked (b ∷ word) test =
    let parts = and_parts (nat_lt 32 b) (is_inked word) test in
    All-cons IsInk b word (omega (arith, ltb-true 32 b parts.0)) (inked word parts.1)

pub inked_word : (word : List ℕ) → is_inked word ≡ true → IsWord word
inked_word word test = λ has. omega (arith, All-contains IsInk word 32 (inked word test) has)

-- each row has the word of what it names
abbrev pub is_table : {K : Type 0} → (K → List ℕ) → List (List ℕ × K) → Bool
is_table word_of table = list_all (λ row. bytes_eq row.0 (word_of row.1) && is_inked row.0) table

row_case : {K : Type 0} (word_of : K → List ℕ) (row : List ℕ × K) (table : List (List ℕ × K)) (word : List ℕ) (k : K) (same : Bool)
    → bytes_eq row.0 word ≡ same → (bytes_eq row.0 (word_of row.1) && is_inked row.0) ≡ true → (named table word ≡ Some k → (word ≡ word_of k) × (is_inked word ≡ true))
    → option_map (λ r. r.1) (cond same (Some row) (find (λ r. bytes_eq r.0 word) table)) ≡ Some k → (word ≡ word_of k) × (is_inked word ≡ true)
row_case word_of row table word k true same test more found =
    let parts = and_parts (bytes_eq row.0 (word_of row.1)) (is_inked row.0) test in
    let is_row : row.0 ≡ word = (bytes_eq-Decides row.0 word).0 same in
    let of_row : row.0 ≡ word_of row.1 = (bytes_eq-Decides row.0 (word_of row.1)).0 parts.0 in
    let is_k : row.1 ≡ k = cc in
    (sym is_row ∙ of_row ∙ ap word_of is_k, subst (λ w. is_inked w ≡ true) is_row parts.1)
row_case word_of row table word k false same test more found = more found

-- what a table has for a word is what has that word
pub row_inked : {K : Type 0} (word_of : K → List ℕ) (table : List (List ℕ × K)) (word : List ℕ) (k : K)
    → is_table word_of table ≡ true → named table word ≡ Some k → (word ≡ word_of k) × (is_inked word ≡ true)
row_inked word_of [] word k test is = absurd (cc)
row_inked word_of (row ∷ table) word k test is =
    let parts = and_parts (bytes_eq row.0 (word_of row.1) && is_inked row.0) (is_table word_of table) test in
    row_case word_of row table word k (bytes_eq row.0 word) refl parts.0 (λ found. row_inked word_of table word k parts.1 found) is

pub row_named : {K : Type 0} (word_of : K → List ℕ) (table : List (List ℕ × K)) (word : List ℕ) (k : K)
    → is_table word_of table ≡ true → named table word ≡ Some k → (word ≡ word_of k) × IsWord word
row_named word_of table word k test is = let row = row_inked word_of table word k test is in (row.0, inked_word word row.1)

-- where a table has nothing for the first word of a line, it has nothing for another first word of it
pub not_named : {K : Type 0} (table : List (List ℕ × K)) (line word rest : List ℕ) → line ≡ word ++ 32 ∷ rest → IsWord word → named table word ≡ None → (k : K) (more : List ℕ) → NamesFirst table line k more → ⊥
not_named table line word rest split is none k more first =
    let same = one_split word first.word rest more is first.is_word (sym split ∙ first.split) in
    apart (named table word) k none (ap (named table) same.0 ∙ first.names)
  where
    apart : {K : Type 0} (o : Option K) (k : K) → o ≡ None → o ≡ Some k → ⊥
    apart o k p q = cc
