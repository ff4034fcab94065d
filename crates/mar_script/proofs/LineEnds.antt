-- Each line of the grammar ends once, and within its limit.
use Rattle.std.proofs.Common.{List, [], ap, arith, length, length-append, map, refl, subst, suc, sym, true, ℕ, None, Some, ◌%◌, ◌*◌, ◌++◌, ◌/◌, ◌<◌, ◌^◌, ◌∙◌, ◌∷◌, ◌≡◌, ◌≤◌}
use Rattle.std.specs.Fmt.{decimal}
use Rattle.std.specs.List.{All, AllByRecursion, list_all}
use Rattle.std.specs.Prelude.{Contains, codes, nat_lt, slice_index}
use Rattle.std.proofs.lemmas.Bool.{and_parts, ltb-true}
use Rattle.std.proofs.lemmas.Fmt.{length-decimal-le}
use Rattle.std.proofs.lemmas.List.Elements.{All-append, All-cons, All-contains, All-nil, All-weaker, Contains-append_left, Contains-append_right}
use Rattle.hex.specs.Hex.{IsBytes, encode_lower, encode_with, hex_digit_value, lower_digits}
use Rattle.hex.proofs.HexLemmas.{IsDigits-lower_digits}
use Rattle.mar_types.specs.Varint.{IsNumber}
use Rattle.mar_model.specs.Messages.{Identifier, latest, of_digest, of_height, some_peers}
use Rattle.mar_model.specs.Faults.{StoreName, block_store, cache_store, cert_store, meta_store}
use Rattle.mar_types.specs.DigestLemmas.{below_from_all}
use Rattle.mar_cert.specs.Finalization.{finalization_bytes}
use Rattle.mar_script.specs.Lines.{AreFields, fields_text, is_ink}
use Rattle.mar_script.specs.Run.{IsConfigBytes, IsLineBytes}
use Rattle.mar_script.specs.Script.{Field, IsField, IsIdentifier, IsLine, IsSettings, Line, Settings, as_block, as_bytes, as_count, as_digest, as_finalization, as_identifier, as_key, as_letters, as_none, as_number, as_peers, as_recipients, as_store, comma_numbers, field_text, hex, identifier_text, line_bytes, line_fields, peers_text, sentence, settings_bytes, settings_words, store_name}
use Rattle.mar_script.specs.Refused.{IsUnended}
use Rattle.mar_script.specs.Words.{numbers_of}
use Rattle.mar_script.proofs.FirstWords.{heads, inked}
use Rattle.mar_script.proofs.BlockWords.{peers_ink}
use Rattle.mar_script.proofs.ReadBytes.{block_is_bytes, digest_is_bytes, finalization_is_bytes}
use Rattle.mar_script.proofs.Rows.{line_ink}
use Rattle.mar_script.proofs.Sentences.{IsInk, digits_are_ink, settings_numbers}

-- no line's end
abbrev IsInner : ℕ → Type 0
IsInner b = b ≡ 10 → ⊥

unended : (xs : List ℕ) → All IsInner xs → IsUnended xs
unended xs inner = λ has. All-contains IsInner xs 10 inner has refl

-- WORDS

no_digit : (d : ℕ) → d < 16 → slice_index lower_digits d ≡ 10 → ⊥
no_digit d low is = let none : hex_digit_value 10 ≡ None = refl in let some : hex_digit_value 10 ≡ Some d = ap hex_digit_value (sym is) ∙ IsDigits-lower_digits d low in cc (none, some)

encoded_inner : (bytes : List ℕ) → IsBytes bytes → All IsInner (encode_lower bytes)
unfolding encode_with
encoded_inner [] are = All-nil IsInner
encoded_inner (b ∷ bytes) are =
    All-cons IsInner (slice_index lower_digits (b / 16)) (slice_index lower_digits (b % 16) ∷ encode_lower bytes) (no_digit (b / 16) (omega (arith, are 0)))
    (All-cons IsInner (slice_index lower_digits (b % 16)) (encode_lower bytes) (no_digit (b % 16) (omega arith)) (encoded_inner bytes (λ i. are (suc i))))

by_test : (xs : List ℕ) → list_all (λ b. nat_lt 10 b) xs ≡ true → All IsInner xs
by_test [] test = All-nil IsInner
by_test (b ∷ xs) test =
    let parts = and_parts (nat_lt 10 b) (list_all (λ c. nat_lt 10 c) xs) test in
    All-cons IsInner b xs (λ is. omega (arith, ltb-true 10 b parts.0)) (by_test xs parts.1)

hex_inner : (bytes : List ℕ) → IsBytes bytes → All IsInner (hex bytes)
hex_inner [] are = by_test (codes "-") refl
hex_inner (b ∷ bytes) are = encoded_inner (b ∷ bytes) are

decimal_inner : (n : ℕ) → IsNumber n → All IsInner (decimal n)
decimal_inner n fits = All-weaker IsInk IsInner (λ b ink is. omega (arith, ink)) (decimal n) (digits_are_ink n fits)

decimals_inner : (ns : List ℕ) → AllByRecursion IsNumber ns → AllByRecursion (All IsInner) (map decimal ns)
decimals_inner [] fit = fit
decimals_inner (n ∷ ns) fit = (decimal_inner n fit.0, decimals_inner ns fit.1)

-- SENTENCES

sentence_inner : (words : List (List ℕ)) → AllByRecursion (All IsInner) words → All IsInner (sentence words)
sentence_inner [] are = All-nil IsInner
sentence_inner (w ∷ []) are = are.0
sentence_inner (w ∷ v ∷ words) are = All-append IsInner w _ are.0 (All-cons IsInner 32 _ (λ is. omega (arith, is)) (sentence_inner (v ∷ words) are.1))

sentence_length : (words : List (List ℕ)) → AllByRecursion (λ w. length w ≤ 20) words → length (sentence words) ≤ 21 * length words
sentence_length [] short = omega arith
sentence_length (w ∷ []) short = omega (arith, short.0)
sentence_length (w ∷ v ∷ words) short = omega (arith, short.0, sentence_length (v ∷ words) short.1, length-append w (32 ∷ sentence (v ∷ words)))

short_decimals : (ns : List ℕ) → AllByRecursion IsNumber ns → AllByRecursion (λ w. length w ≤ 20) (map decimal ns)
short_decimals [] fit = fit
short_decimals (n ∷ ns) fit = (length-decimal-le 20 n (omega arith) (omega (arith, fit.0)) fit.0, short_decimals ns fit.1)

-- LINES

-- these bytes are a line's: one end, and that last
pub record EndsOnce (bytes : List ℕ) : Type 0 where
  pub front : List ℕ
  pub spelled : bytes ≡ front ++ 10 ∷ []
  pub inner : IsUnended front
  pub short : length front ≤ 65_536

store_inner : (store : StoreName) → All IsInner (store_name store)
store_inner block_store = by_test (codes "blocks") refl
store_inner cert_store = by_test (codes "certs") refl
store_inner meta_store = by_test (codes "meta") refl
store_inner cache_store = by_test (codes "cache") refl

identifier_inner : (i : Identifier) → IsIdentifier i → All IsInner (identifier_text i)
identifier_inner (of_height h) is = All-cons IsInner 104 (decimal h) (λ e. omega (arith, e)) (decimal_inner h is)
identifier_inner (of_digest d) is = All-cons IsInner 100 (hex d) (λ e. omega (arith, e)) (hex_inner d (digest_is_bytes d is))
identifier_inner latest is = by_test (codes "latest") refl

ink_inner : (word : List ℕ) → All IsInk word → All IsInner word
ink_inner word ink = All-weaker IsInk IsInner (λ b ink is. omega (arith, ink)) word ink

field_inner : (n : ℕ) (field : Field) → n < 2 ^ 64 → IsField n field → is_ink field ≡ true → All IsInner (field_text field)
field_inner n (as_letters word) wide is ink = ink_inner word (inked word ink)
field_inner n (as_number k) wide is ink = decimal_inner k is
field_inner n (as_count k) wide is ink = decimal_inner k is.1
field_inner n (as_digest d) wide is ink = hex_inner d (digest_is_bytes d is)
field_inner n (as_bytes bytes) wide is ink = hex_inner bytes (below_from_all bytes is)
field_inner n (as_key key) wide is ink = absurd cc
field_inner n (as_identifier id) wide is ink = identifier_inner id is
field_inner n (as_block b) wide is ink = hex_inner b.encoded (block_is_bytes b is)
field_inner n (as_finalization f) wide is ink = hex_inner (finalization_bytes f) (finalization_is_bytes n f wide is)
field_inner n (as_recipients peers) wide is ink = ink_inner (peers_text peers) (peers_ink peers is)
field_inner n (as_peers peers) wide is ink = ink_inner (comma_numbers peers) (peers_ink (some_peers peers) is.0)
field_inner n (as_store store) wide is ink = store_inner store
field_inner n as_none wide is ink = absurd is

fields_inner : (n : ℕ) (fields : List Field) → n < 2 ^ 64 → AreFields n fields → list_all is_ink fields ≡ true → AllByRecursion (All IsInner) (map field_text fields)
fields_inner n [] wide are ink = tt
fields_inner n (field ∷ fields) wide are ink =
    let parts = and_parts (is_ink field) (list_all is_ink fields) ink in
    (field_inner n field wide are.0 parts.0, fields_inner n fields wide are.1 parts.1)

pub line_ends : (n : ℕ) (l : Line) → n < 2 ^ 64 → IsLine n l → EndsOnce (line_bytes l)
unfolding line_bytes
line_ends n l wide is = record {
  front = fields_text (line_fields l);
  spelled = refl;
  inner = unended (fields_text (line_fields l)) (sentence_inner (map field_text (line_fields l)) (fields_inner n (line_fields l) wide is.values (line_ink l is.built)));
  short = omega (arith, is.short, length-append (fields_text (line_fields l)) (10 ∷ []));
}

pub settings_end : (s : Settings) → IsSettings s → EndsOnce (settings_bytes s)
unfolding settings_bytes
settings_end s is =
    let fit = settings_numbers s is in
    record {
      front = sentence (settings_words s);
      spelled = refl;
      inner = unended (sentence (settings_words s)) (sentence_inner (settings_words s) (by_test (codes "config") refl, decimals_inner (numbers_of s) fit));
      short = omega (arith, sentence_length (settings_words s) (omega arith, short_decimals (numbers_of s) fit));
    }

pub line_bytes_end : (n : ℕ) (bytes : List ℕ) → n < 2 ^ 64 → IsLineBytes n bytes → EndsOnce bytes
line_bytes_end n bytes wide (l, is, same) = subst EndsOnce (sym same) (line_ends n l wide is)

pub config_bytes_end : (bytes : List ℕ) → IsConfigBytes bytes → EndsOnce bytes
config_bytes_end bytes (s, is, same) = subst EndsOnce (sym same) (settings_end s is)

-- WHAT SUCH A LINE ISN'T AT THE FRONT OF

pub no_front_of_unended : (bytes front more : List ℕ) → IsUnended bytes → EndsOnce front → bytes ≡ front ++ more → ⊥
no_front_of_unended bytes front more none ends is =
    let at_end : Contains front 10 = subst (λ (l : List ℕ). Contains l 10) (sym ends.spelled) (Contains-append_right ends.front (10 ∷ []) 10 (0, omega arith, refl)) in
    none (subst (λ (l : List ℕ). Contains l 10) (sym is) (Contains-append_left front more 10 at_end))

pub length_within : (front : List ℕ) → EndsOnce front → length front ≤ 65_537
length_within front ends = omega (arith, ap length ends.spelled, length-append ends.front (10 ∷ []), ends.short)

joined : (x y : ℕ) (xs ys : List ℕ) → x ≡ y → xs ≡ ys → x ∷ xs ≡ y ∷ ys
joined x y xs ys p q = cc

rest_unended : (x : ℕ) (xs : List ℕ) → IsUnended (x ∷ xs) → IsUnended xs
rest_unended x xs none = λ has. none (Contains-append_right (x ∷ []) xs 10 has)

-- the same bytes begin with one line
pub same_line : (xs ys left right : List ℕ) → IsUnended xs → IsUnended ys → xs ++ 10 ∷ left ≡ ys ++ 10 ∷ right → (xs ≡ ys) × (left ≡ right)
same_line [] [] left right p q e = (refl, (heads 10 10 left right e).1)
same_line [] (y ∷ ys) left right p q e = absurd (q (0, omega arith, sym (heads 10 y left _ e).0))
same_line (x ∷ xs) [] left right p q e = absurd (p (0, omega arith, (heads x 10 _ right e).0))
same_line (x ∷ xs) (y ∷ ys) left right p q e =
    let first = heads x y _ _ e in
    let more = same_line xs ys left right (rest_unended x xs p) (rest_unended y ys q) first.1 in
    (joined x y xs ys first.0 more.0, more.1)
