-- The words that name peers are read as they were spelled.
use Rattle.std.proofs.Common.{Contains, Decides, List, [], ap, arith, eq-eqb, eqb-true, get_or, length, map, refl, suc, sym, take, true, zero, ℕ, ◌%◌, ◌++◌, ◌+◌, ◌<◌, ◌^◌, ◌∙◌, ◌∷◌, ◌≡◌, ◌≢◌, ◌≤◌}
use Rattle.std.specs.Fmt.{decimal}
use Rattle.std.specs.List.{All, AllByRecursion, join_with_byte, list_any}
use Rattle.std.specs.Prelude.{codes, false, ◌==◌}
use Rattle.std.proofs.lemmas.Bool.Decides.{nat_tests}
use Rattle.std.proofs.lemmas.Fmt.{decimal_by_steps}
use Rattle.std.proofs.lemmas.List.{get_or-take, get_or_default, length-take}
use Rattle.std.proofs.lemmas.List.Elements.{All-cons, All-nil, All-push, All-weaker}
use Rattle.std.proofs.lemmas.List.Quantifiers.{all_pairs_push}
use Rattle.std.proofs.lemmas.Map.Made.{is_member-Decides}
use Rattle.std.proofs.lemmas.List.Splits.{join_with_byte-slice_split, length-slice_split, slice_split_at, slice_split_none}
use Rattle.mar_model.specs.Messages.{Peers, all_peers, some_peers}
use Rattle.mar_store.proofs.Lookups.{AllByRecursion-push}
use Rattle.mar_script.specs.Script.{ArePeers, IsPeers, comma_numbers, peers_text}
use Rattle.mar_script.specs.Words.{parts_in}

-- DIGITS

abbrev IsDigitByte : ℕ → Type 0
IsDigitByte b = (48 ≤ b) × (b < 58)

digits : (n : ℕ) → n < 2 ^ 64 → All IsDigitByte (decimal n)
digits n small = decimal_by_steps (λ m ds. All IsDigitByte ds) (λ m h. All-cons IsDigitByte (48 + m) [] (omega arith, omega arith) (All-nil IsDigitByte)) (λ m ds h more. All-push IsDigitByte ds (48 + m % 10) more (omega arith, omega arith)) n small

no_comma : (b : ℕ) → IsDigitByte b → (b == 44) ≡ false
no_comma b is = let low : 48 ≤ b = is.0 in grind (arith, nat_tests)

no_commas : (n : ℕ) → n < 2 ^ 32 → All (λ b. (b == 44) ≡ false) (decimal n)
no_commas n small = All-weaker IsDigitByte (λ b. (b == 44) ≡ false) no_comma (decimal n) (digits n (omega arith))

-- it begins with a digit
record Begins (ds : List ℕ) : Type 0 where
  first : ℕ
  rest : List ℕ
  digit : IsDigitByte first
  is : ds ≡ first ∷ rest

begins : (n : ℕ) → n < 2 ^ 64 → Begins (decimal n)
begins n small = decimal_by_steps (λ m ds. Begins ds) (λ m h. record { first = 48 + m; rest = []; digit = (omega arith, omega arith); is = refl }) (λ m ds h more. record { first = more.first; rest = more.rest ++ (48 + m % 10) ∷ []; digit = more.digit; is = ap (λ l. l ++ (48 + m % 10) ∷ []) more.is }) n small

begins_joined : (p : ℕ) (ps : List ℕ) → p < 2 ^ 32 → Begins (comma_numbers (p ∷ ps))
begins_joined p [] small = begins p (omega arith)
begins_joined p (q ∷ ps) small = let one = begins p (omega arith) in record { first = one.first; rest = one.rest ++ 44 ∷ comma_numbers (q ∷ ps); digit = one.digit; is = ap (λ l. l ++ 44 ∷ comma_numbers (q ∷ ps)) one.is }

-- another first byte is none of numbers
other_byte : (c : ℕ) (more : List ℕ) (p : ℕ) (ps : List ℕ) → p < 2 ^ 32 → c ∷ more ≡ comma_numbers (p ∷ ps) → IsDigitByte c
other_byte c more p ps small same =
    let one = begins_joined p ps small in
    let e : c ≡ one.first = first_of c one.first more one.rest (same ∙ one.is) in
    (let low : 48 ≤ one.first = one.digit.0 in omega arith, let high : one.first < 58 = one.digit.1 in omega arith)
  where
    first_of : (x y : ℕ) (xs ys : List ℕ) → x ∷ xs ≡ y ∷ ys → x ≡ y
    first_of x y xs ys e = cc

-- PARTS

parts_in-joined : (p : ℕ) (ps : List ℕ) → AllByRecursion (λ q. q < 2 ^ 32) (p ∷ ps) → parts_in (join_with_byte 44 (map decimal (p ∷ ps))) ≡ map decimal (p ∷ ps)
parts_in-joined p [] all = slice_split_none (λ b. b == 44) (decimal p) (no_commas p all.0)
parts_in-joined p (q ∷ ps) all = slice_split_at (λ b. b == 44) (decimal p) 44 (join_with_byte 44 (map decimal (q ∷ ps))) (no_commas p all.0) refl ∙ ap (λ l. decimal p ∷ l) (parts_in-joined q ps all.1)

-- the parts of a word that spells numbers spell these
pub read_parts : (word : List ℕ) (parts : List (List ℕ)) (ps : List ℕ) → parts ≡ parts_in word → ArePeers ps → 0 < length ps → word ≡ comma_numbers ps → parts ≡ map decimal ps
read_parts word parts [] cut are some same = absurd (omega arith)
read_parts word parts (p ∷ ps) cut are some same = cut ∙ ap parts_in same ∙ parts_in-joined p ps are.0

-- and parts that spell numbers are those of a word that does
pub spelled_parts : (word : List ℕ) (parts : List (List ℕ)) (ms : List ℕ) → parts ≡ parts_in word → parts ≡ map decimal ms → word ≡ comma_numbers ms
spelled_parts word parts [] cut is =
    let none : length (parts_in word) ≡ 0 = ap length (sym cut ∙ is) in
    absurd (omega (arith, none, length-slice_split (λ b. b == 44) word))
spelled_parts word parts (m ∷ ms) cut is = sym (join_with_byte-slice_split 44 word) ∙ ap (join_with_byte 44) (sym cut ∙ is)

-- ALL DIFFERENT

-- a number is found among these where it is one of them
pub found_among : (ms : List ℕ) (m : ℕ) → Decides (list_any (λ y. y == m) ms) (Contains ms m)
found_among ms m = is_member-Decides {eq = λ q y. y == q} (λ a b. (λ e. sym (eqb-true b a e), λ e. eq-eqb b a (sym e))) ms m

pub not_among : (ms : List ℕ) (m : ℕ) → list_any (λ y. y == m) ms ≡ false → Contains ms m → ⊥
not_among ms m none has = let both : true ≡ false = sym ((found_among ms m).1 has) ∙ none in cc

-- one more that isn't among them
pub peers_more : (ms : List ℕ) (m : ℕ) → ArePeers ms → m < 2 ^ 32 → (Contains ms m → ⊥) → ArePeers (ms ++ m ∷ [])
peers_more ms m are small new = (
  AllByRecursion-push (λ p. p < 2 ^ 32) ms m are.0 small,
  all_pairs_push (λ p q. p ≢ q) ms m are.1 (λ k d low is. new (k, low, get_or_default ms k m d low ∙ is)),
)

-- what stands among the first of these doesn't stand behind them
pub not_again : (ps ms : List ℕ) (i m : ℕ) → ArePeers ps → ms ≡ take i ps → i < length ps → m ≡ get_or ps i 0 → Contains ms m → ⊥
not_again ps ms i m are same low is has =
    let within : has.0 < length (take i ps) = (let l : has.0 < length ms = has.1 in let e : length ms ≡ length (take i ps) = ap length same in omega arith) in
    let before : has.0 < i = omega (arith, length-take i ps) in
    are.1 has.0 i m before low (sym (get_or-take i ps has.0 m before) ∙ (ap (λ l. get_or l has.0 m) (sym same) ∙ has.2 ∙ is ∙ get_or_default ps i 0 m low))

pub nth_peer : (ps : List ℕ) (i : ℕ) → AllByRecursion (λ p. p < 2 ^ 32) ps → get_or ps i 0 < 2 ^ 32
nth_peer [] i all = omega arith
nth_peer (p ∷ ps) zero all = all.0
nth_peer (p ∷ ps) (suc i) all = nth_peer ps i all.1

-- WORDS

pub means_all : (p : Peers) → IsPeers p → codes "all" ≡ peers_text p → all_peers ≡ p
means_all all_peers is same = refl
means_all (some_peers []) is same = absurd cc
means_all (some_peers (q ∷ ps)) is same = absurd (let digit : IsDigitByte 97 = other_byte 97 (codes "ll") q ps is.0.0 same in let high : 97 < 58 = digit.1 in omega arith)

pub means_none : (p : Peers) → IsPeers p → codes "-" ≡ peers_text p → some_peers [] ≡ p
means_none all_peers is same = absurd cc
means_none (some_peers []) is same = refl
means_none (some_peers (q ∷ ps)) is same = absurd (let digit : IsDigitByte 45 = other_byte 45 [] q ps is.0.0 same in let low : 48 ≤ 45 = digit.0 in omega arith)

-- peers by number, at least one
pub record Names (word : List ℕ) (p : Peers) : Type 0 where
  pub peers : List ℕ
  pub is : some_peers peers ≡ p
  pub are : ArePeers peers
  pub some : 0 < length peers
  pub spelled : word ≡ comma_numbers peers

pub means_some : (word : List ℕ) (p : Peers) → IsPeers p → word ≡ peers_text p → (word ≡ codes "all" → ⊥) → (word ≡ codes "-" → ⊥) → Names word p
means_some word all_peers is same all none = absurd (all same)
means_some word (some_peers []) is same all none = absurd (none same)
means_some word (some_peers (q ∷ ps)) is same all none = record { peers = q ∷ ps; is = refl; are = is; some = omega arith; spelled = same }
