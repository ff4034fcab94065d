-- The first line outside the grammar is one line, and a script that is read to its end has none.
use Rattle.std.proofs.Common.{List, None, Option, Some, [], ap, append_assoc, arith, drop, inl, inr, length, length-append, map, refl, subst, suc, sym, take, zero, ℕ, ◌++◌, ◌+◌, ◌-◌, ◌<◌, ◌^◌, ◌∙◌, ◌∷◌, ◌≡◌, ◌≤◌, ◌⊎◌}
use Rattle.std.proofs.Math.Seq.{drop-append_seam, take-add, take-append_seam}
use Rattle.std.proofs.lemmas.Bool.{cases_order}
use Rattle.std.proofs.lemmas.Fmt.{decimal_injective}
use Rattle.std.proofs.lemmas.List.{append-nil, append_cancel_left, append_cancel_right, take-append-le}
use Rattle.std.specs.Fmt.{decimal}
use Rattle.std.specs.List.{AllByRecursion, flat_map}
use Rattle.std.specs.Prelude.{codes}
use Rattle.mar_script.specs.Reading.{EndsByLine, IsFirstOutside, Reads, ReadsTo}
use Rattle.mar_script.specs.Refused.{BeginsWith, HasFirstWord, IsRefused, IsUnended, max_lines}
use Rattle.mar_script.specs.Run.{IsConfigBytes, IsLineBytes, ReadsLines, StopsAt, outside_grammar, read_to_end}
use Rattle.mar_script.specs.Script.{IsLine, IsSettings, Line, Settings, line_bytes, script_bytes, sentence, settings_bytes, settings_words}
use Rattle.mar_script.specs.Words.{numbers_of, words_in}
use Rattle.mar_script.specs.declared.status.Status.{Status as StatusCode}
use Rattle.mar_script.specs.declared.status.Status.TheVariants as status
use Rattle.mar_script.specs.declared.status.Why.{Why}
use Rattle.mar_script.specs.declared.status.Why.TheVariants as why
use Rattle.mar_script.proofs.FirstWords.{heads}
use Rattle.mar_script.proofs.LineEnds.{EndsOnce, config_bytes_end, length_within, line_bytes_end, line_ends, no_front_of_unended, same_line, settings_end}
use Rattle.mar_script.proofs.Lines.{unended_nothing}
use Rattle.mar_script.proofs.Sentences.{settings_cut, settings_numbers, settings_rest}

-- THE FIRST LINE OF SOME BYTES

-- a spelling stands at the front
record HasFront (P : List ℕ → Type 0) (bytes : List ℕ) : Type 0 where
  front : List ℕ
  more : List ℕ
  spelled : P front
  split : bytes ≡ front ++ more

strip : (f g left right : List ℕ) → EndsOnce f → EndsOnce g → f ++ left ≡ g ++ right → (f ≡ g) × (left ≡ right)
strip f g left right a b e =
    let joined = sym (append_assoc a.front (10 ∷ []) left) ∙ ap (λ xs. xs ++ left) (sym a.spelled) ∙ e ∙ ap (λ xs. xs ++ right) b.spelled ∙ append_assoc b.front (10 ∷ []) right in
    let same = same_line a.front b.front left right a.inner b.inner joined in
    (a.spelled ∙ ap (λ xs. xs ++ 10 ∷ []) same.0 ∙ sym b.spelled, same.1)

no_front_of_long : (bytes front more : List ℕ) → IsUnended (take 65_537 bytes) → EndsOnce front → bytes ≡ front ++ more → ⊥
no_front_of_long bytes front more none ends is =
    let within = length_within front ends in
    let room : length front + (65_537 - length front) ≡ 65_537 = omega arith in
    let cut : take 65_537 bytes ≡ front ++ take (65_537 - length front) more =
    ap (λ k. take k bytes) (sym room) ∙ take-add (length front) (65_537 - length front) bytes
    ∙ ap (λ xs. take (length front) xs ++ take (65_537 - length front) (drop (length front) xs)) is
    ∙ ap (λ xs. xs ++ take (65_537 - length front) (drop (length front) (front ++ more))) (take-append_seam front more)
    ∙ ap (λ xs. front ++ take (65_537 - length front) xs) (drop-append_seam front more) in
    no_front_of_unended (take 65_537 bytes) front (take (65_537 - length front) more) none ends cut

no_front_of_other : (P : List ℕ → Type 0) (bytes line still front more : List ℕ) → ((xs : List ℕ) → P xs → EndsOnce xs) → bytes ≡ line ++ 10 ∷ still → IsUnended line → (P (line ++ 10 ∷ []) → ⊥) → P front → bytes ≡ front ++ more → ⊥
no_front_of_other P bytes line still front more all_end cut none refused is split =
    let ends = all_end front is in
    let behind : bytes ≡ ends.front ++ 10 ∷ more = split ∙ ap (λ xs. xs ++ more) ends.spelled ∙ append_assoc ends.front (10 ∷ []) more in
    let same : line ≡ ends.front = (same_line line ends.front still more none ends.inner (sym cut ∙ behind)).0 in
    refused (subst P (ends.spelled ∙ ap (λ xs. xs ++ 10 ∷ []) (sym same)) is)

begins_once : {P : List ℕ → Type 0} (bytes : List ℕ) (b : BeginsWith P bytes) → EndsOnce (b.line ++ 10 ∷ [])
begins_once bytes b = record { front = b.line; spelled = refl; inner = b.unended; short = b.short }

begins_apart : {P : List ℕ → Type 0} (bytes : List ℕ) (b : BeginsWith P bytes) → bytes ≡ (b.line ++ 10 ∷ []) ++ b.behind
begins_apart bytes b = b.split ∙ sym (append_assoc b.line (10 ∷ []) b.behind)

begins_some : {P : List ℕ → Type 0} (bytes : List ℕ) → BeginsWith P bytes → bytes ≡ [] → ⊥
begins_some bytes b none = omega (arith, ap length b.split, ap length none, length-append b.line (10 ∷ b.behind))

begins_more : {P : List ℕ → Type 0} (bytes left : List ℕ) → BeginsWith P bytes → BeginsWith P (bytes ++ left)
begins_more bytes left b =
    record { line = b.line; behind = b.behind ++ left; split = ap (λ xs. xs ++ left) b.split ∙ append_assoc b.line (10 ∷ b.behind) left; unended = b.unended; short = b.short; is = b.is }

-- WHY A LINE IS REFUSED

-- the reason stands whatever was left
widen : (k : ℕ) (P : List ℕ → Type 0) (rest left : List ℕ) (reason : Why) → IsRefused k P rest left reason → IsRefused k P (rest ++ left) [] reason
widen k P rest left why.TooMany is = (is.0, omega (arith, is.1, length-append rest left))
widen k P rest left why.TooLong is = (is.0, omega (arith, is.1, length-append rest left), subst IsUnended (sym (take-append-le 65_537 rest left is.1)) is.2)
widen k P rest left why.Unended is =
    let all : rest ≡ rest ++ left = sym (append-nil rest) ∙ ap (λ xs. rest ++ xs) (sym is.4) in
    (is.0, subst (λ xs. 0 < length xs) all is.1, subst (λ xs. length xs ≤ 65_536) all is.2, subst IsUnended all is.3, refl)
widen k P rest left why.NoConfig (first, inl none) = (first, inl (ap (λ xs. xs ++ left) none.0 ∙ none.1, refl))
widen k P rest left why.NoConfig (first, inr other) = (first, inr (begins_more rest left other))
widen k P rest left why.Grammar is = (is.0, begins_more rest left is.1)

-- no spelling stands at the front, unless the line is one too many
no_front : (k : ℕ) (P : List ℕ → Type 0) (rest left : List ℕ) (reason : Why) → ((xs : List ℕ) → P xs → EndsOnce xs) → (k ≡ 1 → (xs : List ℕ) → P (xs ++ 10 ∷ []) → HasFirstWord (codes "config") xs) → IsRefused k P rest left reason → (k ≡ max_lines + 1) ⊎ (HasFront P rest → ⊥)
no_front k P rest left why.TooMany all_end config is = inl is.0
no_front k P rest left why.TooLong all_end config is = inr (λ has. no_front_of_long rest has.front has.more is.2 (all_end has.front has.spelled) has.split)
no_front k P rest left why.Unended all_end config is = inr (λ has. no_front_of_unended rest has.front has.more is.3 (all_end has.front has.spelled) has.split)
no_front k P rest left why.NoConfig all_end config (first, inl none) =
    inr (λ has. no_front_of_unended rest has.front has.more (subst IsUnended (sym none.0) unended_nothing) (all_end has.front has.spelled) has.split)
no_front k P rest left why.NoConfig all_end config (first, inr b) = inr (λ has. no_front_of_other P rest b.line b.behind has.front has.more all_end b.split b.unended (λ p. b.is (config first b.line p)) has.spelled has.split)
no_front k P rest left why.Grammar all_end config (few, b) = inr (λ has. no_front_of_other P rest b.line b.behind has.front has.more all_end b.split b.unended b.is.1 has.spelled has.split)

-- each reason has its place in their order
abbrev order : Why → ℕ
order why.TooMany = 0
order why.TooLong = 1
order why.Unended = 2
order why.NoConfig = 3
order why.Grammar = 4

abbrev at_place : ℕ → Why
at_place zero = why.TooMany
at_place (suc zero) = why.TooLong
at_place (suc (suc zero)) = why.Unended
at_place (suc (suc (suc zero))) = why.NoConfig
at_place n = why.Grammar

placed : (a : Why) → at_place (order a) ≡ a
placed why.TooMany = refl
placed why.TooLong = refl
placed why.Unended = refl
placed why.NoConfig = refl
placed why.Grammar = refl

within : (a : Why) → order a ≤ 4
within why.TooMany = omega arith
within why.TooLong = omega arith
within why.Unended = omega arith
within why.NoConfig = omega arith
within why.Grammar = omega arith

-- a line is refused for one reason
not_later : (k : ℕ) (P Q : List ℕ → Type 0) (rest : List ℕ) (a b : Why) → IsRefused k P rest [] a → IsRefused k Q rest [] b → order a < order b → ⊥
not_later k P Q rest why.TooMany why.TooLong is also before = omega (arith, is.0, also.0)
not_later k P Q rest why.TooMany why.Unended is also before = omega (arith, is.0, also.0)
not_later k P Q rest why.TooMany why.NoConfig is also before = omega (arith, is.0, also.0)
not_later k P Q rest why.TooMany why.Grammar is also before = omega (arith, is.0, also.0)
not_later k P Q rest why.TooLong why.Unended is also before = omega (arith, is.1, also.2)
not_later k P Q rest why.TooLong why.NoConfig is (first, inl none) before = omega (arith, is.1, ap length none.0)
not_later k P Q rest why.TooLong why.NoConfig is (first, inr b) before = no_front_of_long rest _ b.behind is.2 (begins_once rest b) (begins_apart rest b)
not_later k P Q rest why.TooLong why.Grammar is (few, b) before = no_front_of_long rest _ b.behind is.2 (begins_once rest b) (begins_apart rest b)
not_later k P Q rest why.Unended why.NoConfig is (first, inl none) before = omega (arith, is.1, ap length none.0)
not_later k P Q rest why.Unended why.NoConfig is (first, inr b) before = no_front_of_unended rest _ b.behind is.3 (begins_once rest b) (begins_apart rest b)
not_later k P Q rest why.Unended why.Grammar is (few, b) before = no_front_of_unended rest _ b.behind is.3 (begins_once rest b) (begins_apart rest b)
not_later k P Q rest why.NoConfig why.Grammar (first, inl none) (few, b) before = begins_some rest b none.0
not_later k P Q rest why.NoConfig why.Grammar (first, inr a) (few, b) before =
    let same = same_line a.line b.line a.behind b.behind a.unended b.unended (sym a.split ∙ b.split) in
    a.is (subst (HasFirstWord (codes "config")) (sym same.0) (b.is.0 first))
not_later k P Q rest a b is also before = absurd (omega (arith, before, within b))

one_reason : (k : ℕ) (P Q : List ℕ → Type 0) (rest : List ℕ) (a b : Why) → IsRefused k P rest [] a → IsRefused k Q rest [] b → a ≡ b
one_reason k P Q rest a b is also = sym (placed a) ∙ ap at_place (elim (cases_order (order a) (order b)) [
  | inl same ↦ same
  | inr (inl before) ↦ absurd (not_later k P Q rest a b is also before)
  | inr (inr behind) ↦ absurd (not_later k Q P rest b a also is behind)
]) ∙ placed b

few_members : (s : Settings) → IsSettings s → s.members < 2 ^ 64
few_members s is = omega (arith, is.members.1)

widened : (settings : Option Settings) (lines : List Line) (rest taken left all : List ℕ) (n : ℕ) (reason : Why) → all ≡ taken ++ left → ReadsLines settings lines rest (outside_grammar n reason) taken left → ReadsLines settings lines (rest ++ left) (outside_grammar n reason) all []
widened None lines rest taken left all n reason is reads = (reads.0, is ∙ ap (λ xs. xs ++ left) reads.1, (reads.2.0, widen 1 IsConfigBytes rest left reason reads.2.1))
widened (Some s) lines rest taken left all n reason is reads = (
  is ∙ ap (λ xs. xs ++ left) reads.0 ∙ append_assoc (script_bytes s lines) rest left,
  reads.1,
  reads.2,
  reads.3,
  (reads.4.0, widen (length lines + 2) (IsLineBytes s.members) rest left reason reads.4.1),
)

outside : (all : List ℕ) (now : Option (List ℕ)) (n : ℕ) (reason : Why) → ReadsTo (Some all) now (outside_grammar n reason) → IsFirstOutside all n reason
outside all now n reason r = record {
  settings = r.reading.settings;
  lines = r.reading.lines;
  rest = r.reading.rest ++ r.left;
  reads = widened r.reading.settings r.reading.lines r.reading.rest r.taken r.left all n reason r.told r.reading.reads;
}

pub script_is : (all : List ℕ) (source now : Option (List ℕ)) (code : StatusCode) (n : ℕ) (reason : Why) → Reads source now code → source ≡ Some all → code ≡ status.Script n reason → IsFirstOutside all n reason
script_is all source now code n reason reads told is =
    outside all now n reason (subst (λ (c : StatusCode). Reads (Some all) now c) is (subst (λ (s : Option (List ℕ)). Reads s now code) told reads))

-- TWO READINGS OF THE SAME BYTES

-- the rest begins with no further line, or there are as many lines as may be
abbrev Blocked : ℕ → List Line → List ℕ → Type 0
Blocked n lines rest = (length lines + 2 ≡ max_lines + 1) ⊎ (HasFront (IsLineBytes n) rest → ⊥)

-- two readings of bytes are of as many lines, or one has a further line
abbrev Apart : ℕ → List Line → List Line → List ℕ → List ℕ → Type 0
Apart n xs ys p q = ((length xs ≡ length ys) × (p ≡ q)) ⊎ ((length xs < length ys) × HasFront (IsLineBytes n) p) ⊎ ((length ys < length xs) × HasFront (IsLineBytes n) q)

further : (n : ℕ) (x y : Line) (xs ys : List Line) (p q : List ℕ) → Apart n xs ys p q → Apart n (x ∷ xs) (y ∷ ys) p q
further n x y xs ys p q (inl same) = inl (omega (arith, same.0), same.1)
further n x y xs ys p q (inr (inl shorter)) = inr (inl (omega (arith, shorter.0), shorter.1))
further n x y xs ys p q (inr (inr longer)) = inr (inr (omega (arith, longer.0), longer.1))

apart : (n : ℕ) (xs ys : List Line) (p q : List ℕ) → n < 2 ^ 64 → AllByRecursion (IsLine n) xs → AllByRecursion (IsLine n) ys → flat_map line_bytes xs ++ p ≡ flat_map line_bytes ys ++ q → Apart n xs ys p q
apart n [] [] p q wide a b e = inl (refl, e)
apart n [] (y ∷ ys) p q wide a b e = inr (inl (omega arith, record { front = line_bytes y; more = flat_map line_bytes ys ++ q; spelled = (y, b.0, refl); split = e ∙ append_assoc (line_bytes y) (flat_map line_bytes ys) q }))
apart n (x ∷ xs) [] p q wide a b e = inr (inr (omega arith, record { front = line_bytes x; more = flat_map line_bytes xs ++ p; spelled = (x, a.0, refl); split = sym e ∙ append_assoc (line_bytes x) (flat_map line_bytes xs) p }))
apart n (x ∷ xs) (y ∷ ys) p q wide a b e =
    let rest = strip (line_bytes x) (line_bytes y) (flat_map line_bytes xs ++ p) (flat_map line_bytes ys ++ q) (line_ends n x wide a.0) (line_ends n y wide b.0)
    (sym (append_assoc (line_bytes x) (flat_map line_bytes xs) p) ∙ e ∙ append_assoc (line_bytes y) (flat_map line_bytes ys) q) in
    further n x y xs ys p q (apart n xs ys p q wide a.1 b.1 rest.1)

same_members : (s t : Settings) → IsSettings s → IsSettings t → settings_bytes s ≡ settings_bytes t → s.members ≡ t.members
unfolding settings_bytes
same_members s t is also e =
    let lines : sentence (settings_words s) ≡ sentence (settings_words t) = append_cancel_right _ _ (10 ∷ []) e in
    let rests = append_cancel_left (codes "config ") (sentence (map decimal (numbers_of s))) (sentence (map decimal (numbers_of t))) lines in
    let words = sym (settings_cut s is) ∙ ap words_in rests ∙ settings_cut t also in
    decimal_injective s.members t.members (settings_numbers s is).0 (settings_numbers t also).0 (heads _ _ _ _ words).0

both : (n : ℕ) (xs ys : List Line) (p q : List ℕ) → length xs < max_lines → length ys < max_lines → Blocked n xs p → Blocked n ys q → Apart n xs ys p q → (length xs ≡ length ys) × (p ≡ q)
both n xs ys p q few also a b (inl same) = same
both n xs ys p q few also (inl many) b (inr (inl shorter)) = absurd (omega (arith, many, also, shorter.0))
both n xs ys p q few also (inr none) b (inr (inl shorter)) = absurd (none shorter.1)
both n xs ys p q few also a (inl many) (inr (inr longer)) = absurd (omega (arith, many, few, longer.0))
both n xs ys p q few also a (inr none) (inr (inr longer)) = absurd (none longer.1)

same_reading : (s t : Settings) (xs ys : List Line) (p q : List ℕ) → IsSettings s → IsSettings t → AllByRecursion (IsLine s.members) xs → AllByRecursion (IsLine t.members) ys → length xs < max_lines → length ys < max_lines
    → Blocked s.members xs p → Blocked t.members ys q → script_bytes s xs ++ p ≡ script_bytes t ys ++ q → (length xs ≡ length ys) × (p ≡ q)
same_reading s t xs ys p q is also a b few few' blocked blocked' e =
    let rest = strip (settings_bytes s) (settings_bytes t) (flat_map line_bytes xs ++ p) (flat_map line_bytes ys ++ q) (settings_end s is) (settings_end t also)
    (sym (append_assoc (settings_bytes s) (flat_map line_bytes xs) p) ∙ e ∙ append_assoc (settings_bytes t) (flat_map line_bytes ys) q) in
    let members = same_members s t is also rest.0 in
    both s.members xs ys p q few few' blocked (subst (λ (n : ℕ). Blocked n ys q) (sym members) blocked')
    (apart s.members xs ys p q (few_members s is) a (subst (λ (n : ℕ). AllByRecursion (IsLine n) ys) (sym members) b) rest.1)

config_word : (xs : List ℕ) → IsConfigBytes (xs ++ 10 ∷ []) → HasFirstWord (codes "config") xs
config_word xs (s, is, same) = inr (sentence (map decimal (numbers_of s)), settings_rest xs s same)

-- the first line of a script that is begun is in the grammar
begun : (s : Settings) (xs : List Line) (p q all : List ℕ) (n : ℕ) (reason : Why) → IsSettings s → all ≡ script_bytes s xs ++ p → all ≡ q → StopsAt 1 IsConfigBytes q [] (outside_grammar n reason) → ⊥
begun s xs p q all n reason is e f stops = elim (no_front 1 IsConfigBytes q [] reason config_bytes_end (λ first. config_word) stops.1) [
  | inl many ↦ omega (arith, many)
  | inr none ↦ none (record { front = settings_bytes s; more = flat_map line_bytes xs ++ p; spelled = (s, is, refl); split = sym f ∙ e ∙ append_assoc (settings_bytes s) (flat_map line_bytes xs) p })
]

blocked : (n j : ℕ) (reason : Why) (lines : List Line) (rest left : List ℕ) → n < 2 ^ 64 → StopsAt (length lines + 2) (IsLineBytes n) rest left (outside_grammar j reason) → Blocked n lines rest
blocked n j reason lines rest left wide stops = no_front (length lines + 2) (IsLineBytes n) rest left reason (λ xs. line_bytes_end n xs wide) (λ first. absurd (omega (arith, first))) stops.1

one_line : (a b : Option Settings) (xs ys : List Line) (p q all : List ℕ) (m n : ℕ) (x y : Why) → ReadsLines a xs p (outside_grammar m x) all [] → ReadsLines b ys q (outside_grammar n y) all [] → (m ≡ n) × (x ≡ y)
one_line None None xs ys p q all m n x y r t =
    (r.2.0 ∙ sym t.2.0, one_reason 1 IsConfigBytes IsConfigBytes q x y (subst (λ bs. IsRefused 1 IsConfigBytes bs [] x) (sym r.1 ∙ t.1) r.2.1) t.2.1)
one_line None (Some s) xs ys p q all m n x y r t = absurd (begun s ys q p all m x t.1 t.0 r.1 r.2)
one_line (Some s) None xs ys p q all m n x y r t = absurd (begun s xs p q all n y r.1 r.0 t.1 t.2)
one_line (Some s) (Some u) xs ys p q all m n x y r t =
    let same = same_reading s u xs ys p q r.1 t.1 r.2 t.2 r.3 t.3 (blocked s.members m x xs p [] (few_members s r.1) r.4) (blocked u.members n y ys q [] (few_members u t.1) t.4) (sym r.0 ∙ t.0) in
    let here = subst (λ k. IsRefused k (IsLineBytes s.members) q [] x) (ap (λ k. k + 2) same.0) (subst (λ bs. IsRefused (length xs + 2) (IsLineBytes s.members) bs [] x) same.1 r.4.1) in
    (omega (arith, r.4.0, t.4.0, same.0), one_reason (length ys + 2) (IsLineBytes s.members) (IsLineBytes u.members) q x y here t.4.1)

nothing_behind : (n : ℕ) (rest : List ℕ) → n < 2 ^ 64 → rest ≡ [] → HasFront (IsLineBytes n) rest → ⊥
nothing_behind n rest wide none has = no_front_of_unended rest has.front has.more (subst IsUnended (sym none) unended_nothing) (line_bytes_end n has.front wide has.spelled) has.split

-- what is refused behind the first line is something
some_behind : (k : ℕ) (P : List ℕ → Type 0) (rest : List ℕ) (reason : Why) → 1 < k → rest ≡ [] → IsRefused k P rest [] reason → ⊥
some_behind k P rest why.TooMany later none is = omega (arith, is.1, ap length none)
some_behind k P rest why.TooLong later none is = omega (arith, is.1, ap length none)
some_behind k P rest why.Unended later none is = omega (arith, is.1, ap length none)
some_behind k P rest why.NoConfig later none is = omega (arith, is.0, later)
some_behind k P rest why.Grammar later none is = begins_some rest is.1 none

no_line : (a b : Option Settings) (xs ys : List Line) (p q taken left all : List ℕ) (n : ℕ) (reason : Why) → all ≡ taken ++ left → ReadsLines a xs p read_to_end taken left → ReadsLines b ys q (outside_grammar n reason) all [] → ⊥
no_line None b xs ys p q taken left all n reason is r t = omega (arith, r.2.0)
no_line (Some s) None xs ys p q taken left all n reason is r t = begun s xs (p ++ left) q all n reason r.1 (is ∙ ap (λ l. l ++ left) r.0 ∙ append_assoc (script_bytes s xs) p left) t.1 t.2
no_line (Some s) (Some u) xs ys p q taken left all n reason is r t =
    let end : p ++ left ≡ [] = ap (λ l. p ++ l) r.4.2 ∙ append-nil p ∙ r.4.1 in
    let same = same_reading s u xs ys (p ++ left) q r.1 t.1 r.2 t.2 r.3 t.3 (inr (nothing_behind s.members (p ++ left) (few_members s r.1) end)) (blocked u.members n reason ys q [] (few_members u t.1) t.4)
    (sym (append_assoc (script_bytes s xs) p left) ∙ ap (λ l. l ++ left) (sym r.0) ∙ sym is ∙ t.0) in
    some_behind (length ys + 2) (IsLineBytes u.members) q reason (omega arith) (sym same.1 ∙ end) t.4.1

ends_by : (all : List ℕ) (now : Option (List ℕ)) (code : StatusCode) (n : ℕ) (reason : Why) → (code ≡ status.Usage → ⊥) → Reads (Some all) now code → IsFirstOutside all n reason → EndsByLine n reason code
ends_by all now (status.Script m told) n reason used reads first =
    let here = outside all now m told reads in one_line here.settings first.settings here.lines first.lines here.rest first.rest all m n told reason here.reads first.reads
ends_by all now status.Ok n reason used reads first =
    no_line reads.reading.settings first.settings reads.reading.lines first.lines reads.reading.rest first.rest reads.taken reads.left all n reason reads.told reads.reading.reads first.reads
ends_by all now status.Memory n reason used reads first = tt
ends_by all now status.ReadFault n reason used reads first = tt
ends_by all now status.WriteFault n reason used reads first = tt
ends_by all now status.Usage n reason used reads first = used refl

pub outside_is : (all : List ℕ) (source now : Option (List ℕ)) (code : StatusCode) (n : ℕ) (reason : Why) → (code ≡ status.Usage → ⊥) → Reads source now code → source ≡ Some all → IsFirstOutside all n reason → EndsByLine n reason code
outside_is all source now code n reason used reads told first = ends_by all now code n reason used (subst (λ (s : Option (List ℕ)). Reads s now code) told reads) first
