-- Words that are joined and cut.
use Rattle.std.proofs.Common.{Bool, List, [], ap, append_assoc, arith, drop, false, get_or, length, map, refl, suc, sym, true, zero, ℕ, ◌%◌, ◌++◌, ◌+◌, ◌<◌, ◌^◌, ◌∙◌, ◌∷◌, ◌≡◌, ◌≤◌}
use Rattle.std.specs.Fmt.{decimal}
use Rattle.std.specs.List.{All, AllByRecursion, flat_map, join_with_byte}
use Rattle.std.specs.Prelude.{codes, ◌==◌}
use Rattle.std.proofs.lemmas.Bool.Decides.{nat_tests}
use Rattle.std.proofs.lemmas.Fmt.{decimal_by_steps}
use Rattle.std.proofs.lemmas.Grind.{common_steps, flat_map-append}
use Rattle.mar_model.specs.Pool.{syncs_of}
use Rattle.mar_model.specs.Views.{pooled_of}
use Rattle.mar_model.specs.declared.OpenSync.{OpenSync}
use Rattle.mar_script.specs.Text.{comma_list, sync_text}
use Rattle.std.proofs.lemmas.List.{append-nil, append_cancel_right, map-id}
use Rattle.std.proofs.lemmas.List.Elements.{All-cons, All-nil, All-push, All-weaker}
use Rattle.std.proofs.lemmas.Simd.{map-map}
use Rattle.std.proofs.lemmas.List.Splits.{join_with_byte-slice_split, slice_split_at, slice_split_none}
use Rattle.mar_types.specs.Varint.{IsNumber}
use Rattle.mar_script.specs.Script.{IsSettings, Settings, comma_numbers, sentence, settings_bytes}
use Rattle.mar_script.specs.Words.{numbers_of, words_in}

-- neither a space nor a line's end
abbrev pub IsInk : ℕ → Type 0
IsInk b = 33 ≤ b

pub no_space : (b : ℕ) → IsInk b → (b == 32) ≡ false
no_space b ink = grind (arith, nat_tests)

pub digits_are_ink : (n : ℕ) → n < 2 ^ 64 → All IsInk (decimal n)
digits_are_ink n small = decimal_by_steps (λ m ds. All IsInk ds) (λ m h. All-cons IsInk (48 + m) [] (omega arith) (All-nil IsInk)) (λ m ds h more. All-push IsInk ds (48 + m % 10) more (omega arith)) n small

pub decimals_are_ink : (ns : List ℕ) → AllByRecursion IsNumber ns → AllByRecursion (All IsInk) (map decimal ns)
decimals_are_ink [] h = h
decimals_are_ink (n ∷ ns) h = (digits_are_ink n h.0, decimals_are_ink ns h.1)

-- words of ink, joined by spaces, are cut into the same words
pub words_in-sentence : (w : List ℕ) (ws : List (List ℕ)) → AllByRecursion (All IsInk) (w ∷ ws) → words_in (sentence (w ∷ ws)) ≡ w ∷ ws
words_in-sentence w [] h = slice_split_none (λ b. b == 32) w (All-weaker IsInk (λ b. (b == 32) ≡ false) no_space w h.0)
words_in-sentence w (v ∷ ws) h =
    slice_split_at (λ b. b == 32) w 32 (sentence (v ∷ ws)) (All-weaker IsInk (λ b. (b == 32) ≡ false) no_space w h.0) refl
    ∙ ap (λ l. w ∷ l) (words_in-sentence v ws h.1)

pub sentence-words_in : (line : List ℕ) → sentence (words_in line) ≡ line
sentence-words_in line = join_with_byte-slice_split 32 line

-- the words of a config line behind the first
pub settings_line : (line rest : List ℕ) (s : Settings) → line ≡ codes "config" ++ 32 ∷ rest → words_in rest ≡ map decimal (numbers_of s) → line ++ 10 ∷ [] ≡ settings_bytes s
unfolding settings_bytes
settings_line line rest s is cut =
    ap (λ l. l ++ 10 ∷ []) (is ∙ ap (λ l. codes "config" ++ 32 ∷ l) (sym (sentence-words_in rest) ∙ ap sentence cut))

pub settings_rest : (line : List ℕ) (s : Settings) → line ++ 10 ∷ [] ≡ settings_bytes s → line ≡ codes "config" ++ 32 ∷ sentence (map decimal (numbers_of s))
unfolding settings_bytes
settings_rest line s is = append_cancel_right _ _ (10 ∷ []) is

pub settings_numbers : (s : Settings) → IsSettings s → AllByRecursion IsNumber (numbers_of s)
settings_numbers s ok = (omega (arith, ok.members.1), (omega (arith, ok.epoch_length.1), (omega (arith, ok.window.1), (omega (arith, ok.max_repair.1), (ok.retention, (omega (arith, ok.capacity.1), (omega (arith, ok.epochs, ok.last_epoch), (ok.last_epoch, tt))))))))

pub settings_cut : (s : Settings) → IsSettings s → words_in (sentence (map decimal (numbers_of s))) ≡ map decimal (numbers_of s)
settings_cut s ok = words_in-sentence _ _ (decimals_are_ink (numbers_of s) (settings_numbers s ok))

-- texts of items with a comma before each but the first
pub joined : {S R : Type 0} (g : S → R) (f : R → List ℕ) (x : S) (xs : List S) → join_with_byte 44 (f (g x) ∷ map f (map g xs)) ≡ f (g x) ++ flat_map (λ s. 44 ∷ f (g s)) xs
joined g f x [] = sym (append-nil (f (g x)))
joined g f x (y ∷ ys) = ap (λ l. f (g x) ++ 44 ∷ l) (joined g f y ys)

-- the comma list of items, by the first and those after it
pub shown_list : {S R : Type 0} (g : S → R) (f : R → List ℕ) (xs tail : List S) (x : S) → 0 < length xs → x ≡ get_or xs 0 x → tail ≡ drop 1 xs → comma_list (map f (map g xs)) ≡ f (g x) ++ flat_map (λ s. 44 ∷ f (g s)) tail
shown_list g f [] tail x some is behind = absurd (omega arith)
shown_list g f (y ∷ ys) tail x some is behind = joined g f y ys ∙ ap (λ v. f (g v) ++ flat_map (λ s. 44 ∷ f (g s)) ys) (sym is) ∙ ap (λ l. f (g x) ++ flat_map (λ s. 44 ∷ f (g s)) l) (drop_one y ys ∙ sym behind)
  where
    drop_one : {T : Type 0} (z : T) (zs : List T) → zs ≡ drop 1 (z ∷ zs)
    drop_one z zs = grind (arith, common_steps)

numbers_listed : (xs : List ℕ) → comma_numbers xs ≡ comma_list (map decimal (map (λ p. p) xs))
numbers_listed [] = refl
numbers_listed (x ∷ xs) = ap (λ ys. join_with_byte 44 (decimal x ∷ map decimal ys)) (sym (map-id xs))

-- the same of numbers
pub numbers_shown : (xs tail : List ℕ) (x : ℕ) → 0 < length xs → x ≡ get_or xs 0 x → tail ≡ drop 1 xs → comma_numbers xs ≡ decimal x ++ flat_map (λ p. 44 ∷ decimal p) tail
numbers_shown xs tail x some is behind = numbers_listed xs ∙ shown_list (λ p. p) decimal xs tail x some is behind

-- the comma list of numbers of things
pub numbered_shown : {S : Type 0} (f : S → ℕ) (xs tail : List S) (x : S) → 0 < length xs → x ≡ get_or xs 0 x → tail ≡ drop 1 xs → comma_numbers (map f xs) ≡ decimal (f x) ++ flat_map (λ s. 44 ∷ decimal (f s)) tail
numbered_shown f xs tail x some is behind = numbers_listed (map f xs) ∙ (ap (λ ns. comma_list (map decimal ns)) (map-map (λ p. p) f xs) ∙ shown_list f decimal xs tail x some is behind)

numbers_first : (x : ℕ) (xs : List ℕ) → comma_numbers (x ∷ xs) ≡ decimal x ++ flat_map (λ p. 44 ∷ decimal p) xs
numbers_first x xs = numbers_listed (x ∷ xs) ∙ joined (λ p. p) decimal x xs

-- the comma list of numbers in two parts, the first with one at least
pub numbers_in_parts : (xs ys : List ℕ) → 0 < length xs → comma_numbers (xs ++ ys) ≡ comma_numbers xs ++ flat_map (λ p. 44 ∷ decimal p) ys
numbers_in_parts [] ys some = absurd (omega arith)
numbers_in_parts (x ∷ xs) ys some =
    numbers_first x (xs ++ ys) ∙ ap (λ l. decimal x ++ l) (flat_map-append (λ p. 44 ∷ decimal p) xs ys)
    ∙ sym (append_assoc (decimal x) (flat_map (λ p. 44 ∷ decimal p) xs) (flat_map (λ p. 44 ∷ decimal p) ys))
    ∙ ap (λ l. l ++ flat_map (λ p. 44 ∷ decimal p) ys) (sym (numbers_first x xs))

-- the comma list of open syncs, by the first and those after it
pub syncs_shown : (xs tail : List OpenSync) (x : OpenSync) → 0 < length xs → x ≡ get_or xs 0 x → tail ≡ drop 1 xs → comma_list (map sync_text (syncs_of (map pooled_of xs))) ≡ sync_text (pooled_of x).sync ++ flat_map (λ s. 44 ∷ sync_text (pooled_of s).sync) tail
syncs_shown xs tail x some is behind =
    ap (λ ss. comma_list (map sync_text ss)) (map-map (λ p. p.sync) pooled_of xs) ∙ shown_list (λ s. (pooled_of s).sync) sync_text xs tail x some is behind

pub first_again : {S : Type 0} (xs : List S) (d : S) → 0 < length xs → get_or xs 0 d ≡ get_or xs 0 (get_or xs 0 d)
first_again [] d some = absurd (omega arith)
first_again (x ∷ xs) d some = refl

pub not_empty : (r : Bool) (n : ℕ) → r ≡ (n == 0) → r ≡ false → 0 < n
not_empty r zero e h = absurd (let t : r ≡ true = e in cc (t, h))
not_empty r (suc n) e h = omega arith

-- what was appended in two parts
pub in_two : (new mid old front back whole : List ℕ) → new ≡ mid ++ back → mid ≡ old ++ front → whole ≡ front ++ back → new ≡ old ++ whole
in_two new mid old front back whole e f g = e ∙ ap (λ l. l ++ back) f ∙ append_assoc old front back ∙ ap (λ l. old ++ l) (sym g)

-- the numbers of a line that spells settings
pub config_words : (line rest : List ℕ) (ws : List (List ℕ)) (s : Settings) → IsSettings s → line ++ 10 ∷ [] ≡ settings_bytes s → ((r : List ℕ) → line ≡ codes "config" ++ 32 ∷ r → rest ≡ r) → ws ≡ words_in rest → ws ≡ map decimal (numbers_of s)
config_words line rest ws s ok is only cut = cut ∙ ap words_in (only _ (settings_rest line s is)) ∙ settings_cut s ok
