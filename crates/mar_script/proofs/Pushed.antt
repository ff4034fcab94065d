-- What was appended in parts, and the lines that show a node.
use Rattle.std.proofs.Common.{List, None, Option, Some, [], ap, append_assoc, map, refl, sym, ℕ, ◌++◌, ◌∙◌, ◌∷◌, ◌≡◌}
use Rattle.std.specs.List.{flat_map, join_with_byte}
use Rattle.std.specs.Prelude.{codes}
use Rattle.std.proofs.lemmas.List.{append-nil}
use Rattle.mar_key.specs.Keys.{Annotation, certified_at, finalized_by_height, finalized_by_round, for_notarization, untrusted_at}
use Rattle.mar_script.specs.Script.{sentence}
use Rattle.mar_script.specs.Text.{annotation_words, line_of, target_words}

three : (old a b c : List ℕ) → ((old ++ a) ++ b) ++ c ≡ old ++ (a ++ (b ++ c))
three old a b c = simp append_assoc

four : (old a b c d : List ℕ) → (((old ++ a) ++ b) ++ c) ++ d ≡ old ++ (a ++ (b ++ (c ++ d)))
four old a b c d = simp append_assoc

seven : (old a b c d e f g : List ℕ) → ((((((old ++ a) ++ b) ++ c) ++ d) ++ e) ++ f) ++ g ≡ old ++ (a ++ (b ++ (c ++ (d ++ (e ++ (f ++ g))))))
seven old a b c d e f g = simp append_assoc

pub in_three : (old m1 m2 new a b c whole : List ℕ) → m1 ≡ old ++ a → m2 ≡ m1 ++ b → new ≡ m2 ++ c → whole ≡ a ++ (b ++ c) → new ≡ old ++ whole
in_three old m1 m2 new a b c whole p q r w = r ∙ ap (λ l. l ++ c) (q ∙ ap (λ l. l ++ b) p) ∙ three old a b c ∙ ap (λ l. old ++ l) (sym w)

pub in_four : (old m1 m2 m3 new a b c d : List ℕ) → m1 ≡ old ++ a → m2 ≡ m1 ++ b → m3 ≡ m2 ++ c → new ≡ m3 ++ d → new ≡ old ++ (a ++ (b ++ (c ++ d)))
in_four old m1 m2 m3 new a b c d p q r s = s ∙ ap (λ l. l ++ d) (r ∙ ap (λ l. l ++ c) (q ∙ ap (λ l. l ++ b) p)) ∙ four old a b c d

pub in_seven : (old m1 m2 m3 m4 m5 m6 new a b c d e f g whole : List ℕ) → m1 ≡ old ++ a → m2 ≡ m1 ++ b → m3 ≡ m2 ++ c → m4 ≡ m3 ++ d → m5 ≡ m4 ++ e → m6 ≡ m5 ++ f → new ≡ m6 ++ g → whole ≡ a ++ (b ++ (c ++ (d ++ (e ++ (f ++ g))))) → new ≡ old ++ whole
in_seven old m1 m2 m3 m4 m5 m6 new a b c d e f g whole p q r s t u v w =
    v ∙ ap (λ l. l ++ g) (u ∙ ap (λ l. l ++ f) (t ∙ ap (λ l. l ++ e) (s ∙ ap (λ l. l ++ d) (r ∙ ap (λ l. l ++ c) (q ∙ ap (λ l. l ++ b) p))))) ∙ seven old a b c d e f g ∙ ap (λ l. old ++ l) (sym w)

front4 : (a b c d rest : List ℕ) → (a ++ (b ++ (c ++ d))) ++ rest ≡ a ++ (b ++ (c ++ (d ++ rest)))
front4 a b c d rest = simp append_assoc

-- words with a space between and a line's end, from the front
abbrev ended_by : List (List ℕ) → List ℕ
ended_by [] = 10 ∷ []
ended_by (w ∷ []) = w ++ 10 ∷ []
ended_by (w ∷ v ∷ ws) = w ++ (32 ∷ ended_by (v ∷ ws))

line_end : (ws : List (List ℕ)) → line_of ws ≡ ended_by ws
line_end [] = refl
line_end (w ∷ []) = refl
line_end (w ∷ v ∷ ws) = append_assoc w (32 ∷ sentence (v ∷ ws)) (10 ∷ []) ∙ ap (λ l. w ++ (32 ∷ l)) (line_end (v ∷ ws))

pub node_line : (p o c b bs f fs u s y : List ℕ) → line_of (codes "node" ∷ (codes "p=" ++ p) ∷ (codes "o=" ++ o) ∷ (codes "c=" ++ c) ∷ codes "w=-" ∷ (codes "b=" ++ b) ∷ (codes "bs=" ++ bs) ∷ (codes "f=" ++ f) ∷ (codes "fs=" ++ fs) ∷ (codes "u=" ++ u) ∷ (codes "s=" ++ s) ∷ (codes "y=" ++ y) ∷ [])
    ≡ (codes "node p=" ++ (p ++ (codes " o=" ++ o))) ++ (codes " c=" ++ (c ++ (codes " w=-" ++ (((32 ∷ (codes "b=" ++ b)) ++ ((32 ∷ (codes "bs=" ++ bs)) ++ ((32 ∷ (codes "f=" ++ f)) ++ (32 ∷ (codes "fs=" ++ fs))))) ++ ((codes " u=" ++ (u ++ (codes " s=" ++ s))) ++ (codes " y=" ++ (y ++ codes "\n")))))))
node_line p o c b bs f fs u s y =
    line_end (codes "node" ∷ (codes "p=" ++ p) ∷ (codes "o=" ++ o) ∷ (codes "c=" ++ c) ∷ codes "w=-" ∷ (codes "b=" ++ b) ∷ (codes "bs=" ++ bs) ∷ (codes "f=" ++ f) ∷ (codes "fs=" ++ fs) ∷ (codes "u=" ++ u) ∷ (codes "s=" ++ s) ∷ (codes "y=" ++ y) ∷ [])
    ∙ sym (
    ap (λ l. (codes "node p=" ++ (p ++ (codes " o=" ++ o))) ++ (codes " c=" ++ (c ++ (codes " w=-" ++ (((32 ∷ (codes "b=" ++ b)) ++ ((32 ∷ (codes "bs=" ++ bs)) ++ ((32 ∷ (codes "f=" ++ f)) ++ (32 ∷ (codes "fs=" ++ fs))))) ++ l))))) (front4 (codes " u=") u (codes " s=") s (codes " y=" ++ (y ++ codes "\n")))
    ∙ ap (λ l. (codes "node p=" ++ (p ++ (codes " o=" ++ o))) ++ (codes " c=" ++ (c ++ (codes " w=-" ++ l)))) (front4 (32 ∷ (codes "b=" ++ b)) (32 ∷ (codes "bs=" ++ bs)) (32 ∷ (codes "f=" ++ f)) (32 ∷ (codes "fs=" ++ fs)) (codes " u=" ++ (u ++ (codes " s=" ++ (s ++ (codes " y=" ++ (y ++ codes "\n")))))))
    ∙ front4 (codes "node p=") p (codes " o=") o (codes " c=" ++ (c ++ (codes " w=-" ++ ((32 ∷ (codes "b=" ++ b)) ++ ((32 ∷ (codes "bs=" ++ bs)) ++ ((32 ∷ (codes "f=" ++ f)) ++ ((32 ∷ (codes "fs=" ++ fs)) ++ (codes " u=" ++ (u ++ (codes " s=" ++ (s ++ (codes " y=" ++ (y ++ codes "\n")))))))))))))
    )

pub ended_line : (p c bs bm fs fm : List ℕ) → line_of (codes "node" ∷ codes "end" ∷ (codes "p=" ++ p) ∷ (codes "c=" ++ c) ∷ (codes "bs=" ++ bs) ∷ (codes "bm=" ++ bm) ∷ (codes "fs=" ++ fs) ∷ (codes "fm=" ++ fm) ∷ [])
    ≡ (codes "node end p=" ++ (p ++ (codes " c=" ++ c))) ++ (((32 ∷ (codes "bs=" ++ bs)) ++ ((32 ∷ (codes "bm=" ++ bm)) ++ ((32 ∷ (codes "fs=" ++ fs)) ++ (32 ∷ (codes "fm=" ++ fm))))) ++ codes "\n")
ended_line p c bs bm fs fm =
    line_end (codes "node" ∷ codes "end" ∷ (codes "p=" ++ p) ∷ (codes "c=" ++ c) ∷ (codes "bs=" ++ bs) ∷ (codes "bm=" ++ bm) ∷ (codes "fs=" ++ fs) ∷ (codes "fm=" ++ fm) ∷ [])
    ∙ sym (
    ap (λ l. (codes "node end p=" ++ (p ++ (codes " c=" ++ c))) ++ l) (front4 (32 ∷ (codes "bs=" ++ bs)) (32 ∷ (codes "bm=" ++ bm)) (32 ∷ (codes "fs=" ++ fs)) (32 ∷ (codes "fm=" ++ fm)) (codes "\n"))
    ∙ front4 (codes "node end p=") p (codes " c=") c ((32 ∷ (codes "bs=" ++ bs)) ++ ((32 ∷ (codes "bm=" ++ bm)) ++ ((32 ∷ (codes "fs=" ++ fs)) ++ ((32 ∷ (codes "fm=" ++ fm)) ++ codes "\n"))))
    )

-- a first word and others, each of these with a space before it
spaced : {S : Type 0} (f : S → List ℕ) (x : List ℕ) (xs : List S) → join_with_byte 32 (x ∷ map f xs) ≡ x ++ flat_map (λ s. 32 ∷ f s) xs
spaced f x [] = sym (append-nil x)
spaced f x (y ∷ ys) = ap (λ l. x ++ 32 ∷ l) (spaced f (f y) ys)

-- a first word, others and the line's end, appended one after another
pub in_line : {S : Type 0} (f : S → List ℕ) (old m1 m2 new x : List ℕ) (xs : List S) → m1 ≡ old ++ x → m2 ≡ m1 ++ flat_map (λ s. 32 ∷ f s) xs → new ≡ m2 ++ 10 ∷ [] → new ≡ old ++ line_of (x ∷ map f xs)
in_line f old m1 m2 new x xs p q r =
    r ∙ ap (λ l. l ++ 10 ∷ []) (q ∙ ap (λ l. l ++ flat_map (λ s. 32 ∷ f s) xs) p ∙ append_assoc old x (flat_map (λ s. 32 ∷ f s) xs) ∙ ap (λ l. old ++ l) (sym (spaced f x xs)))
    ∙ append_assoc old (join_with_byte 32 (x ∷ map f xs)) (10 ∷ [])

-- the two words of an annotation in one
pub request_line : (h : List ℕ) (a : Annotation) (targets : Option (List ℕ)) → line_of (codes "fetch" ∷ h ∷ sentence (annotation_words a) ∷ target_words targets) ≡ line_of (codes "fetch" ∷ h ∷ (annotation_words a ++ target_words targets))
request_line h (for_notarization r) None = refl
request_line h (for_notarization r) (Some peers) = refl
request_line h (untrusted_at n) None = refl
request_line h (untrusted_at n) (Some peers) = refl
request_line h (certified_at n) None = refl
request_line h (certified_at n) (Some peers) = refl
request_line h (finalized_by_height n) None = refl
request_line h (finalized_by_height n) (Some peers) = refl
request_line h (finalized_by_round r) None = refl
request_line h (finalized_by_round r) (Some peers) = refl
