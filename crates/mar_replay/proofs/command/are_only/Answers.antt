use Rattle.std.proofs.Common.{List, arith, ap, length, map, string_bytes, ◌<◌, ◌≤◌, ◌∙◌, ◌∷◌, ◌≡◌, [], sym}
use Rattle.mar_script.proofs.Spelled.{only_word, single}
use Rattle.mar_replay.proofs.command.are_only.Goals as goal

pub returns-in-len1 : goal.returns-in-len1
returns-in-len1 c = only_word _ _ _ _ c.eq.ensures (ap (map string_bytes) (single c.args.words.now c.only-item.result (omega arith) (omega arith) c.only-item.is) ∙ ap (λ v. v ∷ []) (sym c.as_str.ensures.value))

-- a list that isn't of one is mapped to none
none_alone : {A B : Type 0} (f : A → B) (xs : List A) (y : B) → length xs < 1 → map f xs ≡ y ∷ [] → ⊥
none_alone f [] y few is = cc
none_alone f (x ∷ xs) y few is = omega (arith, few)

more_alone : {A B : Type 0} (f : A → B) (xs : List A) (y : B) → 2 ≤ length xs → map f xs ≡ y ∷ [] → ⊥
more_alone f [] y many is = omega (arith, many)
more_alone f (x ∷ []) y many is = omega (arith, many)
more_alone f (w ∷ x ∷ xs) y many is = cc

pub returns-in_default : goal.returns-in_default
returns-in_default c = (λ is. absurd cc, λ is. absurd (none_alone string_bytes c.args.words.now c.args.word.now c.in_default.len_below is))

pub returns-in_default-2 : goal.returns-in_default-2
returns-in_default-2 c = (λ is. absurd cc, λ is. absurd (more_alone string_bytes c.args.words.now c.args.word.now c.in_default.len_at_least is))
