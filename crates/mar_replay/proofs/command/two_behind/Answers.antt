use Rattle.std.proofs.Common.{List, [], ap, arith, get_or, length, map, string_bytes, sym, ℕ, ◌<◌, ◌∙◌, ◌∷◌, ◌≡◌}
use Rattle.mar_script.proofs.Numbers.{not_other}
use Rattle.mar_script.proofs.Spelled.{same_bytes}
use Rattle.mar_replay.proofs.command.two_behind.Goals as goal

-- a list of three
triple : {A : Type 0} (xs : List A) (x y z : A) → 2 < length xs → length xs < 4 → x ≡ get_or xs 0 x → y ≡ get_or xs 1 y → z ≡ get_or xs 2 z → xs ≡ x ∷ y ∷ z ∷ []
triple [] x y z some few first second third = absurd (omega (arith, some))
triple (a ∷ []) x y z some few first second third = absurd (omega (arith, some))
triple (a ∷ b ∷ []) x y z some few first second third = absurd (omega (arith, some))
triple (a ∷ b ∷ c ∷ []) x y z some few first second third = ap (λ v. v ∷ b ∷ c ∷ []) (sym first) ∙ ap (λ v. x ∷ v ∷ c ∷ []) (sym second) ∙ ap (λ v. x ∷ y ∷ v ∷ []) (sym third)
triple (a ∷ b ∷ c ∷ d ∷ xs) x y z some few first second third = absurd (omega (arith, few))

heads : (a b : List ℕ) (xs ys : List (List ℕ)) → a ∷ xs ≡ b ∷ ys → a ≡ b
heads a b xs ys is = cc

pub returns-then-eq-clause-found : goal.returns-then-eq-clause-found
returns-then-eq-clause-found c =
    let all = ap (map string_bytes) (triple c.args.words.now c.word-item.result c.second-item.result c.third-item.result (omega arith) (omega arith) c.word-item.is c.second-item.is c.third-item.is) in
    let first : string_bytes c.word-item.result ≡ c.args.first.now = sym c.as_str.ensures.value ∙ same_bytes _ _ (sym c.eq.ensures ∙ c.if-eq.true) in
    all ∙ ap (λ v. v ∷ string_bytes c.second-item.result ∷ string_bytes c.third-item.result ∷ []) first ∙ ap (λ v. c.args.first.now ∷ v ∷ string_bytes c.third-item.result ∷ []) (sym c.as_bytes.ensures.value) ∙ ap (λ v. c.args.first.now ∷ c.as_bytes.result.now ∷ v ∷ []) (sym c.as_bytes-then-eq.ensures.value)

pub returns-else-eq-clause-only : goal.returns-else-eq-clause-only
returns-else-eq-clause-only c = λ second third is.
    let all = ap (map string_bytes) (triple c.args.words.now c.word-item.result c.second-item.result c.third-item.result (omega arith) (omega arith) c.word-item.is c.second-item.is c.third-item.is) in
    not_other _ _ (sym c.eq.ensures ∙ c.if-eq.false) (c.as_str.ensures.value ∙ heads _ _ _ _ (sym all ∙ is))
