-- What stands in a commitment's field.
use Rattle.std.proofs.Common.{◌≡◌, ℕ, Bool, true, false, List, [], ◌∷◌, ◌++◌, length, refl, sym, ◌∙◌, ap, subst, arith}
use Rattle.mar_types.specs.Codec.{Takes}

-- a front as long as the whole is the whole
whole_front : (front rest : List ℕ) → length front ≡ length (front ++ rest) → front ≡ front ++ rest
whole_front [] [] e = refl
whole_front [] (r ∷ rest) e = absurd (omega arith)
whole_front (x ∷ front) rest e = ap (λ xs. x ∷ xs) (whole_front front rest (omega arith))

pub takes_whole : (Spells : List ℕ → Type 0) (front old new : List ℕ) → length front ≡ length old → Takes Spells front old new → Spells old
takes_whole Spells front old new long t = subst Spells (whole_front front new (long ∙ ap length t.taken) ∙ sym t.taken) t.in_grammar

pub clash : (b : Bool) → b ≡ true → b ≡ false → ⊥
clash b t f = cc
