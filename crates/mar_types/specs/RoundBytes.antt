-- A round's bytes: how many, and that no round's bytes begin another's.
use Rattle.std.proofs.Common.{◌≡◌, ℕ, ◌≤◌, List, [], ◌++◌, length, sym, ◌∙◌, ap, arith, append_assoc, length-append}
use Rattle.std.proofs.lemmas.List.{append_cancel_left}
use Rattle.mar_types.specs.Codec.{IsUnambiguous}
use Rattle.mar_types.specs.Varint.{varint}
use Rattle.mar_types.specs.VarintLemmas.{length-varint, varint_front}
use Rattle.mar_types.specs.Round.{Round, SpellsRound, round_bytes}

pub length-round_bytes : (r : Round) → length (round_bytes r) ≤ 20
length-round_bytes r = rw (length-append (varint r.epoch) (varint r.view)) (let a = length-varint r.epoch in let b = length-varint r.view in omega (arith, a, b))

-- bytes that begin with two rounds' spellings begin with one round's
pub round_front : (r s : Round) (rest left : List ℕ) → round_bytes r ++ rest ≡ round_bytes s ++ left → r ≡ s
round_front r s rest left e = ap (λ p. record { epoch = p.0; view = p.1 }) (pair (r.epoch) (s.epoch) (r.view) (s.view) epoch view)
  where
    pair : (a b c d : ℕ) → a ≡ b → c ≡ d → ◌≡◌ {A = ℕ × ℕ} (a, c) (b, d)
    pair a b c d p q = cc

    flat : varint r.epoch ++ (varint r.view ++ rest) ≡ varint s.epoch ++ (varint s.view ++ left)
    flat = sym (append_assoc (varint r.epoch) (varint r.view) rest) ∙ e ∙ append_assoc (varint s.epoch) (varint s.view) left

    epoch : r.epoch ≡ s.epoch
    epoch = varint_front r.epoch s.epoch (varint r.view ++ rest) (varint s.view ++ left) flat

    view : r.view ≡ s.view
    view = varint_front r.view s.view rest left (append_cancel_left (varint s.epoch) (varint r.view ++ rest) (varint s.view ++ left) (ap (λ n. varint n ++ (varint r.view ++ rest)) (sym epoch) ∙ flat))

-- no two rounds have one spelling
pub round_bytes-injective : (r s : Round) → round_bytes r ≡ round_bytes s → r ≡ s
round_bytes-injective r s e = round_front r s [] [] (ap (λ bytes. bytes ++ []) e)

pub round_unambiguous : IsUnambiguous SpellsRound
round_unambiguous front other rest left f o e =
    let same : f.round ≡ o.round = round_front f.round o.round rest left (ap (λ x. x ++ rest) (sym f.spelled) ∙ e ∙ ap (λ x. x ++ left) o.spelled) in
    f.spelled ∙ ap round_bytes same ∙ sym o.spelled
