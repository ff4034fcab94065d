-- An epoch with no view after it is no round, and what holds of an error.
use Rattle.std.proofs.Common.{◌≡◌, ℕ, List, ◌++◌, Result, Ok, Err, OnErr, refl, sym, ◌∙◌, ap, append_assoc}
use Rattle.std.proofs.lemmas.List.{append_cancel_left}
use Rattle.mar_types.specs.Codec.{HasNoFront}
use Rattle.mar_types.specs.Varint.{IsVarint, varint}
use Rattle.mar_types.specs.VarintLemmas.{varint_front}
use Rattle.mar_types.specs.Round.{SpellsRound}

-- after an epoch, bytes that begin with no view don't go on as a round's
pub no_round : (e : ℕ) (bytes after : List ℕ) → bytes ≡ varint e ++ after → HasNoFront IsVarint after → HasNoFront SpellsRound bytes
no_round e bytes after taken none front rest f is = none (varint f.round.view) rest (record { number = f.round.view; fits = f.is_round.1; spelled = refl }) view
  where
    flat : varint e ++ after ≡ varint f.round.epoch ++ (varint f.round.view ++ rest)
    flat = sym taken ∙ is ∙ ap (λ x. x ++ rest) f.spelled ∙ append_assoc (varint f.round.epoch) (varint f.round.view) rest

    epoch : e ≡ f.round.epoch
    epoch = varint_front e f.round.epoch after (varint f.round.view ++ rest) flat

    view : after ≡ varint f.round.view ++ rest
    view = append_cancel_left (varint f.round.epoch) after (varint f.round.view ++ rest) (ap (λ n. varint n ++ after) (sym epoch) ∙ flat)

-- what holds anyhow holds on an error
pub on_err : {T E : Type 0} (P : Type 0) (r : Result T E) → P → OnErr r P
on_err P (Ok x) p = tt
on_err P (Err e) p = p
