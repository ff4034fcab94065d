use Rattle.std.proofs.Common.{inl, inr, refl}
use Rattle.std.proofs.lemmas.Result.{err_from_is_err_and}
use Rattle.mar_types.specs.CodecLemmas.{no_whole, overlong_is_no_whole}
use Rattle.mar_types.proofs.codec.Decode.decode_cfg.Goals as goal

pub returns-in_err-value-clause-err : goal.returns-in_err-value-clause-err
returns-in_err-value-clause-err g c =
    let p = err_from_is_err_and c.from_residual.result c.from_residual.ensures.1 in
    rw (p.1, p.2) (elim c.in_err-value.ensures.err [ inl memory ↦ inl memory | inr none ↦ inr (no_whole _ _ none) ])

pub returns-then-has_remaining-clause-err : goal.returns-then-has_remaining-clause-err
returns-then-has_remaining-clause-err g c =
    let front = c.in_ok-value.ensures.ok in
    inr (overlong_is_no_whole _ _ _ _ (g.met.Self.Read.unambiguous c.args.cfg.now) front.in_grammar front.taken (c.if-has_remaining.ensures.0 refl))
