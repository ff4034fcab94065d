use Rattle.std.proofs.Common.{inl, inr}
use Rattle.std.proofs.lemmas.Result.{err_from_is_err_and}
use Rattle.mar_types.specs.CodecLemmas.{joined_no_second}
use Rattle.mar_types.proofs.parts.read_pair.Goals as goal

pub returns-in_err-second-clause-err : goal.returns-in_err-second-clause-err
returns-in_err-second-clause-err g c =
    let p = err_from_is_err_and c.from_residual-in_err-second.result c.from_residual-in_err-second.ensures.1 in
    let first = c.in_ok-first.ensures.ok in
    rw (p.1, p.2) (elim c.in_err-second.ensures.err [
      | inl memory ↦ inl memory
      | inr none ↦ inr (joined_no_second _ _ _ _ _ (g.met.A.Read.unambiguous c.args.first_cfg.now) first.in_grammar first.taken none)
    ])
