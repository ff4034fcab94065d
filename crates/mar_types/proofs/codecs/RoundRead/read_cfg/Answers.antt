use Rattle.std.proofs.Common.{inl, inr}
use Rattle.std.proofs.lemmas.Result.{err_from_is_err_and}
use Rattle.mar_types.proofs.Joins.{no_round}
use Rattle.mar_types.proofs.codecs.RoundRead.read_cfg.Goals as goal

pub returns-in_err-view-clause-err : goal.returns-in_err-view-clause-err
returns-in_err-view-clause-err g c =
    let p = err_from_is_err_and c.from_residual-in_err-view.result c.from_residual-in_err-view.ensures.1 in
    rw (p.1, p.2) (elim c.in_err-view.ensures.err [ inl memory ↦ inl memory | inr none ↦ inr (no_round _ _ _ c.in_ok-epoch.ensures.ok.taken none) ])
