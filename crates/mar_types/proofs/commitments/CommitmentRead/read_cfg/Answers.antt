use Rattle.std.proofs.Common.{inr}
use Rattle.std.proofs.lemmas.Result.{err_from_is_err_and}
use Rattle.mar_types.proofs.CommitmentBytes.{no_commitment, refuses_whole}
use Rattle.mar_types.proofs.commitments.CommitmentRead.read_cfg.Goals as goal

pub returns-in_err-check_parts-clause-err : goal.returns-in_err-check_parts-clause-err
returns-in_err-check_parts-clause-err g c =
    let p = err_from_is_err_and c.from_residual-in_err-check_parts.result c.from_residual-in_err-check_parts.ensures.1 in
    rw (p.1, p.2) (inr (no_commitment _ _ _ _ _ _ _ _ _ _ c.in_ok-bytes.ensures.ok c.in_err-check_parts.ensures.err))

pub returns-in_err-check_parts-clause-cause : goal.returns-in_err-check_parts-clause-cause
returns-in_err-check_parts-clause-cause g c =
    let p = err_from_is_err_and c.from_residual-in_err-check_parts.result c.from_residual-in_err-check_parts.ensures.1 in
    rw (p.1, p.2) (inr (refuses_whole _ _ _ _ _ _ _ _ _ _ c.in_ok-bytes.ensures.ok c.in_err-check_parts.ensures.err))
