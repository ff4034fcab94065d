use Rattle.std.proofs.lemmas.Result.{err_from_is_err_and}
use Rattle.mar_rules.proofs.storing.lacks_finalization.Goals as goal

pub returns-in_err-block_at-clause-goes_on : goal.returns-in_err-block_at-clause-goes_on
returns-in_err-block_at-clause-goes_on g c =
    let p = err_from_is_err_and c.from_residual.result c.from_residual.ensures.1 in
    rw (p.1, p.2) c.in_err-block_at.ensures.goes_on

pub returns-in_err-has_certificate-clause-goes_on : goal.returns-in_err-has_certificate-clause-goes_on
returns-in_err-has_certificate-clause-goes_on g c =
    let p = err_from_is_err_and c.from_residual-in_err-has_certificate.result c.from_residual-in_err-has_certificate.ensures.1 in
    rw (p.1, p.2) (λ start all grew within. c.in_err-has_certificate.ensures.goes_on start all (c.in_ok-block_at.ensures.goes_on start all grew within) within)

pub returns-clause-goes_on : goal.returns-clause-goes_on
returns-clause-goes_on g c = λ start all grew within. c.in_ok-has_certificate.ensures.goes_on start all (c.in_ok-block_at.ensures.goes_on start all grew within) within
