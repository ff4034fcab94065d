use Rattle.std.proofs.lemmas.Result.{err_from_is_err_and}
use Rattle.mar_model.proofs.reads.newest_certificate.Goals as goal

pub returns-in_err-certificate_at-in-Some-clause-goes_on : goal.returns-in_err-certificate_at-in-Some-clause-goes_on
returns-in_err-certificate_at-in-Some-clause-goes_on g c =
    let p = err_from_is_err_and c.from_residual.result c.from_residual.ensures.1 in
    rw (p.1, p.2) c.in_err-certificate_at-in-Some.ensures.goes_on
