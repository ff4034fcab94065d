use Rattle.std.proofs.lemmas.Result.{err_from_is_err_and}
use Rattle.mar_model.proofs.Outcomes.{judged}
use Rattle.mar_opening.proofs.derived.successor.Goals as goal

pub returns-in_err-block-clause-goes_on : goal.returns-in_err-block-clause-goes_on
returns-in_err-block-clause-goes_on g c =
    let p = err_from_is_err_and c.from_residual.result c.from_residual.ensures.1 in
    rw (p.1, p.2) c.in_err-block.ensures.goes_on

pub returns-in_err-certificate-clause-goes_on : goal.returns-in_err-certificate-clause-goes_on
returns-in_err-certificate-clause-goes_on g c =
    let p = err_from_is_err_and c.from_residual-in_err-certificate.result c.from_residual-in_err-certificate.ensures.1 in
    rw (p.1, p.2) (λ start all grew within. c.in_err-certificate.ensures.goes_on start all (c.in_ok-block.ensures.goes_on start all grew within) within)

pub returns-in-Some-Some-clause-goes_on : goal.returns-in-Some-Some-clause-goes_on
returns-in-Some-Some-clause-goes_on g c = λ start all grew within. judged _ start all _ c.judge.result (c.in_ok-certificate.ensures.goes_on start all (c.in_ok-block.ensures.goes_on start all grew within) within) c.judge.ensures.no_stores

pub returns-in_default-clause-goes_on : goal.returns-in_default-clause-goes_on
returns-in_default-clause-goes_on g c = λ start all grew within. c.in_ok-certificate.ensures.goes_on start all (c.in_ok-block.ensures.goes_on start all grew within) within
