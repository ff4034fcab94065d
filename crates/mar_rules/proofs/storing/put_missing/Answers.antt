use Rattle.std.proofs.lemmas.Result.{err_from_is_err_and}
use Rattle.mar_model.proofs.Growing.{WithinWritten-nothing}
use Rattle.mar_rules.proofs.storing.put_missing.Goals as goal

pub returns-in_err-is_lacking-clause-goes_on : goal.returns-in_err-is_lacking-clause-goes_on
returns-in_err-is_lacking-clause-goes_on g c =
    let p = err_from_is_err_and c.from_residual.result c.from_residual.ensures.1 in
    rw (p.1, p.2) (λ start all grew within. c.in_err-is_lacking.ensures.goes_on start all grew (WithinWritten-nothing all))

pub returns-then-not-is_lacking-clause-goes_on : goal.returns-then-not-is_lacking-clause-goes_on
returns-then-not-is_lacking-clause-goes_on g c = λ start all grew within. c.in_ok-is_lacking.ensures.goes_on start all grew (WithinWritten-nothing all)

pub returns-in_err-store_certificate-clause-goes_on : goal.returns-in_err-store_certificate-clause-goes_on
returns-in_err-store_certificate-clause-goes_on g c =
    let p = err_from_is_err_and c.from_residual-in_err-store_certificate.result c.from_residual-in_err-store_certificate.ensures.1 in
    let stored = rw c.height-height.ensures at c.in_err-store_certificate.ensures.goes_on in
    rw (p.1, p.2) (λ start all grew within. stored start all (c.in_ok-is_lacking.ensures.goes_on start all grew (WithinWritten-nothing all)) within)

pub returns-clause-goes_on : goal.returns-clause-goes_on
returns-clause-goes_on g c =
    let stored = rw c.height-height.ensures at c.in_ok-store_certificate.ensures.goes_on in
    λ start all grew within. stored start all (c.in_ok-is_lacking.ensures.goes_on start all grew (WithinWritten-nothing all)) within
