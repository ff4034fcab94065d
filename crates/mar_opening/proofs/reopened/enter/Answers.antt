use Rattle.std.proofs.lemmas.Result.{err_from_is_err_and}
use Rattle.mar_model.proofs.Growing.{WithinWritten-nothing}
use Rattle.mar_model.proofs.Outcomes.{judged}
use Rattle.mar_opening.proofs.reopened.enter.Goals as goal

pub returns-in_err-stored-clause-goes_on : goal.returns-in_err-stored-clause-goes_on
returns-in_err-stored-clause-goes_on g c =
    let p = err_from_is_err_and c.from_residual.result c.from_residual.ensures.1 in
    rw (p.1, p.2) (λ start all grew within. c.in_err-stored.ensures.goes_on start all grew (WithinWritten-nothing all))

pub returns-in-Some-clause-goes_on : goal.returns-in-Some-clause-goes_on
returns-in-Some-clause-goes_on g c = λ start all grew within. judged _ start all _ c.compare.result (c.in_ok-stored.ensures.goes_on start all grew (WithinWritten-nothing all)) c.compare.ensures.no_stores

pub returns-in-None-clause-goes_on : goal.returns-in-None-clause-goes_on
returns-in-None-clause-goes_on g c = λ start all grew within. c.enter_missing.ensures.goes_on start all (c.in_ok-stored.ensures.goes_on start all grew (WithinWritten-nothing all)) within
