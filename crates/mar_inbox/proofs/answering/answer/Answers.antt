use Rattle.std.proofs.lemmas.Result.{err_from_is_err_and}
use Rattle.mar_model.specs.Faults.{want_of_memory}
use Rattle.mar_model.proofs.StoreLosses.{Loses-nothing}
use Rattle.mar_inbox.proofs.answering.answer.Goals as goal

pub returns-in_err-value-clause-goes_on : goal.returns-in_err-value-clause-goes_on
returns-in_err-value-clause-goes_on g c =
    let p = err_from_is_err_and c.from_residual.result c.from_residual.ensures.1 in
    rw (p.1, p.2) c.in_err-value.ensures.goes_on

pub returns-in-Err-clause-goes_on : goal.returns-in-Err-clause-goes_on
returns-in-Err-clause-goes_on g c = λ start all grew within. Loses-nothing start all _ (c.in_ok-value.ensures.goes_on start all grew within) want_of_memory tt
