use Rattle.std.proofs.lemmas.Result.{err_from_is_err_and}
use Rattle.mar_model.specs.Faults.{unbacked}
use Rattle.mar_model.proofs.Growing.{Grew-noted}
use Rattle.mar_model.proofs.StoreLosses.{Loses-nothing}
use Rattle.mar_opening.proofs.reopened.anchor_above.Goals as goal

pub returns-in_err-_block-clause-goes_on : goal.returns-in_err-_block-clause-goes_on
returns-in_err-_block-clause-goes_on g c =
    let p = err_from_is_err_and c.from_residual.result c.from_residual.ensures.1 in
    rw (p.1, p.2) c.in_err-_block.ensures.goes_on

pub returns-in-Some-clause-goes_on : goal.returns-in-Some-clause-goes_on
returns-in-Some-clause-goes_on g c = λ start all grew within. rw c.without_block.ensures.held (Grew-noted start all _ (c.in_ok-_block.ensures.goes_on start all grew within) _ _)

pub returns-in-None-clause-goes_on : goal.returns-in-None-clause-goes_on
returns-in-None-clause-goes_on g c = λ start all grew within. Loses-nothing start all _ (c.in_ok-_block.ensures.goes_on start all grew within) (unbacked c.args.height) tt
