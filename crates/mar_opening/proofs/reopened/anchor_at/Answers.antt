use Rattle.std.proofs.lemmas.Result.{err_from_is_err_and}
use Rattle.mar_opening.proofs.reopened.anchor_at.Goals as goal

pub returns-in_err-_block-clause-goes_on : goal.returns-in_err-_block-clause-goes_on
returns-in_err-_block-clause-goes_on g c =
    let p = err_from_is_err_and c.from_residual.result c.from_residual.ensures.1 in
    rw (p.1, p.2) c.in_err-_block.ensures.goes_on

pub returns-in-None-clause-goes_on : goal.returns-in-None-clause-goes_on
returns-in-None-clause-goes_on g c = λ start all grew within. c.anchor_above.ensures.goes_on start all (c.in_ok-_block.ensures.goes_on start all grew within) within
