use Rattle.std.proofs.lemmas.Result.{err_from_is_err_and}
use Rattle.mar_model.proofs.at_hand.kept_block.Goals as goal

pub returns-in_err-block-2-clause-goes_on : goal.returns-in_err-block-2-clause-goes_on
returns-in_err-block-2-clause-goes_on g c =
    let p = err_from_is_err_and c.from_residual-in_err-block-2.result c.from_residual-in_err-block-2.ensures.1 in
    rw (p.1, p.2) (λ start all grew within. c.in_err-block-2.ensures.goes_on start all (c.in_ok-block.ensures.goes_on start all grew within) within)

pub returns-clause-goes_on : goal.returns-clause-goes_on
returns-clause-goes_on g c = λ start all grew within. c.in_ok-block-2.ensures.goes_on start all (c.in_ok-block.ensures.goes_on start all grew within) within
