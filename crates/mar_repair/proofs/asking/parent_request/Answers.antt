use Rattle.std.proofs.lemmas.Result.{err_from_is_err_and}
use Rattle.mar_repair.proofs.asking.parent_request.Goals as goal

pub returns-in_err-wanted-clause-goes_on : goal.returns-in_err-wanted-clause-goes_on
returns-in_err-wanted-clause-goes_on g c =
    let p = err_from_is_err_and c.from_residual.result c.from_residual.ensures.1 in
    rw (p.1, p.2) c.in_err-wanted.ensures.goes_on

pub returns-in_err-block_at_hand-clause-goes_on : goal.returns-in_err-block_at_hand-clause-goes_on
returns-in_err-block_at_hand-clause-goes_on g c =
    let p = err_from_is_err_and c.from_residual-in_err-block_at_hand.result c.from_residual-in_err-block_at_hand.ensures.1 in
    rw (p.1, p.2) (λ start all grew within. c.in_err-block_at_hand.ensures.goes_on start all (c.in_ok-wanted.ensures.goes_on start all grew within) within)

pub returns-then-is_some-clause-goes_on : goal.returns-then-is_some-clause-goes_on
returns-then-is_some-clause-goes_on g c = λ start all grew within. c.in_ok-block_at_hand.ensures.goes_on start all (c.in_ok-wanted.ensures.goes_on start all grew within) within

pub returns-clause-goes_on : goal.returns-clause-goes_on
returns-clause-goes_on g c = λ start all grew within. c.in_ok-block_at_hand.ensures.goes_on start all (c.in_ok-wanted.ensures.goes_on start all grew within) within
