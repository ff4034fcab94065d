use Rattle.mar_model.proofs.Growing.{WithinWritten-nothing}
use Rattle.mar_opening.proofs.reopened.begin.Goals as goal

pub returns-clause-goes_on : goal.returns-clause-goes_on
returns-clause-goes_on g c = λ start all grew within. c.anchor.ensures.goes_on start all (c.in_ok-enter.ensures.goes_on start all grew within) (WithinWritten-nothing all)
