use Rattle.mar_model.proofs.Growing.{WithinWritten-block, WithinWritten-cert}
use Rattle.mar_repair.proofs.filling.put_both.Goals as goal

pub returns-clause-goes_on : goal.returns-clause-goes_on
returns-clause-goes_on g c = let goes = rw c.height-height.ensures at c.put_certificate.ensures.goes_on in λ start all grew within. goes start all (c.in_ok-put_block.ensures.goes_on start all grew (WithinWritten-block _ _ all within)) (WithinWritten-cert _ _ all within)
