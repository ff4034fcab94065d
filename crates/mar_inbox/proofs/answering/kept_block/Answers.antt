use Rattle.mar_inbox.proofs.answering.kept_block.Goals as goal

pub returns-in-Ok-None-clause-goes_on : goal.returns-in-Ok-None-clause-goes_on
returns-in-Ok-None-clause-goes_on g c =
    let first = rw c.in-Ok-None.is at c.cached_block.ensures.goes_on in
    λ start all grew within. c.block_of.ensures.goes_on start all (first start all grew within) within
