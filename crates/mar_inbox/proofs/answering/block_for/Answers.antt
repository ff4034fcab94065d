use Rattle.mar_inbox.proofs.answering.block_for.Goals as goal

pub returns-in-Some-clause-goes_on : goal.returns-in-Some-clause-goes_on
returns-in-Some-clause-goes_on g c = λ start all grew within. c.block_at_hand.ensures.goes_on start all (c.in-Ok.ensures.goes_on start all grew within) within
