use Rattle.mar_replay.proofs.Generating.{concludes, writes_nothing}
use Rattle.mar_replay.proofs.generate.finish.Goals as goal

pub returns-in-Some-clause-generates : goal.returns-in-Some-clause-generates
returns-in-Some-clause-generates g c = λ before after runs. concludes _ _ _ _ _ before after c.in-Some.tally (rw c.in-Some.is at runs) c.sum_up.ensures.writes

pub returns-in-None-clause-generates : goal.returns-in-None-clause-generates
returns-in-None-clause-generates g c = λ before after runs. (rw c.in-None.is at runs, writes_nothing _)
