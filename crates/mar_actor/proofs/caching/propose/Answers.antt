use Rattle.mar_actor.proofs.caching.propose.Goals as goal

pub returns-in-Ok-clause-runs : goal.returns-in-Ok-clause-runs
returns-in-Ok-clause-runs g c = λ life standing heard asks start whole rest reached. c.verify.ensures.runs life standing heard asks _ start whole rest (c.in-Ok.ensures.runs _ life standing heard asks _ start whole _ reached)

pub returns-in-Err-clause-runs : goal.returns-in-Err-clause-runs
returns-in-Err-clause-runs g c = λ life standing heard asks start whole rest reached. c.in-Err.ensures.runs _ life standing heard asks _ start whole _ reached
