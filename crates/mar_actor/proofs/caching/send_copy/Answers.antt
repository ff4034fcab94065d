use Rattle.mar_actor.proofs.Sent.{uncopied}
use Rattle.mar_actor.proofs.caching.send_copy.Goals as goal

pub returns-in-Ok-clause-runs : goal.returns-in-Ok-clause-runs
returns-in-Ok-clause-runs g c = rw (← c.in-Ok.ensures) c.send.ensures.runs

pub returns-in-Err-clause-runs : goal.returns-in-Err-clause-runs
returns-in-Err-clause-runs g c = λ held life standing told asks answers start whole rest reached. uncopied g.V.Variant.inner held life standing told asks answers (g.B.Buffer.sent c.args.buffer.now) (g.B.Buffer.sent c.args.buffer.now) c.args.round c.args.recipients (g.V.Variant.plain c.args.block.now) start whole rest reached
