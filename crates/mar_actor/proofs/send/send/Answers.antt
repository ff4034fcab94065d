use Rattle.mar_actor.proofs.Sent.{sent-done, sent-failed}
use Rattle.mar_actor.proofs.send.send.Goals as goal

pub returns-in-Ok-clause-runs : goal.returns-in-Ok-clause-runs
returns-in-Ok-clause-runs g c = λ held life standing told asks answers start whole rest reached. sent-done g.V.Variant.inner held life standing told asks answers _ _ c.args.round c.args.recipients (g.V.Variant.plain c.args.block) start whole rest reached c.in-Ok.ensures.ok

pub returns-in-Err-clause-runs : goal.returns-in-Err-clause-runs
returns-in-Err-clause-runs g c = λ held life standing told asks answers start whole rest reached. sent-failed g.V.Variant.inner held life standing told asks answers _ _ c.args.round c.args.recipients (g.V.Variant.plain c.args.block) start whole rest reached c.in-Err.ensures.err
