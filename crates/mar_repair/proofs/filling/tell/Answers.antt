use Rattle.mar_repair.proofs.Rows.{did_tell, failed_tell}
use Rattle.mar_repair.proofs.filling.tell.Goals as goal

pub returns-in-Ok-clause-runs : goal.returns-in-Ok-clause-runs
returns-in-Ok-clause-runs g c = λ held life standing asks sends answers. did_tell g.V.Variant.inner held life standing _ _ asks asks sends answers _ _ _ _ _ c.in-Ok.ensures.ok c.in-Ok.ensures.rises

pub returns-in-Err-clause-runs : goal.returns-in-Err-clause-runs
returns-in-Err-clause-runs g c = λ held life standing asks sends answers. failed_tell g.V.Variant.inner held life standing _ _ asks asks sends answers _ _ _ _ c.in-Err.ensures.err
