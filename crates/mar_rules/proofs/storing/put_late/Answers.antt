use Rattle.std.proofs.Common.{ap, ◌∙◌}
use Rattle.mar_model.specs.Views.{fault_of}
use Rattle.mar_model.proofs.Doing.{law_behind}
use Rattle.mar_model.proofs.Running.{Does-late}
use Rattle.mar_rules.proofs.Raised.{on_both}
use Rattle.mar_rules.proofs.storing.put_late.Goals as goal

pub returns-clause-runs : goal.returns-clause-runs
returns-clause-runs g c = λ whole life standing heard. Does-late g.V.Variant.inner (fault_of g.V.Commitment.Named.bytes) _ _ life standing heard _ _ c.put_missing-put.result c.put_missing-put.ensures.lacked c.put_missing-put.ensures.certs c.put_missing-put.ensures.same (law_behind _ c.put_missing-put.result (on_both c.put_missing-put.result (λ same. ap (λ h. h.intact) same ∙ whole) c.put_missing-put.ensures.same) c.law.ensures.lawful) c.put_missing-put.ensures.goes_on c.put_missing-put.ensures.archive
