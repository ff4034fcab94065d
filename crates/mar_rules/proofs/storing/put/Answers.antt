use Rattle.std.proofs.Common.{ap, ◌∙◌}
use Rattle.mar_model.specs.Views.{fault_of}
use Rattle.mar_model.proofs.Doing.{law_behind}
use Rattle.mar_model.proofs.Running.{Does-put}
use Rattle.mar_rules.proofs.Raised.{on_both}
use Rattle.mar_rules.proofs.storing.put.Goals as goal

pub returns-clause-whole : goal.returns-clause-whole
returns-clause-whole g c = λ whole. on_both c.put_both-put.result (λ same. ap (λ h. h.intact) same ∙ whole) c.put_both-put.ensures.same

pub returns-clause-runs : goal.returns-clause-runs
returns-clause-runs g c = λ whole life standing heard. Does-put g.V.Variant.inner (fault_of g.V.Commitment.Named.bytes) _ _ life standing heard _ _ c.put_both-put.result c.put_both-put.ensures.blocks c.put_both-put.ensures.certs c.put_both-put.ensures.same (law_behind _ c.put_both-put.result (returns-clause-whole g c whole) c.law.ensures.lawful) c.put_both-put.ensures.goes_on c.put_both-put.ensures.archive
