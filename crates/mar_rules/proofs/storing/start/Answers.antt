use Rattle.std.proofs.Common.{ap, ◌∙◌}
use Rattle.mar_model.specs.Views.{fault_of}
use Rattle.mar_model.proofs.Doing.{law_behind}
use Rattle.mar_model.specs.Acts.{start_sync}
use Rattle.mar_model.proofs.Running.{Does-stored}
use Rattle.mar_rules.proofs.Raised.{on_both}
use Rattle.mar_rules.proofs.storing.start.Goals as goal

pub returns : goal.returns
returns g c = record { runs = λ whole life standing heard. Does-stored g.V.Variant.inner (fault_of g.V.Commitment.Named.bytes) _ _ life standing heard start_sync c.start_sync-started.result c.start_sync-started.ensures.ok (law_behind _ c.start_sync-started.result (on_both c.start_sync-started.result (λ same. ap (λ h. h.intact) same ∙ whole) c.start_sync-started.ensures.ok) c.law.ensures.lawful) c.start_sync-started.ensures.goes_on c.start_sync-started.ensures.kind }
