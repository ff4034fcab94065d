use Rattle.mar_model.specs.Views.{fault_of}
use Rattle.mar_model.proofs.Running.{Does-asked}
use Rattle.mar_rules.proofs.storing.request.Goals as goal

pub returns : goal.returns
returns g c = record { runs = λ life standing told sends answers. Does-asked g.V.Variant.inner (fault_of g.V.Commitment.Named.bytes) standing told _ _ sends answers _ life _ c.fetch.result c.fetch.ensures.asks c.fetch.ensures.memory }
