use Rattle.std.proofs.Common.{ap, ◌∙◌}
use Rattle.mar_model.specs.Views.{fault_of}
use Rattle.mar_model.proofs.Doing.{law_behind}
use Rattle.mar_model.proofs.Running.{Does-noted}
use Rattle.mar_rules.proofs.Raised.{on_both}
use Rattle.mar_rules.proofs.raising.note_round.Goals as goal

pub returns-clause-whole : goal.returns-clause-whole
returns-clause-whole g c = on_both c.witness_durably-noted.result (λ same. ap (λ h. h.intact) same ∙ c.requires.intact) c.witness_durably-noted.ensures.ok

pub returns-clause-blocks : goal.returns-clause-blocks
returns-clause-blocks g c = on_both c.witness_durably-noted.result (ap (λ h. h.blocks)) c.witness_durably-noted.ensures.ok

pub returns-clause-certs : goal.returns-clause-certs
returns-clause-certs g c = on_both c.witness_durably-noted.result (ap (λ h. h.certs)) c.witness_durably-noted.ensures.ok

pub returns-clause-runs : goal.returns-clause-runs
returns-clause-runs g c = λ life standing told sends answers is. Does-noted g.V.Variant.inner (fault_of g.V.Commitment.Named.bytes) standing told _ _ sends answers _ _ life _ _ c.witness_durably-noted.result is c.witness_durably-noted.ensures.ok c.witness_durably-noted.ensures.prunes c.witness_durably-noted.ensures.passed (law_behind _ c.witness_durably-noted.result (returns-clause-whole g c) c.law.ensures.lawful) c.witness_durably-noted.ensures.asks c.witness_durably-noted.ensures.lost c.witness_durably-noted.ensures.usual
