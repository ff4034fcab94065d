use Rattle.std.proofs.Common.{refl}
use Rattle.mar_model.specs.Faults.{cert_store}
use Rattle.mar_model.specs.Views.{fault_of}
use Rattle.mar_life.specs.Pooling.{of_certs}
use Rattle.mar_life.proofs.Placed.{always_done, archive_fault, failed_so, read_fault, usual_fault, waits_read}
use Rattle.mar_life.proofs.Reading.{certs_read, read_goes_on}
use Rattle.mar_life.proofs.stores.StoresHolds.has_certificate.Goals as goal

pub invariant_of-self : goal.invariant_of-self
invariant_of-self g c = (c.self.invariant.0, c.self.invariant.1, waits_read g.FC.Keeps.stored g.FC.Keeps.number g.FC.Keeps.covers of_certs g.FC.Wreck.ArchiveRuin.left _ _ c.self.inside.writes c.has.ensures.read c.self.invariant.2, c.self.invariant.3)

pub returns-clause-staged : goal.returns-clause-staged
returns-clause-staged g c = rw (← c.self.view_is) refl

pub returns-clause-tickets : goal.returns-clause-tickets
returns-clause-tickets g c = rw (← c.self.view_is) refl

pub returns-clause-found : goal.returns-clause-found
returns-clause-found g c = rw (← c.self.view_is) c.has.ensures.found

pub returns-clause-same : goal.returns-clause-same
returns-clause-same g c = rw (← c.self.view_is) (always_done c.has.result (certs_read g.FC.Keeps.stored g.FC.Keeps.number g.FC.Keeps.covers g.FC.Wreck.ArchiveRuin.left _ _ _ _ c.has.ensures.read))

pub returns-clause-goes_on : goal.returns-clause-goes_on
returns-clause-goes_on g c = rw (← c.self.view_is) (read_goes_on (fault_of g.V.Commitment.Named.bytes) cert_store _ _ _ c.has.result (certs_read g.FC.Keeps.stored g.FC.Keeps.number g.FC.Keeps.covers g.FC.Wreck.ArchiveRuin.left _ _ _ _ c.has.ensures.read) c.has.ensures.passed c.has.ensures.failed)

pub returns-clause-archive : goal.returns-clause-archive
returns-clause-archive g c = failed_so c.has.result c.has.ensures.failed (λ e how. archive_fault cert_store _ _ _ tt how)

pub returns-clause-usual : goal.returns-clause-usual
returns-clause-usual g c = failed_so c.has.result c.has.ensures.failed (λ e how. usual_fault cert_store _ _ _ how)

pub returns-clause-read : goal.returns-clause-read
returns-clause-read g c = failed_so c.has.result c.has.ensures.failed (λ e how. read_fault cert_store _ _ _ tt how)
