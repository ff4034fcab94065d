use Rattle.std.proofs.Common.{refl}
use Rattle.mar_model.specs.Faults.{cert_store}
use Rattle.mar_model.specs.Views.{fault_of}
use Rattle.mar_life.specs.Pooling.{of_certs}
use Rattle.mar_life.proofs.Changed.{store_cert_goes_on}
use Rattle.mar_life.proofs.Placed.{archive_fault, done_so, failed_so, open_in, usual_fault, waits_stored_so}
use Rattle.mar_life.proofs.Reading.{certs_still}
use Rattle.mar_life.proofs.stores.StoresHolds.store_certificate.Goals as goal

pub invariant_of-self : goal.invariant_of-self
invariant_of-self g c = (
  c.self.invariant.0,
  c.self.invariant.1,
  waits_stored_so g.FC.Keeps.stored g.FC.Keeps.number g.FC.Keeps.covers of_certs c.store.result g.FC.Wreck.ArchiveRuin.left _ _ c.self.inside.writes c.self.invariant.2 c.store.ensures.stays c.store.ensures.left _ _ c.store.ensures.done,
  c.self.invariant.3,
)

pub returns-clause-staged : goal.returns-clause-staged
returns-clause-staged g c = rw (← c.self.view_is) refl

pub returns-clause-tickets : goal.returns-clause-tickets
returns-clause-tickets g c = rw (← c.self.view_is) refl

pub returns-clause-ok : goal.returns-clause-ok
returns-clause-ok g c = rw (← c.self.view_is) c.store.ensures.done

pub returns-clause-same : goal.returns-clause-same
returns-clause-same g c = rw (← c.self.view_is) (done_so c.store.result c.store.ensures.stays (λ stays. certs_still _ _ (open_in g.FC.Keeps.stored g.FC.Keeps.number g.FC.Keeps.covers _ _ stays)))

pub returns-clause-goes_on : goal.returns-clause-goes_on
returns-clause-goes_on g c = rw (← c.self.view_is) (store_cert_goes_on (fault_of g.V.Commitment.Named.bytes) c.store.result _ _ g.FC.Keeps.stored g.FC.Wreck.ArchiveRuin.left g.FC.Keeps.watch g.FC.Wreck.ArchiveRuin.watch _ _ _ _ c.store.ensures.passed c.store.ensures.failed g.FC.Keeps.number g.FC.Keeps.covers g.met.FC.Keeps.nested c.store.ensures.stays c.store.ensures.done)

pub returns-clause-archive : goal.returns-clause-archive
returns-clause-archive g c = failed_so c.store.result c.store.ensures.failed (λ e failed. archive_fault cert_store _ _ _ tt failed.cause)

pub returns-clause-usual : goal.returns-clause-usual
returns-clause-usual g c = failed_so c.store.result c.store.ensures.failed (λ e failed. usual_fault cert_store _ _ _ failed.cause)
