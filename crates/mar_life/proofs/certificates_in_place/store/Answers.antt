use Rattle.mar_model.specs.Faults.{cert_store}
use Rattle.mar_model.proofs.Passing.{Passes-then}
use Rattle.mar_model.proofs.Storing.{StoresValue-synced}
use Rattle.mar_life.proofs.Placed.{done_so, failed_so, fails_then, left_so, left_then, stays_then}
use Rattle.mar_life.proofs.certificates_in_place.store.Goals as goal

pub returns-clause-done : goal.returns-clause-done
returns-clause-done g c = done_so c.sync.result c.sync.ensures.done (λ syncs. StoresValue-synced _ _ _ _ _ c.in_ok-put_certificate.ensures.done syncs)

pub returns-clause-stays : goal.returns-clause-stays
returns-clause-stays g c = done_so c.sync.result c.sync.ensures.stays (λ stays. stays_then g.FC.Keeps.stored g.FC.Keeps.number g.FC.Keeps.covers _ _ _ c.in_ok-put_certificate.ensures.stays stays)

pub returns-clause-passed : goal.returns-clause-passed
returns-clause-passed g c = done_so c.sync.result c.sync.ensures.passed (λ passed. Passes-then _ _ _ c.in_ok-put_certificate.ensures.passed passed)

pub returns-clause-left : goal.returns-clause-left
returns-clause-left g c = left_so c.sync.result c.sync.ensures.left (λ left. left_then g.FC.Keeps.stored g.FC.Keeps.number g.FC.Keeps.covers _ _ _ c.in_ok-put_certificate.ensures.stays left)

pub returns-clause-failed : goal.returns-clause-failed
returns-clause-failed g c = failed_so c.sync.result c.sync.ensures.failed (λ e failed. fails_then cert_store g.FC.Keeps.stored g.FC.Wreck.ArchiveRuin.left g.FC.Keeps.watch g.FC.Wreck.ArchiveRuin.watch _ _ _ _ _ c.in_ok-put_certificate.ensures.done c.in_ok-put_certificate.ensures.passed failed)
