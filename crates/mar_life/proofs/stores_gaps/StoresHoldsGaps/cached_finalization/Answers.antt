use Rattle.std.proofs.Common.{refl}
use Rattle.mar_model.specs.Faults.{cache_store}
use Rattle.mar_model.specs.Places.{is_open}
use Rattle.mar_model.specs.Views.{fault_of}
use Rattle.mar_life.proofs.Placed.{always_done, failed_so, read_fault, usual_fault}
use Rattle.mar_life.proofs.Reading.{cache_read, read_goes_on}
use Rattle.mar_life.proofs.stores_gaps.StoresHoldsGaps.cached_finalization.Goals as goal

pub invariant_of-self : goal.invariant_of-self
invariant_of-self g c = c.self.invariant

pub returns-clause-staged : goal.returns-clause-staged
returns-clause-staged g c = rw (← c.self.view_is) refl

pub returns-clause-tickets : goal.returns-clause-tickets
returns-clause-tickets g c = rw (← c.self.view_is) c.of_commitment.ensures.tickets

pub returns-clause-found : goal.returns-clause-found
returns-clause-found g c = rw (← c.self.view_is) c.of_commitment.ensures.found

pub returns-clause-same : goal.returns-clause-same
returns-clause-same g c = rw (← c.self.view_is) (always_done c.of_commitment.result (cache_read c.self.inside.syncs (is_open c.self.inside.blocks) (is_open c.self.inside.certs) c.self.inside.progress.intact c.of_commitment.ensures.tickets c.of_commitment.ensures.same))

pub returns-clause-goes_on : goal.returns-clause-goes_on
returns-clause-goes_on g c = rw (← c.self.view_is) (read_goes_on (fault_of g.V.Commitment.Named.bytes) cache_store _ _ _ c.of_commitment.result (cache_read c.self.inside.syncs (is_open c.self.inside.blocks) (is_open c.self.inside.certs) c.self.inside.progress.intact c.of_commitment.ensures.tickets c.of_commitment.ensures.same) c.of_commitment.ensures.passed c.of_commitment.ensures.failed)

pub returns-clause-usual : goal.returns-clause-usual
returns-clause-usual g c = failed_so c.of_commitment.result c.of_commitment.ensures.failed (λ e how. usual_fault cache_store _ _ _ how)

pub returns-clause-read : goal.returns-clause-read
returns-clause-read g c = failed_so c.of_commitment.result c.of_commitment.ensures.failed (λ e how. read_fault cache_store _ _ _ tt how)
