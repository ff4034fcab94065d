use Rattle.std.proofs.Common.{refl}
use Rattle.mar_model.specs.Faults.{block_store}
use Rattle.mar_model.specs.Views.{fault_of}
use Rattle.mar_life.specs.Pooling.{of_blocks}
use Rattle.mar_life.proofs.Placed.{always_done, archive_fault, failed_so, read_fault, usual_fault, waits_read}
use Rattle.mar_life.proofs.Reading.{blocks_read, read_goes_on}
use Rattle.mar_life.proofs.stores.StoresHolds.take_block.Goals as goal

pub returns-clause-dropped : goal.returns-clause-dropped
returns-clause-dropped g c = rw (← c.self.view_is) c.take.ensures.dropped

pub returns-clause-tickets : goal.returns-clause-tickets
returns-clause-tickets g c = rw (← c.self.view_is) refl

pub invariant_of-self : goal.invariant_of-self
invariant_of-self g c = (waits_read g.FB.Keeps.stored g.FB.Keeps.number g.FB.Keeps.covers of_blocks g.FB.Wreck.ArchiveRuin.left _ _ c.self.inside.writes c.take.ensures.read c.self.invariant.0, c.take.ensures.held, c.self.invariant.2, c.self.invariant.3)

pub returns-clause-found : goal.returns-clause-found
returns-clause-found g c = rw (← c.self.view_is) c.take.ensures.found

pub returns-clause-own : goal.returns-clause-own
returns-clause-own g c = c.take.ensures.own

pub returns-clause-same : goal.returns-clause-same
returns-clause-same g c = rw (← c.self.view_is) (always_done c.take.result (blocks_read g.FB.Keeps.stored g.FB.Keeps.number g.FB.Keeps.covers g.FB.Wreck.ArchiveRuin.left _ _ _ c.take.ensures.read))

pub returns-clause-goes_on : goal.returns-clause-goes_on
returns-clause-goes_on g c = rw (← c.self.view_is) (read_goes_on (fault_of g.V.Commitment.Named.bytes) block_store _ _ _ c.take.result (blocks_read g.FB.Keeps.stored g.FB.Keeps.number g.FB.Keeps.covers g.FB.Wreck.ArchiveRuin.left _ _ _ c.take.ensures.read) c.take.ensures.passed c.take.ensures.failed)

pub returns-clause-archive : goal.returns-clause-archive
returns-clause-archive g c = failed_so c.take.result c.take.ensures.failed (λ e how. archive_fault block_store _ _ _ tt how)

pub returns-clause-usual : goal.returns-clause-usual
returns-clause-usual g c = failed_so c.take.result c.take.ensures.failed (λ e how. usual_fault block_store _ _ _ how)

pub returns-clause-read : goal.returns-clause-read
returns-clause-read g c = failed_so c.take.result c.take.ensures.failed (λ e how. read_fault block_store _ _ _ tt how)
