use Rattle.std.proofs.Common.{ap, refl}
use Rattle.mar_model.specs.Faults.{block_store}
use Rattle.mar_model.specs.Pool.{writing_of}
use Rattle.mar_model.specs.Views.{fault_of}
use Rattle.mar_life.specs.Pooling.{of_certs}
use Rattle.mar_life.proofs.Changed.{put_block_goes_on}
use Rattle.mar_life.proofs.Placed.{archive_fault, both_done, done_so, failed_so, usual_fault, waits_either}
use Rattle.mar_life.proofs.Reading.{blocks_still}
use Rattle.mar_life.proofs.CacheSyncs.{own_after_write}
use Rattle.mar_life.proofs.stores.StoresHolds.put_block.Goals as goal

pub invariant_of-self : goal.invariant_of-self
invariant_of-self g c = (c.put.ensures.waits, c.put.ensures.held, waits_either g.FC.Keeps.stored g.FC.Keeps.number g.FC.Keeps.covers of_certs c.self.inside.certs c.self.inside.writes _ _ c.put.ensures.writes c.self.invariant.2, own_after_write _ _ _ c.self.inside.syncs c.put.ensures.writes c.self.invariant.3)

pub returns-clause-staged : goal.returns-clause-staged
returns-clause-staged g c = rw (← c.self.view_is) c.put.ensures.staged

pub returns-clause-tickets : goal.returns-clause-tickets
returns-clause-tickets g c = rw (← c.self.view_is) refl

pub returns-clause-ok : goal.returns-clause-ok
returns-clause-ok g c = rw (← c.self.view_is) c.put.ensures.done

pub returns-clause-same : goal.returns-clause-same
returns-clause-same g c = rw (← c.self.view_is) (done_so c.put.result (both_done _ _ c.put.result c.put.ensures.still c.put.ensures.deferred) (λ ok. blocks_still _ ok.0 (ap writing_of ok.1)))

pub returns-clause-goes_on : goal.returns-clause-goes_on
returns-clause-goes_on g c = rw (← c.self.view_is) (put_block_goes_on (fault_of g.V.Commitment.Named.bytes) c.put.result _ _ g.FB.Keeps.stored g.FB.Wreck.ArchiveRuin.left g.FB.Keeps.watch g.FB.Wreck.ArchiveRuin.watch _ _ _ _ c.put.ensures.passed c.put.ensures.failed c.put.ensures.done)

pub returns-clause-usual : goal.returns-clause-usual
returns-clause-usual g c = failed_so c.put.result c.put.ensures.failed (λ e failed. usual_fault block_store _ _ _ failed.cause)

pub returns-clause-archive : goal.returns-clause-archive
returns-clause-archive g c = failed_so c.put.result c.put.ensures.failed (λ e failed. archive_fault block_store _ _ _ tt failed.cause)
