use Rattle.std.proofs.Common.{refl}
use Rattle.mar_model.specs.Faults.{block_store}
use Rattle.mar_model.specs.Views.{fault_of}
use Rattle.mar_life.specs.Pooling.{of_blocks}
use Rattle.mar_life.proofs.Changed.{store_block_goes_on}
use Rattle.mar_life.proofs.Placed.{archive_fault, done_so, failed_so, held_stored, open_in, usual_fault, waits_stored_so, waits_there}
use Rattle.mar_life.proofs.Reading.{blocks_still}
use Rattle.mar_life.proofs.stores.StoresHolds.store_block.Goals as goal

pub invariant_of-self : goal.invariant_of-self
invariant_of-self g c = (
  waits_stored_so g.FB.Keeps.stored g.FB.Keeps.number g.FB.Keeps.covers of_blocks c.store.result g.FB.Wreck.ArchiveRuin.left _ _ c.self.inside.writes c.self.invariant.0 c.store.ensures.stays c.store.ensures.left _ _ c.store.ensures.done,
  held_stored g.V.Variant.plain g.FB.Keeps.stored g.FB.Keeps.number g.FB.Keeps.covers c.store.result g.FB.Wreck.ArchiveRuin.left _ _ _ _ _ (waits_there g.FB.Keeps.stored g.FB.Keeps.number g.FB.Keeps.covers of_blocks _ c.self.inside.writes c.self.invariant.0) c.store.ensures.stays c.store.ensures.left c.store.ensures.done c.self.invariant.1,
  c.self.invariant.2,
  c.self.invariant.3,
)

pub returns-clause-staged : goal.returns-clause-staged
returns-clause-staged g c = rw (← c.self.view_is) refl

pub returns-clause-tickets : goal.returns-clause-tickets
returns-clause-tickets g c = rw (← c.self.view_is) refl

pub returns-clause-ok : goal.returns-clause-ok
returns-clause-ok g c = rw (← c.self.view_is) c.store.ensures.done

pub returns-clause-same : goal.returns-clause-same
returns-clause-same g c = rw (← c.self.view_is) (done_so c.store.result c.store.ensures.stays (λ stays. blocks_still _ (open_in g.FB.Keeps.stored g.FB.Keeps.number g.FB.Keeps.covers _ _ stays) refl))

pub returns-clause-goes_on : goal.returns-clause-goes_on
returns-clause-goes_on g c = rw (← c.self.view_is) (store_block_goes_on (fault_of g.V.Commitment.Named.bytes) c.store.result _ _ g.FB.Keeps.stored g.FB.Wreck.ArchiveRuin.left g.FB.Keeps.watch g.FB.Wreck.ArchiveRuin.watch _ _ _ _ c.store.ensures.passed c.store.ensures.failed g.FB.Keeps.number g.FB.Keeps.covers g.met.FB.Keeps.nested c.store.ensures.stays c.store.ensures.done)

pub returns-clause-usual : goal.returns-clause-usual
returns-clause-usual g c = failed_so c.store.result c.store.ensures.failed (λ e failed. usual_fault block_store _ _ _ failed.cause)

pub returns-clause-archive : goal.returns-clause-archive
returns-clause-archive g c = failed_so c.store.result c.store.ensures.failed (λ e failed. archive_fault block_store _ _ _ tt failed.cause)
