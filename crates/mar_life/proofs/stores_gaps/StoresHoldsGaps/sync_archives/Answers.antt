use Rattle.std.proofs.Common.{refl}
use Rattle.mar_model.specs.Views.{fault_of}
use Rattle.mar_life.specs.Pooling.{of_blocks, of_certs}
use Rattle.mar_life.proofs.Both.{both_archive, both_usual, sync_goes_on}
use Rattle.mar_life.proofs.CacheSyncs.{own_after_sync}
use Rattle.mar_life.proofs.InPlace.{first_of, second_of, written_in}
use Rattle.mar_life.proofs.Placed.{both_done, done_so, failed_so, held_in, still_intact}
use Rattle.mar_life.proofs.Reading.{both_still}
use Rattle.mar_life.proofs.stores_gaps.StoresHoldsGaps.sync_archives.Goals as goal

pub invariant_of-self : goal.invariant_of-self
invariant_of-self g c = (c.sync_both.ensures.blocks, held_in g.V.Variant.plain g.FB.Keeps.stored _ _ _ c.sync_both.ensures.holds c.self.invariant.1, c.sync_both.ensures.certs, own_after_sync c.sync_both.result _ _ c.self.inside.syncs c.sync_both.ensures.covered c.sync_both.ensures.uncovered c.self.invariant.3)

pub returns-clause-staged : goal.returns-clause-staged
returns-clause-staged g c = rw (← c.self.view_is) refl

pub returns-clause-tickets : goal.returns-clause-tickets
returns-clause-tickets g c = rw (← c.self.view_is) refl

pub returns-clause-blocks : goal.returns-clause-blocks
returns-clause-blocks g c = rw (← c.self.view_is) (done_so c.sync_both.result c.sync_both.ensures.surer_blocks (λ s. s.surer))

pub returns-clause-certs : goal.returns-clause-certs
returns-clause-certs g c = rw (← c.self.view_is) (done_so c.sync_both.result c.sync_both.ensures.surer_certs (λ s. s.surer))

pub returns-clause-written : goal.returns-clause-written
returns-clause-written g c = rw (← c.self.view_is) (λ intact. done_so c.sync_both.result (both_done _ _ c.sync_both.result (both_done _ _ c.sync_both.result c.sync_both.ensures.surer_blocks c.sync_both.ensures.surer_certs) c.sync_both.ensures.ordered) (λ ok. record {
  blocks = written_in of_blocks g.FB.Keeps.stored g.FB.Keeps.number g.FB.Keeps.covers g.FB.Wreck.ArchiveRuin.left _ _ c.sync_both.ensures.blocks (first_of _ _ (still_intact _ _ _ _ _ ok.0.0.still ok.0.1.still intact));
  certs = written_in of_certs g.FC.Keeps.stored g.FC.Keeps.number g.FC.Keeps.covers g.FC.Wreck.ArchiveRuin.left _ _ c.sync_both.ensures.certs (second_of _ _ _ (still_intact _ _ _ _ _ ok.0.0.still ok.0.1.still intact));
  ordered = ok.1;
}))

pub returns-clause-same : goal.returns-clause-same
returns-clause-same g c = rw (← c.self.view_is) (done_so c.sync_both.result (both_done _ _ c.sync_both.result (both_done _ _ c.sync_both.result c.sync_both.ensures.surer_blocks c.sync_both.ensures.surer_certs) c.sync_both.ensures.covered) (λ ok. both_still _ ok.0.0.still ok.0.1.still ok.1))

pub returns-clause-goes_on : goal.returns-clause-goes_on
returns-clause-goes_on g c = rw (← c.self.view_is) (sync_goes_on g.FB.Keeps.stored g.FB.Wreck.ArchiveRuin.left g.FB.Keeps.watch g.FB.Wreck.ArchiveRuin.watch g.FC.Keeps.stored g.FC.Wreck.ArchiveRuin.left g.FC.Keeps.watch g.FC.Wreck.ArchiveRuin.watch _ _ _ _ _ _ (fault_of g.V.Commitment.Named.bytes) c.sync_both.result c.sync_both.ensures.surer_blocks c.sync_both.ensures.surer_certs c.sync_both.ensures.failed)

pub returns-clause-archive : goal.returns-clause-archive
returns-clause-archive g c = failed_so c.sync_both.result c.sync_both.ensures.failed (λ e fails. both_archive g.FB.Keeps.stored g.FB.Wreck.ArchiveRuin.left g.FB.Keeps.watch g.FB.Wreck.ArchiveRuin.watch g.FC.Keeps.stored g.FC.Wreck.ArchiveRuin.left g.FC.Keeps.watch g.FC.Wreck.ArchiveRuin.watch _ _ _ _ _ fails)

pub returns-clause-usual : goal.returns-clause-usual
returns-clause-usual g c = failed_so c.sync_both.result c.sync_both.ensures.failed (λ e fails. both_usual g.FB.Keeps.stored g.FB.Wreck.ArchiveRuin.left g.FB.Keeps.watch g.FB.Wreck.ArchiveRuin.watch g.FC.Keeps.stored g.FC.Wreck.ArchiveRuin.left g.FC.Keeps.watch g.FC.Wreck.ArchiveRuin.watch _ _ _ _ _ fails)
