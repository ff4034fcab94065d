use Rattle.std.proofs.Common.{refl}
use Rattle.mar_life.specs.Pooling.{of_blocks, of_certs}
use Rattle.mar_life.proofs.InPlace.{first_of, second_of, written_in}
use Rattle.mar_life.proofs.Placed.{both_done, done_so, failed_so, found_so, held_in, still_intact}
use Rattle.mar_model.specs.Views.{fault_of}
use Rattle.mar_life.proofs.Both.{both_archive, both_usual, finish_goes_on, makes_sure}
use Rattle.mar_life.proofs.Reading.{both_still}
use Rattle.mar_life.proofs.CacheSyncs.{own_after_finish}
use Rattle.mar_life.proofs.stores.StoresHolds.finish_sync.Goals as goal

pub invariant_of-self : goal.invariant_of-self
invariant_of-self g c = (c.finish.ensures.blocks, held_in g.V.Variant.plain g.FB.Keeps.stored _ _ _ c.finish.ensures.holds c.self.invariant.1, c.finish.ensures.certs, own_after_finish c.args.ticket c.finish.result _ _ c.self.inside.syncs c.finish.ensures.finished c.finish.ensures.unfinished c.self.invariant.3)

pub returns-clause-staged : goal.returns-clause-staged
returns-clause-staged g c = rw (← c.self.view_is) refl

pub returns-clause-tickets : goal.returns-clause-tickets
returns-clause-tickets g c = rw (← c.self.view_is) refl

pub returns-clause-was_open : goal.returns-clause-was_open
returns-clause-was_open g c = rw (← c.self.view_is) c.finish.ensures.was_open

pub returns-clause-closed : goal.returns-clause-closed
returns-clause-closed g c = rw (← c.self.view_is) (found_so c.finish.result c.finish.ensures.closed (λ b same is. rw ((same is).0, (same is).1, (same is).2) refl))

pub returns-clause-failed : goal.returns-clause-failed
returns-clause-failed g c = rw (← c.self.view_is) c.finish.ensures.of_open

pub returns-clause-blocks : goal.returns-clause-blocks
returns-clause-blocks g c = rw (← c.self.view_is) (makes_sure g.FB.Keeps.stored g.FB.Wreck.ArchiveRuin.left g.FB.Keeps.watch g.FB.Wreck.ArchiveRuin.watch _ _ c.finish.result c.finish.ensures.surer_blocks c.finish.ensures.closed (λ same. same.0))

pub returns-clause-certs : goal.returns-clause-certs
returns-clause-certs g c = rw (← c.self.view_is) (makes_sure g.FC.Keeps.stored g.FC.Wreck.ArchiveRuin.left g.FC.Keeps.watch g.FC.Wreck.ArchiveRuin.watch _ _ c.finish.result c.finish.ensures.surer_certs c.finish.ensures.closed (λ same. same.1))

pub returns-clause-written : goal.returns-clause-written
returns-clause-written g c = rw (← c.self.view_is) (λ intact. done_so c.finish.result (both_done _ _ c.finish.result c.finish.ensures.still_blocks c.finish.ensures.still_certs) (λ still. record {
  blocks = written_in of_blocks g.FB.Keeps.stored g.FB.Keeps.number g.FB.Keeps.covers g.FB.Wreck.ArchiveRuin.left _ _ c.finish.ensures.blocks (first_of _ _ (still_intact _ _ _ _ _ still.0 still.1 intact));
  certs = written_in of_certs g.FC.Keeps.stored g.FC.Keeps.number g.FC.Keeps.covers g.FC.Wreck.ArchiveRuin.left _ _ c.finish.ensures.certs (second_of _ _ _ (still_intact _ _ _ _ _ still.0 still.1 intact));
  ordered = c.finish.ensures.ordered;
}))

pub returns-clause-same : goal.returns-clause-same
returns-clause-same g c = rw (← c.self.view_is) (done_so c.finish.result (both_done _ _ c.finish.result (both_done _ _ c.finish.result c.finish.ensures.still_blocks c.finish.ensures.still_certs) c.finish.ensures.finished) (λ ok. both_still _ ok.0.0 ok.0.1 ok.1))

pub returns-clause-goes_on : goal.returns-clause-goes_on
returns-clause-goes_on g c = rw (← c.self.view_is) (finish_goes_on g.FB.Keeps.stored g.FB.Wreck.ArchiveRuin.left g.FB.Keeps.watch g.FB.Wreck.ArchiveRuin.watch g.FC.Keeps.stored g.FC.Wreck.ArchiveRuin.left g.FC.Keeps.watch g.FC.Wreck.ArchiveRuin.watch _ _ _ _ _ _ _ (fault_of g.V.Commitment.Named.bytes) c.finish.result c.finish.ensures.surer_blocks c.finish.ensures.surer_certs c.finish.ensures.closed c.finish.ensures.failed)

pub returns-clause-archive : goal.returns-clause-archive
returns-clause-archive g c = failed_so c.finish.result c.finish.ensures.failed (λ e fails. both_archive g.FB.Keeps.stored g.FB.Wreck.ArchiveRuin.left g.FB.Keeps.watch g.FB.Wreck.ArchiveRuin.watch g.FC.Keeps.stored g.FC.Wreck.ArchiveRuin.left g.FC.Keeps.watch g.FC.Wreck.ArchiveRuin.watch _ _ _ _ _ fails)

pub returns-clause-usual : goal.returns-clause-usual
returns-clause-usual g c = failed_so c.finish.result c.finish.ensures.failed (λ e fails. both_usual g.FB.Keeps.stored g.FB.Wreck.ArchiveRuin.left g.FB.Keeps.watch g.FB.Wreck.ArchiveRuin.watch g.FC.Keeps.stored g.FC.Wreck.ArchiveRuin.left g.FC.Keeps.watch g.FC.Wreck.ArchiveRuin.watch _ _ _ _ _ fails)
