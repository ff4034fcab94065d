use Rattle.std.proofs.Common.{⊎_elim, inl, inr, refl}
use Rattle.mar_life.proofs.Placed.{both_done, done_so, failed_so, held_in}
use Rattle.mar_model.specs.Views.{fault_of}
use Rattle.mar_life.proofs.Both.{both_archive, start_goes_on}
use Rattle.mar_life.proofs.Reading.{both_same}
use Rattle.mar_life.proofs.CacheSyncs.{own_after_start}
use Rattle.mar_life.proofs.stores.StoresHolds.start_sync.Goals as goal

pub invariant_of-self : goal.invariant_of-self
invariant_of-self g c = (c.start.ensures.blocks, held_in g.V.Variant.plain g.FB.Keeps.stored _ _ _ c.start.ensures.holds c.self.invariant.1, c.start.ensures.certs, own_after_start c.start.result _ _ c.self.inside.syncs c.start.ensures.started c.start.ensures.unstarted c.self.invariant.3)

pub returns-clause-staged : goal.returns-clause-staged
returns-clause-staged g c = rw (← c.self.view_is) refl

pub returns-clause-tickets : goal.returns-clause-tickets
returns-clause-tickets g c = rw (← c.self.view_is) refl

pub returns-clause-ok : goal.returns-clause-ok
returns-clause-ok g c = rw (← c.self.view_is) (done_so c.start.result (both_done _ _ c.start.result (both_done _ _ c.start.result (both_done _ _ c.start.result c.start.ensures.same_blocks c.start.ensures.same_certs) (both_done _ _ c.start.result c.start.ensures.surer_blocks c.start.ensures.surer_certs)) c.start.ensures.started)
    (λ ok. both_same _ ok.0.0.0 ok.0.0.1 ok.0.1.0.still ok.0.1.1.still ok.1))

pub returns-clause-goes_on : goal.returns-clause-goes_on
returns-clause-goes_on g c = rw (← c.self.view_is) (start_goes_on g.FB.Keeps.stored g.FB.Wreck.ArchiveRuin.left g.FB.Keeps.watch g.FB.Wreck.ArchiveRuin.watch g.FC.Keeps.stored g.FC.Wreck.ArchiveRuin.left g.FC.Keeps.watch g.FC.Wreck.ArchiveRuin.watch _ _ _ _ _ _ _ (fault_of g.V.Commitment.Named.bytes) c.start.result c.start.ensures.surer_blocks c.start.ensures.surer_certs c.start.ensures.failed)

pub returns-clause-kind : goal.returns-clause-kind
returns-clause-kind g c = rw (← c.self.view_is) (failed_so c.start.result c.start.ensures.failed (λ e failed. ⊎_elim (λ fails. inl (both_archive g.FB.Keeps.stored g.FB.Wreck.ArchiveRuin.left g.FB.Keeps.watch g.FB.Wreck.ArchiveRuin.watch g.FC.Keeps.stored g.FC.Wreck.ArchiveRuin.left g.FC.Keeps.watch g.FC.Wreck.ArchiveRuin.watch _ _ _ _ _ fails)) (λ none. inr (none.0, none.1)) failed))
