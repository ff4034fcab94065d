use Rattle.std.proofs.Common.{refl}
use Rattle.mar_model.specs.Faults.{cache_store}
use Rattle.mar_model.specs.Held.{written_prune}
use Rattle.mar_model.specs.Places.{is_open}
use Rattle.mar_model.specs.Views.{fault_of}
use Rattle.mar_life.proofs.Changed.{cache_goes_on, prunes_below}
use Rattle.mar_life.proofs.Placed.{both_done, done_so, failed_so, usual_fault}
use Rattle.mar_life.proofs.Reading.{cache_pruned}
use Rattle.mar_model.specs.Cache.{is_below}
use Rattle.mar_model.proofs.OpenSyncs.{AreStillOpen-kept}
use Rattle.mar_life.proofs.stores.StoresHoldsCache.prune_cache.Goals as goal

pub invariant_of-self : goal.invariant_of-self
invariant_of-self g c = c.self.invariant

pub returns-clause-staged : goal.returns-clause-staged
returns-clause-staged g c = rw (← c.self.view_is) refl

pub returns-clause-prunes : goal.returns-clause-prunes
returns-clause-prunes g c =
    let both = both_done _ _ c.prune.result (both_done _ _ c.prune.result c.prune.ensures.done c.prune.ensures.tickets) c.prune.ensures.stays in
    rw (← c.self.view_is) (done_so c.prune.result both (λ is. record {
      prunes = is.0.0.prunes;
      loaded = is.0.0.loaded;
      still_open = AreStillOpen-kept (is_below c.args.round) _ _ is.0.1 c.self.inside.syncs;
      lowest = is.0.0.lowest_is;
      own_lowest = is.0.0.own_lowest;
      same = cache_pruned (is_open c.self.inside.blocks) (is_open c.self.inside.certs) c.self.inside.progress.intact is.1;
    }))

pub returns-clause-goes_on : goal.returns-clause-goes_on
returns-clause-goes_on g c =
    rw (← c.self.view_is) (cache_goes_on (fault_of g.V.Commitment.Named.bytes) (written_prune c.args.round) c.prune.result _ _ _ _ _ _ _ _
    (done_so c.prune.result c.prune.ensures.done (λ is. prunes_below c.args.round _ _ _ _ is.leaves is.within)) c.prune.ensures.passed
    (failed_so c.prune.result c.prune.ensures.failed (λ e how. (prunes_below c.args.round _ _ _ _ how.loses.leaves how.loses.lowests, how.cause))))

pub returns-clause-usual : goal.returns-clause-usual
returns-clause-usual g c = failed_so c.prune.result c.prune.ensures.failed (λ e how. usual_fault cache_store _ _ _ how.cause)
