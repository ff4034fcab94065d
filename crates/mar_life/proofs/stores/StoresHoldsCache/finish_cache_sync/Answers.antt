use Rattle.std.proofs.Common.{Contains, refl, subst}
use Rattle.mar_model.specs.Faults.{cache_store}
use Rattle.mar_model.specs.Held.{nothing_written}
use Rattle.mar_model.specs.Places.{is_open}
use Rattle.mar_model.specs.Pool.{writing_of}
use Rattle.mar_model.specs.Views.{fault_of}
use Rattle.mar_life.proofs.CacheSyncs.{own_closed, still_closed}
use Rattle.mar_life.proofs.Changed.{cache_goes_on, takes_up}
use Rattle.mar_life.proofs.Placed.{both_done, done_so, failed_so, usual_fault}
use Rattle.mar_life.proofs.Reading.{cache_changed}
use Rattle.mar_life.proofs.stores.StoresHoldsCache.finish_cache_sync.Goals as goal

pub invariant_of-self : goal.invariant_of-self
invariant_of-self g c = (c.self.invariant.0, c.self.invariant.1, c.self.invariant.2, own_closed c.args.ticket c.finish.result (writing_of c.self.inside.writes) c.self.inside.syncs _ c.finish.ensures.closed c.finish.ensures.unclosed c.self.invariant.3)

pub returns-clause-staged : goal.returns-clause-staged
returns-clause-staged g c = rw (← c.self.view_is) refl

pub returns-clause-finishes : goal.returns-clause-finishes
returns-clause-finishes g c =
    let both = both_done _ _ c.finish.result (both_done _ _ c.finish.result c.finish.ensures.done c.finish.ensures.closed) c.finish.ensures.stays in
    rw (← c.self.view_is) (done_so c.finish.result both (λ is. record {
      finishes = is.0.0.finishes;
      loaded = is.0.0.loaded;
      fresh = is.0.0.fresh;
      still_open = still_closed c.args.ticket _ _ c.self.inside.syncs _ is.0.0.tickets is.0.1;
      same = cache_changed (is_open c.self.inside.blocks) (is_open c.self.inside.certs) c.self.inside.progress.intact is.1.0 is.1.1 is.1.2;
    }))

pub returns-clause-goes_on : goal.returns-clause-goes_on
returns-clause-goes_on g c =
    let both = both_done _ _ c.finish.result c.finish.ensures.done c.finish.ensures.stays in
    rw (← c.self.view_is) (cache_goes_on (fault_of g.V.Commitment.Named.bytes) nothing_written c.finish.result _ _ _ _ _ _ _ _
    (done_so c.finish.result both (λ is. takes_up _ _ _ _ is.0.leaves (λ k has. subst (λ ks. Contains ks k) is.1.1 has))) c.finish.ensures.passed
    (failed_so c.finish.result c.finish.ensures.failed (λ e how. (takes_up _ _ _ _ how.loses.leaves how.loses.lowests, how.cause))))

pub returns-clause-usual : goal.returns-clause-usual
returns-clause-usual g c = failed_so c.finish.result c.finish.ensures.failed (λ e how. usual_fault cache_store _ _ _ how.cause)
