use Rattle.std.proofs.Common.{Contains, refl, subst}
use Rattle.mar_model.specs.Faults.{cache_store}
use Rattle.mar_model.specs.Held.{nothing_written}
use Rattle.mar_model.specs.Places.{is_open}
use Rattle.mar_model.specs.Views.{fault_of}
use Rattle.mar_life.proofs.Changed.{cache_goes_on, takes_up}
use Rattle.mar_life.proofs.Placed.{both_done, done_so, failed_so, usual_fault}
use Rattle.mar_life.proofs.Reading.{cache_changed}
use Rattle.mar_model.specs.CacheCalls.{none_goes}
use Rattle.mar_model.proofs.OpenSyncs.{AreStillOpen-kept}
use Rattle.mar_life.proofs.stores.StoresHoldsCache.load_cache.Goals as goal

pub invariant_of-self : goal.invariant_of-self
invariant_of-self g c = c.self.invariant

pub returns-clause-staged : goal.returns-clause-staged
returns-clause-staged g c = rw (← c.self.view_is) refl

pub returns-clause-loaded : goal.returns-clause-loaded
returns-clause-loaded g c = done_so c.load.result c.load.ensures.stays (λ is. is.2)

pub returns-clause-loads : goal.returns-clause-loads
returns-clause-loads g c = rw (← c.self.view_is) c.load.ensures.done

pub returns-clause-by_luck : goal.returns-clause-by_luck
returns-clause-by_luck g c = rw (← c.self.view_is) c.load.ensures.found

pub returns-clause-still_open : goal.returns-clause-still_open
returns-clause-still_open g c = rw (← c.self.view_is) (done_so c.load.result c.load.ensures.tickets (λ keeps. AreStillOpen-kept none_goes _ _ keeps c.self.inside.syncs))

pub returns-clause-same : goal.returns-clause-same
returns-clause-same g c = rw (← c.self.view_is) (done_so c.load.result c.load.ensures.stays (λ is. cache_changed (is_open c.self.inside.blocks) (is_open c.self.inside.certs) c.self.inside.progress.intact is.0 is.1 is.3))

pub returns-clause-goes_on : goal.returns-clause-goes_on
returns-clause-goes_on g c = rw (← c.self.view_is) (cache_goes_on (fault_of g.V.Commitment.Named.bytes) nothing_written c.load.result _ _ _ _ _ _ _ _ (done_so c.load.result (both_done _ _ c.load.result c.load.ensures.leaves c.load.ensures.stays) (λ is. takes_up _ _ _ _ is.0 (λ k has. subst (λ ks. Contains ks k) is.1.1 has))) c.load.ensures.passed (failed_so c.load.result c.load.ensures.failed (λ e how. (takes_up _ _ _ _ how.loses.leaves how.loses.lowests, how.cause))))

pub returns-clause-usual : goal.returns-clause-usual
returns-clause-usual g c = failed_so c.load.result c.load.ensures.failed (λ e how. usual_fault cache_store _ _ _ how.cause)
