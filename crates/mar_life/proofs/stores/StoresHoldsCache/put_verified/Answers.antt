use Rattle.std.proofs.Common.{Contains, refl, subst}
use Rattle.mar_model.specs.Cached.{verified_entry}
use Rattle.mar_model.specs.Faults.{cache_store}
use Rattle.mar_model.specs.Held.{written_entry}
use Rattle.mar_model.specs.Places.{is_open}
use Rattle.mar_model.specs.Views.{fault_of}
use Rattle.mar_life.proofs.Changed.{cache_goes_on, keeps_entry}
use Rattle.mar_life.proofs.Placed.{failed_so, found_is_done, found_so, found_with_done, usual_fault}
use Rattle.mar_life.proofs.Reading.{cache_changed}
use Rattle.mar_model.specs.CacheCalls.{none_goes}
use Rattle.mar_model.proofs.OpenSyncs.{AreStillOpen-kept}
use Rattle.mar_life.proofs.stores.StoresHoldsCache.put_verified.Goals as goal

pub invariant_of-self : goal.invariant_of-self
invariant_of-self g c = c.self.invariant

pub returns-clause-staged : goal.returns-clause-staged
returns-clause-staged g c = rw (← c.self.view_is) refl

pub returns-clause-caches : goal.returns-clause-caches
returns-clause-caches g c =
    let both = found_with_done _ _ c.put_verified.result c.put_verified.ensures.done c.put_verified.ensures.stays in
    rw (← c.self.view_is) (found_so c.put_verified.result both (λ s is. record {
      puts = is.0.puts;
      loaded = is.0.loaded;
      still_open = AreStillOpen-kept none_goes _ _ is.0.tickets c.self.inside.syncs;
      tickets = is.0.tickets;
      same = cache_changed (is_open c.self.inside.blocks) (is_open c.self.inside.certs) c.self.inside.progress.intact is.1.0 is.1.1 is.1.2;
    }))

pub returns-clause-goes_on : goal.returns-clause-goes_on
returns-clause-goes_on g c =
    let x = verified_entry c.args.round (g.V.Variant.plain c.args.block) in
    let both = found_with_done _ _ c.put_verified.result c.put_verified.ensures.done c.put_verified.ensures.stays in
    rw (← c.self.view_is) (cache_goes_on (fault_of g.V.Commitment.Named.bytes) (written_entry x) c.put_verified.result _ _ _ _ _ _ _ _
    (found_is_done c.put_verified.result both (λ s is. keeps_entry x _ _ _ _ is.0.leaves (λ k has. subst (λ ks. Contains ks k) is.1.1 has))) c.put_verified.ensures.passed
    (failed_so c.put_verified.result c.put_verified.ensures.failed (λ e how. (keeps_entry x _ _ _ _ how.loses.leaves how.loses.lowests, how.cause))))

pub returns-clause-usual : goal.returns-clause-usual
returns-clause-usual g c = failed_so c.put_verified.result c.put_verified.ensures.failed (λ e how. usual_fault cache_store _ _ _ how.cause)
