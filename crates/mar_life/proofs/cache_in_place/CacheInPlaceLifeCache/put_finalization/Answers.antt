use Rattle.std.proofs.Common.{[], ◌∷◌, ap, refl}
use Rattle.mar_model.specs.Cached.{finalization_entry}
use Rattle.mar_model.specs.CacheCalls.{none_goes}
use Rattle.mar_model.specs.Faults.{cache_store}
use Rattle.mar_model.proofs.Passing.{Passes-one, by_lost}
use Rattle.mar_life.proofs.Caches.{cache_alone, cache_uncalled}
use Rattle.mar_life.proofs.cache_in_place.CacheInPlaceLifeCache.put_finalization.Goals as goal

-- no copy of the finalization could be made
pub returns-in_default-clause-failed : goal.returns-in_default-clause-failed
returns-in_default-clause-failed g c = cache_uncalled g.H.Cache.kept g.H.Wreck.ShelfRuin.left g.H.Cache.lowest g.H.Cache.loaded g.H.Wreck.ShelfRuin.lowests g.H.Cache.watch g.H.Wreck.ShelfRuin.watch g.met.H.Cache.nested g.met.H.Wreck.ShelfRuin.within (finalization_entry (g.F.AsFinalization.plain c.args.finalization.now) ∷ []) none_goes c.args.self.now.place

pub returns-in_default-take-clause-failed : goal.returns-in_default-take-clause-failed
returns-in_default-take-clause-failed g c = cache_alone g.H.Cache.kept g.H.Wreck.ShelfRuin.left g.H.Cache.lowest g.H.Wreck.ShelfRuin.lowests g.H.Cache.watch g.H.Wreck.ShelfRuin.watch (finalization_entry (g.F.AsFinalization.plain c.args.finalization.now) ∷ []) none_goes _ _ c.in_default-take.ensures.0 c.in_default-take.ensures.1

pub returns-in-Ok-put_finalization-clause-done : goal.returns-in-Ok-put_finalization-clause-done
returns-in-Ok-put_finalization-clause-done g c = rw (c.in-Some.ensures.0, ← c.in-Ok.ensures) (record { puts = c.in-Ok-put_finalization.ensures.puts; leaves = c.in-Ok-put_finalization.ensures.goes_on.leaves; loaded = c.in-Ok-put_finalization.ensures.stays.1 })

pub returns-in-Ok-put_finalization-clause-tickets : goal.returns-in-Ok-put_finalization-clause-tickets
returns-in-Ok-put_finalization-clause-tickets g c = rw c.in-Some.ensures.0 c.in-Ok-put_finalization.ensures.goes_on.tickets

pub returns-in-Ok-put_finalization-clause-stays : goal.returns-in-Ok-put_finalization-clause-stays
returns-in-Ok-put_finalization-clause-stays g c = rw c.in-Some.ensures.0 (c.in-Ok-put_finalization.ensures.stays.0, ap (λ k. k ∷ []) c.in-Ok-put_finalization.ensures.stays.0, refl)

pub returns-in-Ok-put_finalization-clause-passed : goal.returns-in-Ok-put_finalization-clause-passed
returns-in-Ok-put_finalization-clause-passed g c = rw c.in-Some.ensures.0 (Passes-one _ _ c.in-Ok-put_finalization.ensures.watched.0 c.in-Ok-put_finalization.ensures.watched.1)

pub returns-in-Err-clause-failed : goal.returns-in-Err-clause-failed
returns-in-Err-clause-failed g c = rw (c.in-Some.ensures.0, c.lose.ensures.left, c.lose.ensures.fault, ← c.in-Ok.ensures) (record { loses = c.in-Err.ensures.lost; cause = by_lost g.H.Cache.watch g.H.Wreck.ShelfRuin.watch _ cache_store c.in-Err.lost c.in-Err.ensures.watched })
