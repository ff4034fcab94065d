use Rattle.std.proofs.Common.{[], ◌∷◌, ap, refl}
use Rattle.mar_model.specs.Cached.{verified_entry}
use Rattle.mar_model.specs.CacheCalls.{none_goes}
use Rattle.mar_model.specs.Faults.{cache_store}
use Rattle.mar_model.proofs.Passing.{Passes-one, by_lost}
use Rattle.mar_life.proofs.Caches.{cache_alone}
use Rattle.mar_life.proofs.cache_in_place.CacheInPlaceLifeCache.put_verified.Goals as goal

pub returns-in_default-clause-failed : goal.returns-in_default-clause-failed
returns-in_default-clause-failed g c = cache_alone g.H.Cache.kept g.H.Wreck.ShelfRuin.left g.H.Cache.lowest g.H.Wreck.ShelfRuin.lowests g.H.Cache.watch g.H.Wreck.ShelfRuin.watch (verified_entry c.args.round (g.V.Variant.plain c.args.block) ∷ []) none_goes _ _ c.in_default.ensures.0 c.in_default.ensures.1

pub returns-in-Ok-clause-done : goal.returns-in-Ok-clause-done
returns-in-Ok-clause-done g c = rw c.in-Some.ensures.0 (record { puts = c.in-Ok.ensures.puts; leaves = c.in-Ok.ensures.goes_on.leaves; loaded = c.in-Ok.ensures.stays.1; tickets = c.in-Ok.ensures.goes_on.tickets })

pub returns-in-Ok-clause-stays : goal.returns-in-Ok-clause-stays
returns-in-Ok-clause-stays g c = rw c.in-Some.ensures.0 (c.in-Ok.ensures.stays.0, ap (λ k. k ∷ []) c.in-Ok.ensures.stays.0, refl)

pub returns-in-Ok-clause-passed : goal.returns-in-Ok-clause-passed
returns-in-Ok-clause-passed g c = rw c.in-Some.ensures.0 (Passes-one _ _ c.in-Ok.ensures.watched.0 c.in-Ok.ensures.watched.1)

pub returns-in-Err-clause-failed : goal.returns-in-Err-clause-failed
returns-in-Err-clause-failed g c = rw (c.in-Some.ensures.0, c.lose.ensures.left, c.lose.ensures.fault) (record { loses = c.in-Err.ensures.lost; cause = by_lost g.H.Cache.watch g.H.Wreck.ShelfRuin.watch _ cache_store c.in-Err.lost c.in-Err.ensures.watched })
