use Rattle.mar_life.proofs.CachedFinalizations.{found_for}
use Rattle.mar_life.proofs.cached_finalizations.of_commitment.Goals as goal

pub returns-in-Ok-clause-found : goal.returns-in-Ok-clause-found
returns-in-Ok-clause-found g c = found_for g.F.AsFinalization.plain g.V.Variant.inner (g.H.LifeCache.held c.args.cache.now).kept.held _ _ _ _ c.commitment_to_inner.ensures c.in-Ok.ensures.found c.with_payload.ensures
