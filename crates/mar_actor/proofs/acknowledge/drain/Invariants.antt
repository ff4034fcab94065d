use Rattle.mar_actor.proofs.Drained.{DrainsSoFar}
use Rattle.mar_actor.proofs.acknowledge.drain.Given as goal

abbrev pub invariant-entries : goal.invariant-entries
invariant-entries g l = DrainsSoFar g.V.Variant.inner (g.E.Epocher.epochs l.fn.epocher) (g.S.HoldsCache.held l.initial.stores) (g.S.HoldsCache.held l.stores) l.initial.window l.window (g.R.Resolver.told l.initial.resolver) (g.R.Resolver.told l.resolver) l.is_drained l._drained
