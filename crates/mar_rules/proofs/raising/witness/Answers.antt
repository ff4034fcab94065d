use Rattle.std.proofs.Common.{refl}
use Rattle.mar_model.proofs.CachePrunes.{PrunesCacheBy-none}
use Rattle.mar_model.proofs.Growing.{Grew-noted, WithinWritten-nothing}
use Rattle.mar_rules.proofs.raising.witness.Goals as goal

pub returns-in_ok-prune_before-in-Some-clause-goes_on : goal.returns-in_ok-prune_before-in-Some-clause-goes_on
returns-in_ok-prune_before-in-Some-clause-goes_on g c = rw c.in-Some.is (λ start all grew within. c.raise.ensures.goes_on start all (rw c.witness.ensures.held (Grew-noted start all _ (c.in_ok-prune_before-in-Some.ensures.goes_on start all grew within) _ _)) (WithinWritten-nothing all))

pub returns-in-None-clause-prunes : goal.returns-in-None-clause-prunes
returns-in-None-clause-prunes g c = rw c.in-None.is (PrunesCacheBy-none (g.S.HoldsCache.held c.args.stores.now) (g.S.HoldsCache.held c.args.stores.now) refl refl refl)
