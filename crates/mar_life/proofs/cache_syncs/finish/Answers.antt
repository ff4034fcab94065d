use Rattle.std.proofs.Common.{◌∙◌, sym}
use Rattle.mar_model.proofs.OpenSyncs.{IsFound-opened}
use Rattle.mar_life.proofs.CacheSyncs.{none_closed, none_finishes}
use Rattle.mar_life.proofs.cache_syncs.finish.Goals as goal

pub returns-in_default-clause-done : goal.returns-in_default-clause-done
returns-in_default-clause-done g c = none_finishes c.args.ticket _ c.args.syncs.now _ _ _ (sym c.find.ensures ∙ c.in_default.is) (g.met.H.LifeCache.nested c.args.cache.now)

pub returns-in_default-clause-closed : goal.returns-in_default-clause-closed
returns-in_default-clause-closed g c = none_closed c.args.ticket c.args.syncs.now (sym c.find.ensures ∙ c.in_default.is)

pub returns-clause-done : goal.returns-clause-done
returns-clause-done g c = rw (IsFound-opened _ c.args.ticket c.args.syncs.now _ (sym c.find.ensures ∙ c.in-Some.is)).1 c.in_ok-finish_sync.ensures.done
