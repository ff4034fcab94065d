use Rattle.std.proofs.Common.{ap, map, ◌∙◌}
use Rattle.mar_cache.specs.AsOne.{lowests_of}
use Rattle.mar_cache.specs.Bounds.{bounds_of}
use Rattle.mar_cache.proofs.CacheSteps.{left_is}
use Rattle.mar_cache.proofs.epoch_cache.EpochCacheCache.wreck.Goals as goal

pub returns-clause-left : goal.returns-clause-left
returns-clause-left g c = left_is (g.S.Epochs.states c.args.self.manager.epochs) (g.S.Wreck.EpochsRuin.left c.wreck.result.epochs) (bounds_of (g.M.Meta.current c.args.self.manager.meta)) (map bounds_of (g.M.Wreck.MetaRuin.left c.wreck.result.meta)) c.wreck.ensures.ways c.wreck.ensures.one (ap (map bounds_of) c.wreck.ensures.bounds ∙ c.args.self.manager.durable)

pub returns-clause-lowests : goal.returns-clause-lowests
returns-clause-lowests g c = ap lowests_of (ap (map bounds_of) c.wreck.ensures.bounds ∙ c.args.self.manager.durable)
