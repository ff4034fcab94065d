use Rattle.mar_cache.proofs.CacheSteps.{staged_bare}
use Rattle.mar_cache.proofs.epoch_cache.EpochCache.new.Goals as goal

pub invariant_of-result : goal.invariant_of-result
invariant_of-result g c = record { staged = staged_bare (g.S.Epochs.states c.args.manager.epochs) c.requires.bare }
