use Rattle.std.proofs.Common.{◌&&◌}
use Rattle.mar_cache.proofs.PutsInPart.{strikes_on}
use Rattle.mar_cache.proofs.Watched.{rung}
use Rattle.mar_cache.proofs.manager.Manager.begin_put.Goals as goal

pub returns-then-rings-clause-watched : goal.returns-then-rings-clause-watched
returns-then-rings-clause-watched g c = strikes_on _ _ _ (rung g.S.Epochs.keeps c.args.self.alarm c.rings-rings.new.self c.rings-rings.result (g.S.Epochs.calm c.args.self.epochs && (g.M.Meta.watch c.args.self.meta).only_armed) c.if-rings.true c.rings-rings.ensures.rings c.rings-rings.ensures.due c.rings-rings.ensures.faults) c.put_in_part.ensures.watch
