use Rattle.mar_cache.proofs.Shelving.{started_none, started_some}
use Rattle.mar_cache.proofs.manager.Manager.started.Goals as goal

pub returns-in-None : goal.returns-in-None
returns-in-None g c = started_none _ c.args.epoch c.args.section c.in-None.ensures

pub returns-in-Some : goal.returns-in-Some
returns-in-Some g c = started_some _ c.args.epoch c.args.section c.in-Some.number c.in-Some.ensures
