use Rattle.std.proofs.Common.{Some, None}
use Rattle.mar_epochs.proofs.Indexing.{entry_there}
use Rattle.mar_epochs.proofs.entry_log.EntryLog.entry_at.Goals as goal

pub returns-in-Some : goal.returns-in-Some
returns-in-Some g c = entry_there g.E.AsEntry.plain c.args.self.now.items.items c.args.place (Some c.in-Some.logged.now) c.in-Some.ensures

pub returns-in-None : goal.returns-in-None
returns-in-None g c = entry_there g.E.AsEntry.plain c.args.self.now.items.items c.args.place None c.in-None.ensures
