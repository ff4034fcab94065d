use Rattle.std.proofs.Common.{◌∙◌, sym}
use Rattle.mar_epochs.specs.EntryLogs.{entries, log_of}
use Rattle.mar_epochs.proofs.Spotting.{found_at}
use Rattle.mar_epochs.proofs.mem_epoch_archives.MemEpochArchivesEpochArchives.find.Goals as goal

pub returns-in-Some : goal.returns-in-Some
returns-in-Some g c = c.entry_at.ensures ∙ found_at (g.E.KeyedEntry.has c.key_of.result) (g.E.AsEntry.wants c.args.wanted.now) c.key_of.ensures (entries (log_of g.E.AsEntry.plain c.args.self.now.log.items.items)) _ (sym c.in-Some.is ∙ c.spot_of.ensures ∙ c.args.self.now.indexed c.key_of.result)

pub returns-in-None : goal.returns-in-None
returns-in-None g c = found_at (g.E.KeyedEntry.has c.key_of.result) (g.E.AsEntry.wants c.args.wanted.now) c.key_of.ensures (entries (log_of g.E.AsEntry.plain c.args.self.now.log.items.items)) _ (sym c.in-None.is ∙ c.spot_of.ensures ∙ c.args.self.now.indexed c.key_of.result)
