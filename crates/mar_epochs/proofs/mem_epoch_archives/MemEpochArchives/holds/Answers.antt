use Rattle.std.proofs.Common.{◌∙◌}
use Rattle.mar_model.specs.Cached.{same_place}
use Rattle.mar_epochs.specs.EntryLogs.{entries, log_of}
use Rattle.mar_epochs.proofs.Spotting.{held_at}
use Rattle.mar_epochs.proofs.mem_epoch_archives.MemEpochArchives.holds.Goals as goal

pub returns : goal.returns
returns g c = held_at (g.E.KeyedEntry.has c.keys.result.place) (same_place (g.E.AsEntry.plain c.args.entry.now)) c.keys.ensures.place (entries (log_of g.E.AsEntry.plain c.args.self.now.log.items.items)) c.spot_of.result c.is_some.result (c.spot_of.ensures ∙ c.args.self.now.indexed c.keys.result.place) c.is_some.ensures
