use Rattle.mar_epochs.specs.EntryLogs.{log_of}
use Rattle.mar_epochs.proofs.EpochArchivesChanges.{covered_now}
use Rattle.mar_epochs.proofs.mem_epoch_archives.MemEpochArchivesEpochArchives.ticket.Goals as goal

pub returns-clause-covered : goal.returns-clause-covered
returns-clause-covered g c = λ s. covered_now c.args.self.now.log.accepted (log_of g.E.AsEntry.plain c.args.self.now.log.items.items) s c.args.self.now.log.counted
