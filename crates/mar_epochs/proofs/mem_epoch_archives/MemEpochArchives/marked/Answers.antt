use Rattle.std.proofs.Common.{◌∙◌, ap, sym}
use Rattle.mar_epochs.specs.EntryLogs.{entries, log_of}
use Rattle.mar_epochs.specs.Spots.{spot_found}
use Rattle.mar_epochs.proofs.EpochArchivesChanges.{entries_marked}
use Rattle.mar_epochs.proofs.mem_epoch_archives.MemEpochArchives.marked.Goals as goal

pub invariant_of-result : goal.invariant_of-result
invariant_of-result g c = record {
  indexed = λ k. c.args.self.indexed k ∙ ap (spot_found (g.E.KeyedEntry.has k)) (sym (ap entries c.marked.ensures.log ∙ entries_marked c.args.section c.args.number (log_of g.E.AsEntry.plain c.args.self.log.items.items)));
}
