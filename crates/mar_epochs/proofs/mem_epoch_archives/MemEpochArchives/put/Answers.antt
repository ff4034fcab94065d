use Rattle.std.proofs.Common.{◌∙◌, ap, arith}
use Rattle.mar_epochs.specs.EntryLogs.{entries, log_of}
use Rattle.mar_epochs.proofs.Indexing.{count_of}
use Rattle.mar_epochs.proofs.Spotting.{spot_push}
use Rattle.mar_epochs.proofs.EpochArchivesChanges.{entries_push}
use Rattle.mar_epochs.proofs.mem_epoch_archives.MemEpochArchives.put.Goals as goal

pub invariant_of-result : goal.invariant_of-result
invariant_of-result g c = record {
  indexed = λ k. spot_push (g.E.KeyedEntry.has k) (entries (log_of g.E.AsEntry.plain c.args.self.log.items.items)) _ (g.E.AsEntry.plain c.args.entry) c.len.result _ _ (c.args.self.indexed k) (omega (arith, count_of g.E.AsEntry.plain c.args.self.log.items.items)) (ap entries c.in-Ok-push.ensures.ok ∙ entries_push (log_of g.E.AsEntry.plain c.args.self.log.items.items) _ _) (c.in-Ok.ensures k);
}
