use Rattle.std.proofs.Common.{sym, subst}
use Rattle.mar_epochs.specs.EntryLogs.{AreNumbered}
use Rattle.mar_epochs.proofs.EpochArchivesChanges.{filter_once, filter_numbered}
use Rattle.mar_epochs.proofs.entry_log.EntryLog.without_certified.Goals as goal

pub invariant_of-result : goal.invariant_of-result
invariant_of-result g c = record {
  once = filter_once _ _ _ c.take_certified.ensures c.args.self.once;
  counted = subst (AreNumbered c.args.self.accepted) (sym c.take_certified.ensures) (filter_numbered _ c.args.self.accepted _ c.args.self.counted);
}
