use Rattle.std.proofs.Common.{sym, subst}
use Rattle.mar_epochs.specs.EntryLogs.{AreNumbered}
use Rattle.mar_epochs.proofs.EpochArchivesChanges.{finds_once, settled_numbered}
use Rattle.mar_epochs.proofs.entry_log.EntryLog.settled.Goals as goal

pub invariant_of-result : goal.invariant_of-result
invariant_of-result g c = record {
  once = finds_once c.args.half _ _ c.settle.ensures c.args.self.once;
  counted = subst (AreNumbered c.args.self.accepted) (sym c.settle.ensures) (settled_numbered c.args.half _ c.args.self.accepted c.args.self.counted);
}
