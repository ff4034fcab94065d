use Rattle.std.proofs.Common.{sym, subst}
use Rattle.mar_epochs.specs.EntryLogs.{AreNumbered}
use Rattle.mar_epochs.proofs.EpochArchivesChanges.{mark_once, marked_numbered}
use Rattle.mar_epochs.proofs.entry_log.EntryLog.marked.Goals as goal

pub invariant_of-result : goal.invariant_of-result
invariant_of-result g c = record {
  once = mark_once c.args.section c.args.number _ _ c.mark.ensures c.args.self.once;
  counted = subst (AreNumbered c.args.self.accepted) (sym c.mark.ensures) (marked_numbered c.args.section c.args.number c.args.self.accepted _ c.args.self.counted);
}
