use Rattle.std.proofs.Common.{arith, ap, ◌∙◌}
use Rattle.std.proofs.lemmas.List.{map_push}
use Rattle.mar_epochs.specs.EntryLogs.{log_of, logged_of}
use Rattle.mar_epochs.proofs.EpochArchivesChanges.{push_once, push_numbered}
use Rattle.mar_epochs.proofs.entry_log.EntryLog.push.Goals as goal

pub invariant_of-result : goal.invariant_of-result
invariant_of-result g c =
    let are = ap (log_of g.E.AsEntry.plain) c.in-Ok.ensures.items ∙ map_push (logged_of g.E.AsEntry.plain) c.args.self.items.items _ in
    record {
      once = push_once (log_of g.E.AsEntry.plain c.args.self.items.items) _ _ _ are c.requires.free c.args.self.once;
      counted = push_numbered (log_of g.E.AsEntry.plain c.args.self.items.items) _ _ _ _ (omega arith) are c.saturating_add.ensures c.args.self.counted;
    }
