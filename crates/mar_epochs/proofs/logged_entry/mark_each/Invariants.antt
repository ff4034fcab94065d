use Rattle.std.proofs.Common.{◌≡◌}
use Rattle.mar_key.specs.Fronts.{mapped_front}
use Rattle.mar_epochs.specs.EntryLogs.{log_of, with_mark}
use Rattle.mar_epochs.proofs.logged_entry.mark_each.Given as goal

abbrev pub invariant-loop-logged : goal.invariant-loop-logged
invariant-loop-logged g l = log_of g.E.AsEntry.plain l.items ≡ mapped_front (with_mark l.section l.number) l.logged-index (log_of g.E.AsEntry.plain l.initial.items)
