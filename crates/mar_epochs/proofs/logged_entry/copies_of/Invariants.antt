use Rattle.std.proofs.Common.{◌≡◌, ◌≤◌, ◌-◌, take, length}
use Rattle.mar_epochs.specs.EntryLogs.{log_of}
use Rattle.mar_epochs.proofs.logged_entry.copies_of.Given as goal

abbrev pub decreases-loop-place : goal.decreases-loop-place
decreases-loop-place g l = length l.items - l.place

abbrev pub invariant-loop-place : goal.invariant-loop-place
invariant-loop-place g l = record {
  within : l.place ≤ length l.items;
  copied : log_of g.E.AsEntry.plain l.copies.items ≡ log_of g.E.AsEntry.plain (take l.place l.items);
}
