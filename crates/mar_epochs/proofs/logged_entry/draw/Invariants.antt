use Rattle.std.proofs.Common.{◌≡◌, ◌<◌}
use Rattle.mar_epochs.specs.EntryLogs.{log_of}
use Rattle.mar_epochs.proofs.Draws.{bit_at, drawn_front}
use Rattle.mar_epochs.proofs.logged_entry.draw.Given as goal

abbrev pub invariant-loop-logged : goal.invariant-loop-logged
invariant-loop-logged g l = record {
  drawn : log_of g.E.AsEntry.plain l.items ≡ drawn_front l.section l.half l.logged-index 0 (log_of g.E.AsEntry.plain l.initial.items);
  bit : l.bit ≡ bit_at l.section l.logged-index 0 (log_of g.E.AsEntry.plain l.initial.items);
  small : l.bit < 32;
}
