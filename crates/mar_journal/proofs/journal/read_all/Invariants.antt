use Rattle.std.proofs.Common.{length, take, ◌-◌, ◌≡◌, ◌≤◌}
use Rattle.mar_journal.specs.Disk.{LeavesOnly, Narrows}
use Rattle.mar_journal.proofs.journal.read_all.Given as goal

abbrev pub invariant-pieces : goal.invariant-pieces
invariant-pieces g l = record {
  size : l.size ≡ length (g.D.Disk.seen l.fn.disk);
  within : length l.bytes.items ≤ l.size;
  bytes : l.bytes.items ≡ take (length l.bytes.items) (g.D.Disk.seen l.fn.disk);
  same : g.D.Disk.seen l.disk ≡ g.D.Disk.seen l.fn.disk;
  crash : Narrows (g.D.Disk.may_leave l.fn.disk) (g.D.Disk.may_leave l.disk);
  any_moment : LeavesOnly g.D.Disk.moment g.D.Disk.left_since l.fn.disk l.disk (g.D.Disk.may_leave l.fn.disk);
  calm : g.D.Disk.faults l.disk ≡ g.D.Disk.faults l.fn.disk;
}

abbrev pub decreases-pieces : goal.decreases-pieces
decreases-pieces g l = l.size - length l.bytes.items
