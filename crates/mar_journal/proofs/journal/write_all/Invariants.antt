use Rattle.std.proofs.Common.{List, [], length, take, ◌++◌, ◌-◌, ◌<◌, ◌≡◌, ◌≤◌}
use Rattle.mar_journal.specs.Disk.{LeavesOnly}
use Rattle.mar_journal.specs.Format.{StandsUpto}
use Rattle.mar_journal.specs.Journal.{IsSettled}
use Rattle.mar_journal.proofs.journal.write_all.Given as goal

abbrev pub invariant-batches : goal.invariant-batches
invariant-batches g l = record {
  within : l.done ≤ length l.records;
  room : l.end < length (g.D.Disk.seen l.disk);
  settled : (before : List g.row.R.Denot) → IsSettled g.R.Record.spelled g.R.Record.valid g.D.Disk.seen g.D.Disk.may_leave before l.initial.end l.fn.disk
      → IsSettled g.R.Record.spelled g.R.Record.valid g.D.Disk.seen g.D.Disk.may_leave (before ++ take l.done l.records) l.end l.disk;
  any_moment : (before : List g.row.R.Denot) → IsSettled g.R.Record.spelled g.R.Record.valid g.D.Disk.seen g.D.Disk.may_leave before l.initial.end l.fn.disk
      → LeavesOnly g.D.Disk.moment g.D.Disk.left_since l.fn.disk l.disk (StandsUpto g.R.Record.spelled g.R.Record.valid before l.records);
  idle : l.records ≡ [] → l.disk ≡ l.fn.disk;
  calm : g.D.Disk.faults l.disk ≡ g.D.Disk.faults l.fn.disk;
}

abbrev pub decreases-batches : goal.decreases-batches
decreases-batches g l = length l.records - l.done
