use Rattle.std.proofs.Common.{length, ◌++◌, ◌≡◌, ◌≤◌}
use Rattle.std.specs.List.{AllByRecursion}
use Rattle.mar_journal.specs.Format.{body}
use Rattle.mar_journal.proofs.file.read_body.Given as goal

abbrev pub invariant-records : goal.invariant-records
invariant-records g l = record {
  read : body g.R.Record.spelled l.records.items ++ l.rest ≡ l.fn.bytes;
  few : length l.records.items ≤ 2048;
  valid : AllByRecursion g.R.Record.valid l.records.items;
}

abbrev pub decreases-records : goal.decreases-records
decreases-records g l = length l.rest
