use Rattle.std.proofs.Common.{List, length, take, ◌++◌, ◌+◌, ◌-◌, ◌<◌, ◌≡◌}
use Rattle.std.specs.List.{AllByRecursion}
use Rattle.mar_journal.specs.Format.{IsBatch, frames, joined, magic}
use Rattle.mar_journal.proofs.file.read_file.Given as goal

abbrev pub invariant-batches : goal.invariant-batches
invariant-batches g l = record {
  batches : List (List g.row.R.Denot);
  good : AllByRecursion (IsBatch g.R.Record.spelled g.R.Record.valid) batches;
  records_are : joined batches ≡ l.records.items;
  ends : l.gate ≡ 4 + length (frames g.R.Record.spelled batches);
  within : l.gate < length l.bytes;
  read : take l.gate l.bytes ≡ magic ++ frames g.R.Record.spelled batches;
}

abbrev pub decreases-batches : goal.decreases-batches
decreases-batches g l = length l.bytes - l.gate
