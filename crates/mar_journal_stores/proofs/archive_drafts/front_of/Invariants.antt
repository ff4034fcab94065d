use Rattle.std.proofs.Common.{drop, length, ◌<◌, ◌≤◌}
use Rattle.std.specs.List.{AllByRecursion}
use Rattle.mar_journal_stores.proofs.archive_drafts.front_of.Given as goal

abbrev pub invariant-marks : goal.invariant-marks
invariant-marks l = record {
  within : l.count ≤ length l.marks;
  later : AllByRecursion (λ n. l.number < n) (drop l.count l.marks);
}

abbrev pub decreases-marks : goal.decreases-marks
decreases-marks l = l.count
