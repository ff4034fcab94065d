use Rattle.std.proofs.Common.{length, take, ◌-◌, ◌≡◌, ◌≤◌}
use Rattle.mar_journal_stores.specs.ArchiveStore.{ranges_with}
use Rattle.mar_journal_stores.proofs.aside.ranges_after.Given as goal

abbrev pub invariant-places : goal.invariant-places
invariant-places g l = record {
  within : l.place ≤ length l.gone;
  ranges : l.may ≡ ranges_with l.held l.number (take l.place l.gone);
}

abbrev pub decreases-places : goal.decreases-places
decreases-places g l = length l.gone - l.place
