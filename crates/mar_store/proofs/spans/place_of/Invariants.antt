use Rattle.std.proofs.Common.{◌≡◌, ◌≤◌, ◌-◌, ◌++◌, length, take, drop}
use Rattle.mar_store.specs.Ranges.{with_height}
use Rattle.mar_store.specs.Spans.{ranges_of, IsReached}
use Rattle.mar_store.proofs.spans.place_of.Given as goal

abbrev pub invariant-halves : goal.invariant-halves
invariant-halves l = record {
  between : l.low ≤ l.high;
  within : l.high ≤ length l.spans;
  reached : IsReached l.height (drop l.high (ranges_of l.spans));
  apart : with_height l.height (ranges_of l.spans) ≡ take l.low (ranges_of l.spans) ++ with_height l.height (drop l.low (ranges_of l.spans));
}

abbrev pub decreases-halves : goal.decreases-halves
decreases-halves l = l.high - l.low
