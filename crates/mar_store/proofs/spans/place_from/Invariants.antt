use Rattle.std.proofs.Common.{◌-◌, ◌≡◌, ◌≤◌, length, drop}
use Rattle.mar_store.specs.Gaps.{ranges_from}
use Rattle.mar_store.specs.Spans.{ranges_of, EndsFrom}
use Rattle.mar_store.proofs.spans.place_from.Given as goal

abbrev pub invariant-halves : goal.invariant-halves
invariant-halves l = record {
  between : l.low ≤ l.high;
  within : l.high ≤ length l.spans;
  ends : EndsFrom l.height (drop l.high (ranges_of l.spans));
  same : ranges_from (drop l.low (ranges_of l.spans)) l.height ≡ ranges_from (ranges_of l.spans) l.height;
}

abbrev pub decreases-halves : goal.decreases-halves
decreases-halves l = l.high - l.low
