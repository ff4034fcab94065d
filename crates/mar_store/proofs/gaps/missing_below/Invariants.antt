use Rattle.std.proofs.Common.{drop, length, ◌-◌, ◌^◌, ◌≤◌}
use Rattle.mar_store.specs.Spans.{ranges_of}
use Rattle.mar_store.specs.Gaps.{missing_from}
use Rattle.mar_store.proofs.Missing.{Gathered}
use Rattle.mar_store.proofs.gaps.missing_below.Given as goal

abbrev pub invariant-loop-span : goal.invariant-loop-span
invariant-loop-span l = record {
  room : length l.missing.items ≤ l.max;
  gathered : Gathered (missing_from (ranges_of l.spans) l.fn.start) l.max l.next (2 ^ 64 - 1) l.missing.items (drop l.span-index (ranges_of l.spans));
}
