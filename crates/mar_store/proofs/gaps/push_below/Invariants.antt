use Rattle.std.proofs.Common.{length, max, ◌++◌, ◌≡◌, ◌≤◌}
use Rattle.mar_store.specs.Gaps.{numbers}
use Rattle.mar_store.proofs.gaps.push_below.Given as goal

abbrev pub invariant-loop-height : goal.invariant-loop-height
invariant-loop-height l = record {
  above : l.from ≤ l.height;
  within : l.height ≤ max l.from l.to;
  pushed : l.missing.items ≡ l.initial.missing.items ++ numbers l.from l.height;
  room : length l.missing.items ≤ l.max;
}
