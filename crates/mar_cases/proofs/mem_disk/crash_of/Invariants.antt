use Rattle.std.proofs.Common.{drop, ◌≡◌, ◌≤◌}
use Rattle.mar_cases.specs.Calls.{crashed}
use Rattle.mar_cases.proofs.mem_disk.crash_of.Given as goal

abbrev pub invariant-loop-call : goal.invariant-loop-call
invariant-loop-call l = record {
  is : crashed l.luck l.played.number l.played.seen.items l.played.left.items (drop l.call-index l.calls) ≡ crashed l.luck 0 l.first l.first l.calls;
  number : l.played.number ≤ l.call-index;
}
