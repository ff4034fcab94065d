use Rattle.std.proofs.Common.{drop, ◌≡◌}
use Rattle.mar_gate.proofs.writes.drop_front.Given as goal

abbrev pub invariant-loop : goal.invariant-loop
invariant-loop l = l.heights.items ≡ drop l.counter l.initial.heights.items
