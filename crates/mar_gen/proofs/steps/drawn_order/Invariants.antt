use Rattle.std.proofs.Common.{length, ◌+◌, ◌≡◌}
use Rattle.mar_gen.specs.Draws.{state_after}
use Rattle.mar_gen.specs.Plan.{exchanged}
use Rattle.mar_gen.proofs.steps.drawn_order.Given as goal

abbrev pub invariant-loop-done : goal.invariant-loop-done
invariant-loop-done l = record {
  heights : l.heights.items ≡ exchanged l.seed l.last l.done;
  all : length l.heights.items ≡ l.last;
  draws : l.draws ≡ state_after l.seed (l.last + l.done);
}
