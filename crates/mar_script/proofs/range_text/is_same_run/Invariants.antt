use Rattle.std.proofs.Common.{take, true, ◌≡◌}
use Rattle.mar_script.proofs.range_text.is_same_run.Given as goal

abbrev pub invariant-loop-at : goal.invariant-loop-at
invariant-loop-at l = l.same ≡ true → take l.at l.these ≡ take l.at l.those
