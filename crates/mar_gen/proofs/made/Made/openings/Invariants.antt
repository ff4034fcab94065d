use Rattle.std.proofs.Common.{take, ◌≡◌}
use Rattle.std.specs.List.{count_by}
use Rattle.mar_gen.specs.Plan.{is_open}
use Rattle.mar_gen.proofs.made.Made.openings.Given as goal

abbrev pub invariant-loop-step : goal.invariant-loop-step
invariant-loop-step l = l.count ≡ count_by is_open (take l.step-index l.self.steps.items)
