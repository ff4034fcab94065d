use Rattle.std.proofs.Common.{take, ◌≡◌}
use Rattle.mar_model.specs.Floors.{permitted}
use Rattle.mar_model.proofs.floor.State.permitted.Given as goal

abbrev pub invariant-loop-request : goal.invariant-loop-request
invariant-loop-request g l = l.fetches.items ≡ permitted l.self (take l.request-index l.requests)
