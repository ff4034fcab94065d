use Rattle.std.proofs.Common.{ap}
use Rattle.mar_gate.proofs.Batches.{all_from_zero}
use Rattle.mar_gate.proofs.writes.release_before.Goals as goal

pub returns-in_default : goal.returns-in_default
returns-in_default c = ap (λ bs. record c.args.gate.now { inflight = bs }) (all_from_zero c.args.number c.args.gate.now.inflight c.in_default.ensures)
