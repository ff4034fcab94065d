use Rattle.mar_gate.proofs.Gating.{gated_barrier}
use Rattle.mar_gate.proofs.writes.Writes.barrier.Goals as goal

pub returns : goal.returns
returns c = rw (← c.self.view_is) (gated_barrier _ _ _ _ _ c.self.invariant.3 c.barrier.ensures)
