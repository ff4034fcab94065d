use Rattle.std.proofs.Common.{rules}
use Rattle.mar_gate.proofs.Gating.{gated_clear}
use Rattle.mar_gate.proofs.Pools.{ordered_cleared}
use Rattle.mar_gate.proofs.writes.Writes.clear.Goals as goal

pub invariant_of-self : goal.invariant_of-self
invariant_of-self c =
    let total = rw (← c.self.view_is) at c.total-total.ensures in
    (rw (total, c.clear.ensures.items) (ordered_cleared _ c.self.invariant.0), search rules, rw c.clear-2.ensures c.self.invariant.2, rw (total, c.clear.ensures.items, c.clear-2.ensures) (gated_clear _ _ _ _ c.self.invariant.0.within c.self.invariant.3))
