use Rattle.std.proofs.Common.{rules}
use Rattle.mar_gate.proofs.Gating.{gated_defer}
use Rattle.mar_gate.proofs.Pools.{ordered_write}
use Rattle.mar_gate.proofs.writes.Writes.defer.Goals as goal

pub invariant_of-self-2 : goal.invariant_of-self-2
invariant_of-self-2 c = (rw c.in_ok-push_back.ensures.items (ordered_write _ c.args.height c.self.invariant.0), search rules, rw c.defer.ensures c.self.invariant.2, rw (c.in_ok-push_back.ensures.items, c.defer.ensures) (gated_defer _ _ _ _ _ c.self.invariant.3))
