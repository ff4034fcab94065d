use Rattle.std.proofs.Common.{ap}
use Rattle.mar_gate.proofs.Gating.{adopted_next, gated_start}
use Rattle.mar_gate.proofs.Pools.{ordered_push}
use Rattle.mar_gate.specs.Views.{pooled_of}
use Rattle.mar_gate.proofs.writes.Writes.start.Goals as goal

pub invariant_of-self-2 : goal.invariant_of-self-2
invariant_of-self-2 c =
    let position = rw (← c.self.view_is) at c.total-position.ensures in
    let batches = rw c.in_ok-adopt.ensures.ok at c.next_number.ensures in (
      rw (c.push_reserved.ensures.items, c.in_ok-reserve.ensures.items) (ordered_push pooled_of _ _ _ _ _ (ap (λ p. record { ticket = c.self.inside.next_sync; position = p }) position) c.self.invariant.0),
      c.self.invariant.1,
      rw c.in_ok-adopt.ensures.ok (adopted_next _ _ _ c.self.invariant.2),
      rw (c.push_reserved.ensures.items, c.in_ok-reserve.ensures.items, c.in_ok-adopt.ensures.ok) (gated_start _ _ _ _ _ c.self.invariant.3 position batches),
    )
