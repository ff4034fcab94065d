use Rattle.mar_gate.proofs.Batches.{least_all, least_first, least_step}
use Rattle.mar_gate.proofs.gate.DispatchGate.barrier.Goals as goal

pub loop-batch-init : goal.loop-batch-init
loop-batch-init c = rw (← c.self.view_is) (least_first c.self.inside.unsynced)

pub loop-batch-preserved : goal.loop-batch-preserved
loop-batch-preserved c = least_step (λ b. b.lowest) _ _ _ c.batch-item.result _ _ c.loop-batch-test.true c.batch-item.is c.loop-batch.invariant c.lower_of.ensures

pub returns : goal.returns
returns c =
    rw (← c.self.view_is) (least_all (λ b. b.lowest) (λ b. record { number = b.number; lowest = b.lowest }) _ _ _ _ _ c.loop-batch-test.false c.deref-batch-items.ensures.value (rw (← c.self.view_is) at c.loop-batch.invariant))
