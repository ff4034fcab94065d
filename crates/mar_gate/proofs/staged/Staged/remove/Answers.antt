use Rattle.std.proofs.Common.{arith}
use Rattle.mar_gate.proofs.ByHeight.{all_removed}
use Rattle.mar_gate.proofs.staged.Staged.remove.Goals as goal

pub invariant_of-self : goal.invariant_of-self
invariant_of-self g c =
    (omega (arith, c.remove.ensures.len, c.self.invariant.0), rw c.remove.ensures.entries (all_removed _ _ _ c.self.invariant.1))
