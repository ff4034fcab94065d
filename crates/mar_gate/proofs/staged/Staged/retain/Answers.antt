use Rattle.std.proofs.Common.{arith, rules, ◌<◌, ◌≤◌}
use Rattle.mar_gate.proofs.ByHeight.{all_from, kept_raised, kept_same}
use Rattle.mar_gate.proofs.staged.Staged.retain.Goals as goal

pub returns-then-le : goal.returns-then-le
returns-then-le g c =
    let below : c.args.min ≤ c.self.inside.min = search rules in
    rw (← c.self.view_is) (kept_same _ c.args.min c.self.invariant.1 below)

pub invariant_of-self : goal.invariant_of-self
invariant_of-self g c =
    let kept = rw c.get.ensures.value at c.drop_below.ensures.kept in
    (omega (arith, c.drop_below.ensures.fewer, c.self.invariant.0), rw kept (all_from c.args.min c.self.inside.blocks.entries))

pub returns : goal.returns
returns g c =
    let kept = rw c.get.ensures.value at c.drop_below.ensures.kept in
    let above : c.self.inside.min < c.args.min = search rules in
    rw (← c.self.view_is) (kept_raised _ c.args.min _ kept above)
