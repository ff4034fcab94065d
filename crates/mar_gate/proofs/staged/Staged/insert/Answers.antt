use Rattle.std.proofs.Common.{arith, length, ◌<◌, ◌≤◌}
use Rattle.mar_gate.proofs.ByHeight.{all_inserted, in_place, one_more}
use Rattle.mar_gate.proofs.staged.Staged.insert.Goals as goal

pub invariant_of-self-2 : goal.invariant_of-self-2
invariant_of-self-2 g c =
    let room : (c.args.self.now.min ≤ c.args.height) × (length c.args.self.now.blocks < c.args.self.now.max)
    = in_place c.args.self.now c.args.height c.has_place.result c.has_place.ensures c.if-not-has_place.false in
    let here = rw (← c.self.view_is) at room in
    (one_more _ _ _ _ c.in_ok-insert.ensures.len here.1, rw c.in_ok-insert.ensures.entries (all_inserted _ _ _ _ (omega (arith, here.0, c.get.ensures.value)) c.self.invariant.1))
