use Rattle.std.proofs.Common.{ap, map, ◌∙◌}
use Rattle.std.proofs.lemmas.Iterator.Consumers.{YieldsList-end, YieldsList-from_deque}
use Rattle.mar_block.proofs.bounded_ancestry.copies.Goals as goal

pub returns : goal.returns
returns g c =
    let all = YieldsList-end (YieldsList-from_deque c.args.blocks.now.items cc) c.loop-block.yielded c.loop-block.block-iterator c.loop-block.yielded_by _ _ c.in-None.is c.next.ensures.steps in
    c.loop-block.invariant ∙ ap (map g.B.Linked.plain) all.0
