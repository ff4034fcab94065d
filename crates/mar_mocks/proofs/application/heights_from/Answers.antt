use Rattle.std.proofs.Common.{ap, map, ◌∙◌}
use Rattle.std.proofs.lemmas.Iterator.Adapters.{YieldsList-from_skip}
use Rattle.std.proofs.lemmas.Iterator.Consumers.{YieldsList-end, YieldsList-from_deque}
use Rattle.mar_mocks.proofs.Told.{heights_behind}
use Rattle.mar_mocks.proofs.application.heights_from.Goals as goal

pub returns : goal.returns
returns c =
    let road = YieldsList-from_skip c.args.start (YieldsList-from_deque c.args.owed.now.items cc) cc in
    let all = YieldsList-end road c.loop-height.yielded c.loop-height.height-iterator c.loop-height.yielded_by _ _ c.in-None.is c.next.ensures.steps in
    c.loop-height.invariant ∙ ap (map (λ o. o.0)) all.0 ∙ heights_behind c.args.start c.args.owed.now.items
