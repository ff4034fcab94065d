use Rattle.std.proofs.Common.{ap, map, subst, ◌∙◌}
use Rattle.std.proofs.lemmas.List.{map-append}
use Rattle.mar_block.specs.Links.{Yields}
use Rattle.mar_proposer.proofs.Walking.{walked_on}
use Rattle.mar_proposer.proofs.walk.step.Goals as goal

pub returns-in-Block-clause-walked : goal.returns-in-Block-clause-walked
returns-in-Block-clause-walked g c =
    let plain = g.B.Linked.plain in
    let wants = g.A.Ancestry.wants in
    let yields = subst (λ p. Yields plain (wants c.args.stream.now) p (wants c.poll.new.self)) c.in-Block.is c.in_ok-block.ensures.yields in
    rw (c.push_reserved.ensures.items, c.in_ok-reserve.ensures.items, map-append plain)
    (walked_on _ (plain c.in-Block.block) (wants c.args.stream.now) (wants c.poll.new.self) c.requires yields.0 yields.1)
