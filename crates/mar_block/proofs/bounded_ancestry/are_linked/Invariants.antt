use Rattle.std.proofs.Common.{length, map}
use Rattle.mar_block.specs.Links.{AreLinked}
use Rattle.mar_block.proofs.bounded_ancestry.are_linked.Given as goal

abbrev pub invariant-loop-child : goal.invariant-loop-child
invariant-loop-child g l =
    (AreLinked (map g.B.Linked.plain l.rest) → AreLinked (map g.B.Linked.plain l.blocks))
    × (AreLinked (map g.B.Linked.plain l.blocks) → AreLinked (map g.B.Linked.plain l.rest))

abbrev pub decreases-loop-child : goal.decreases-loop-child
decreases-loop-child g l = length l.rest
