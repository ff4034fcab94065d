use Rattle.std.proofs.Common.{length, map, ◌-◌}
use Rattle.mar_proposer.specs.Rules.{AreWalked}
use Rattle.mar_proposer.proofs.walk.walk.Given as goal

abbrev pub invariant-loop-alloc : goal.invariant-loop-alloc
invariant-loop-alloc g l = AreWalked (map g.B.Linked.plain l.line.items) (g.A.Ancestry.wants l.stream)

abbrev pub decreases-loop-alloc : goal.decreases-loop-alloc
decreases-loop-alloc g l = l.fn.most - length l.line.items
