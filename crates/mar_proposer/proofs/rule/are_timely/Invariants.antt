use Rattle.std.proofs.Common.{length}
use Rattle.mar_proposer.specs.Rules.{AreTimely}
use Rattle.mar_proposer.proofs.rule.are_timely.Given as goal

abbrev pub invariant-loop-child : goal.invariant-loop-child
invariant-loop-child l = (AreTimely 5000 l.rest → AreTimely 5000 l.times) × (AreTimely 5000 l.times → AreTimely 5000 l.rest)

abbrev pub decreases-loop-child : goal.decreases-loop-child
decreases-loop-child l = length l.rest
