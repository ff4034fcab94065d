use Rattle.std.proofs.Common.{map}
use Rattle.mar_block.specs.Streams.{MayCome}
use Rattle.mar_proposer.specs.Rules.{AreWalked}
use Rattle.mar_proposer.proofs.gather.gather.Given as goal

abbrev pub invariant-loop-waits : goal.invariant-loop-waits
invariant-loop-waits g l = AreWalked (map g.B.Linked.plain l.line.items) (MayCome l.stream.buffered l.stream.ahead)
