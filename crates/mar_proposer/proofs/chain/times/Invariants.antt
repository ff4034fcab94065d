use Rattle.std.proofs.Common.{map, take, ◌≡◌}
use Rattle.mar_proposer.proofs.chain.times.Given as goal

abbrev pub invariant-loop-block : goal.invariant-loop-block
invariant-loop-block l = l.times.items ≡ map (λ b. b.timestamp) (take l.block-index l.blocks)
