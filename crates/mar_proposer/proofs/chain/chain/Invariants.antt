use Rattle.std.proofs.Common.{map, take, ◌≡◌}
use Rattle.mar_proposer.specs.Rules.{IsChainFrom, plain_block}
use Rattle.mar_proposer.proofs.chain.chain.Given as goal

abbrev pub invariant-loop-time : goal.invariant-loop-time
invariant-loop-time l = record {
  chain : IsChainFrom 0 (map plain_block l.blocks.items);
  times : map (λ b. b.timestamp) l.blocks.items ≡ take l.time-index l.times;
}
