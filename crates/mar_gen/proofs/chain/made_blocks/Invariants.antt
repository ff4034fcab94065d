use Rattle.std.proofs.Common.{map, ◌≡◌}
use Rattle.mar_gen.specs.Chain.{made_block, made_blocks, plain_block}
use Rattle.mar_gen.specs.Draws.{state_after}
use Rattle.mar_gen.proofs.chain.made_blocks.Given as goal

abbrev pub invariant-loop-below : goal.invariant-loop-below
invariant-loop-below l = record {
  blocks : map plain_block l.blocks.items ≡ made_blocks l.seed l.below;
  parent : l.parent.bytes ≡ (made_block l.seed l.below).digest;
  draws : l.draws ≡ state_after l.seed l.below;
}
