use Rattle.mar_block.specs.EmptyBlockLemmas.{block_spelled, same_block}
use Rattle.mar_block.proofs.empty_block.EmptyBlock+Sha256.spellings.Goals as goal

pub returns-clause-only : goal.returns-clause-only
returns-clause-only c = block_spelled

pub returns-clause-same : goal.returns-clause-same
returns-clause-same c = same_block
