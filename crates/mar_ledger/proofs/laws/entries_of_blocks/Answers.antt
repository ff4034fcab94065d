use Rattle.std.proofs.Common.{[], ap, arith, refl, ◌++◌}
use Rattle.mar_types.specs.Varint.{varint}
use Rattle.mar_ledger.specs.Books.{entry_at}
use Rattle.mar_ledger.proofs.Entering.{entry_is, timestamp_is}
use Rattle.mar_ledger.proofs.laws.entries_of_blocks.Goals as goal

-- what else names the block has no part in it
pub returns-clause-block : goal.returns-clause-block
returns-clause-block c = let b = c.args.block.now in ap entry_at (timestamp_is
    (record { digest = []; commitment = []; height = b.height; parent = b.parent.bytes; parent_commitment = []; encoded = b.parent.bytes ++ varint b.height ++ varint b.timestamp })
    b.timestamp (omega arith) refl)

pub returns-clause-plain : goal.returns-clause-plain
returns-clause-plain c = entry_is
