use Rattle.std.proofs.Common.{arith}
use Rattle.mar_types.specs.VarintLemmas.{length-varint}
use Rattle.mar_block.proofs.empty_block.EmptyBlockEncodeSize.encode_size.Goals as goal

pub overflow_add-numbers : goal.overflow_add-numbers
overflow_add-numbers g c =
    omega (arith, c.encode_size.ensures.within, c.encode_size-2.ensures, length-varint c.args.self.now.timestamp)

pub overflow_add-result : goal.overflow_add-result
overflow_add-result g c =
    omega (arith, c.requires, c.SIZE.ensures, c.encode_size.ensures.within, c.encode_size-2.ensures, length-varint c.args.self.now.timestamp)
