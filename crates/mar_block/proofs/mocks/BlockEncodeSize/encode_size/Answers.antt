use Rattle.std.proofs.Common.{arith}
use Rattle.mar_types.specs.VarintLemmas.{length-varint}
use Rattle.mar_block.proofs.mocks.BlockEncodeSize.encode_size.Goals as goal

pub overflow_add-numbers : goal.overflow_add-numbers
overflow_add-numbers g c =
    omega (arith, c.encode_size.ensures.within, c.encode_size-2.ensures, length-varint c.args.self.now.timestamp)

pub overflow_add-result-2 : goal.overflow_add-result-2
overflow_add-result-2 g c =
    omega (arith, c.requires.1, c.encode_size-3.ensures, c.SIZE.ensures, c.encode_size.ensures.within, c.encode_size-2.ensures, length-varint c.args.self.now.timestamp)

pub overflow_add-result-3 : goal.overflow_add-result-3
overflow_add-result-3 g c =
    omega (arith, c.requires.1, c.encode_size-3.ensures, c.SIZE.ensures, c.SIZE-2.ensures, c.encode_size.ensures.within, c.encode_size-2.ensures, length-varint c.args.self.now.timestamp)
