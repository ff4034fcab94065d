use Rattle.std.proofs.Common.{arith}
use Rattle.mar_types.specs.VarintLemmas.{length-varint}
use Rattle.mar_types.proofs.codecs.EpochEncodeSize.encode_size.Goals as goal

pub encode_size-requires : goal.encode_size-requires
encode_size-requires c = let size = length-varint c.get.result in omega (arith, size)

pub returns-clause-within : goal.returns-clause-within
returns-clause-within c = let size = length-varint c.get.result in omega (arith, size, c.encode_size.ensures)
