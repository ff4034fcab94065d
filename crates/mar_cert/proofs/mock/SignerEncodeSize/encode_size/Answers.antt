use Rattle.std.proofs.Common.{arith}
use Rattle.mar_types.specs.VarintLemmas.{length-varint}
use Rattle.mar_cert.proofs.mock.SignerEncodeSize.encode_size.Goals as goal

pub overflow_add-result : goal.overflow_add-result
overflow_add-result c = omega (arith, c.encode_size.ensures, c.encode_size-2.ensures, length-varint c.args.self.now.member, c.args.self.now.tag.is_digest.0)

pub returns-clause-within : goal.returns-clause-within
returns-clause-within c = omega (arith, c.encode_size.ensures, c.encode_size-2.ensures, length-varint c.args.self.now.member, c.args.self.now.tag.is_digest.0)
