use Rattle.std.proofs.Common.{arith}
use Rattle.mar_cert.proofs.Sizes.{length-proposal}
use Rattle.mar_cert.proofs.finalization.Proposal.max_encode_size.Goals as goal

pub returns-clause-within : goal.returns-clause-within
returns-clause-within g c = λ p. omega (arith, length-proposal p.round p.parent (g.D.Write.encoded p.payload), g.met.D.FixedSize.sized p.payload)
