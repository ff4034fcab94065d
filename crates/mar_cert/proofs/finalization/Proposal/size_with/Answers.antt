use Rattle.std.proofs.Common.{arith}
use Rattle.mar_cert.proofs.Sizes.{length-proposal}
use Rattle.mar_cert.proofs.finalization.Proposal.size_with.Goals as goal

pub overflow_add-result : goal.overflow_add-result
overflow_add-result g c =
    let proposal = c.args.self.now in
    omega (arith, c.encode_size.ensures, c.encode_size-2.ensures, c.requires.fits, length-proposal proposal.round proposal.parent (g.D.Write.encoded proposal.payload), g.met.D.FixedSize.sized proposal.payload)
