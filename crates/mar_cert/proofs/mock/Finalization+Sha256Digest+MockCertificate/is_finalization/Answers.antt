use Rattle.mar_cert.specs.Grammar.{finalization_spelled}
use Rattle.mar_cert.proofs.mock.Finalization+Sha256Digest+MockCertificate.is_finalization.Goals as goal

pub returns : goal.returns
returns c = finalization_spelled _ _ c.args.self.now.proposal.payload.is_digest.0 c.requires
