use Rattle.std.proofs.Common.{drop}
use Rattle.std.specs.List.{flat_map}
use Rattle.mar_cert.specs.MockScheme.{signer_bytes}
use Rattle.mar_cert.specs.MockViews.{plain_signer, plain_signers}
use Rattle.mar_cert.specs.Signers.{certificate_bytes}
use Rattle.mar_cert.proofs.PartsWritten.{IsPartWritten}
use Rattle.mar_cert.proofs.mock.MockCertificateWrite.write.Given as goal

abbrev pub invariant-signers : goal.invariant-signers
invariant-signers g l =
    IsPartWritten (certificate_bytes (plain_signers l.self)) (flat_map (λ s. signer_bytes (plain_signer s)) (drop l.signer-index l.signer-items))
    (g.B.BufMut.written l.fn.buf) (g.B.BufMut.written l.buf) (g.B.BufMut.spare l.fn.buf) (g.B.BufMut.spare l.buf)
