use Rattle.std.proofs.Common.{drop, length, ◌*◌, ◌+◌, ◌≡◌, ◌≤◌}
use Rattle.std.specs.List.{flat_map}
use Rattle.mar_cert.specs.MockScheme.{signer_bytes}
use Rattle.mar_cert.specs.MockViews.{plain_signer, plain_signers}
use Rattle.mar_cert.specs.Signers.{certificate_bytes}
use Rattle.mar_cert.proofs.mock.MockCertificateEncodeSize.encode_size.Given as goal

abbrev pub invariant-signers : goal.invariant-signers
invariant-signers l = record {
  sized : l.size + length (flat_map (λ s. signer_bytes (plain_signer s)) (drop l.signer-index l.signer-items)) ≡ length (certificate_bytes (plain_signers l.self));
  within : l.size ≤ 10 + 42 * l.signer-index;
}
