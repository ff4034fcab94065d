use Rattle.std.proofs.Common.{length, rules, ◌≡◌}
use Rattle.std.proofs.lemmas.Result.{err_from_is_err_and}
use Rattle.mar_cert.specs.MockScheme.{signer_bytes}
use Rattle.mar_cert.specs.MockViews.{plain_signer}
use Rattle.mar_cert.proofs.PartsWritten.{goes_on, next_part, starts_with, stops}
use Rattle.mar_cert.proofs.SignerSteps.{certificate_parts}
use Rattle.mar_cert.proofs.mock.MockCertificateWrite.write.Goals as goal

pub signers-init : goal.signers-init
signers-init g c =
    let long : length c.args.self.now.signers.items ≡ c.len.result = search rules in
    goes_on _ _ _ _ _ _ _ _ _ (starts_with _ _ _ _ (certificate_parts _ _ _ long c.deref-signer-items.ensures.value)) c.in_ok-write.ensures.ok c.in_ok-write.ensures.room

pub returns-in_err-write-2-clause-err : goal.returns-in_err-write-2-clause-err
returns-in_err-write-2-clause-err g c =
    let p = err_from_is_err_and c.from_residual-in_err-write-2.result c.from_residual-in_err-write-2.ensures.1 in
    rw p.1 (stops _ _ _ _ _ _ _ _ (next_part (λ s. signer_bytes (plain_signer s)) _ _ _ _ _ _ _ _ c.signers-test.true c.signer-item.is c.signers.invariant) c.in_err-write-2.ensures.err)
