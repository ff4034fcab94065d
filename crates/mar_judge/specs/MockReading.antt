-- What a judge reads of blocks without content and of the mock scheme's certificates.
use Rattle.std.specs.Prelude.{Bool, ℕ, ⊤}
use Rattle.mar_cert.specs.Block.{IsBlock}
use Rattle.mar_cert.specs.Finalization.{Finalization, Notarization}
use Rattle.mar_cert.specs.MockScheme.{IsFinalization}
use Rattle.mar_cert.specs.MockViews.{plain_signers}
use Rattle.mar_cert.specs.Signers.{certificate_bytes}
use Rattle.mar_cert.specs.Views.{certified_of, final_of, notarization_of, plain_subject, proposal_of}
use Rattle.mar_cert.specs.declared.Finalization.{Finalization as FinalizationCode}
use Rattle.mar_cert.specs.declared.MockCertificate.{MockCertificate}
use Rattle.mar_cert.specs.declared.Notarization.{Notarization as NotarizationCode}
use Rattle.mar_cert.specs.declared.Subject.{Subject}
use Rattle.mar_types.specs.Epochs.{Epochs}
use Rattle.mar_types.specs.declared.Sha256Digest.{Sha256Digest}
use Rattle.mar_model.specs.Judge.{Reading}
use Rattle.mar_judge.specs.Rules.{Claim, Rules}

-- certificates of so many members: the reading of the definitions where a node's settings name as many (`mock_reading`)
abbrev pub reading_of : ℕ → Reading
reading_of members = record { is_block = IsBlock; is_finalization = IsFinalization members; passes = λ payload. ⊤ }

abbrev pub plain_mock : FinalizationCode Sha256Digest MockCertificate → Finalization
plain_mock f = final_of (λ digest. digest.bytes) (λ c. certificate_bytes (plain_signers c)) f

abbrev pub plain_mock_notarization : NotarizationCode Sha256Digest MockCertificate → Notarization
plain_mock_notarization f = notarization_of (λ digest. digest.bytes) (λ c. certificate_bytes (plain_signers c)) f

-- what goes by such blocks, whose commitment is their digest, and such certificates, with these epochs, scopes and verdicts
abbrev pub mock_rules : ℕ → Epochs → (ℕ → Bool) → (Finalization → Bool) → (Notarization → Bool) → Rules
mock_rules members epochs scoped verifies verifies_notarization = record {
  reading = reading_of members;
  epochs = epochs;
  inner = λ commitment. commitment;
  scoped = scoped;
  verifies = verifies;
  verifies_notarization = verifies_notarization;
}

-- a certificate over its subject
abbrev pub mock_claim : Subject Sha256Digest → MockCertificate → Claim
mock_claim s c = record { subject = plain_subject s; certificate = certified_of (λ digest. digest.bytes) (λ c. certificate_bytes (plain_signers c)) (proposal_of s) c }
