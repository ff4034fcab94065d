-- The verdicts of a scheme on claims of its epoch.
use Rattle.std.proofs.Common.{Bool, Err, IfOk, List, Ok, Result, [], ap, map, refl, ℕ, ◌∙◌, ◌∷◌, ◌≡◌}
use Rattle.mar_types.specs.Epochs.{Epochs}
use Rattle.mar_types.specs.declared.Sha256Digest.{Sha256Digest}
use Rattle.mar_cert.specs.Finalization.{Finalization}
use Rattle.mar_cert.specs.MockScheme.{mock_verifies}
use Rattle.mar_cert.specs.MockViews.{plain_signers}
use Rattle.mar_cert.specs.Signers.{certificate_bytes}
use Rattle.mar_cert.specs.Verdicts.{Judges}
use Rattle.mar_cert.specs.Views.{verdict_of}
use Rattle.mar_cert.specs.declared.MockCertificate.{MockCertificate}
use Rattle.mar_cert.specs.declared.Subject.{Subject}
use Rattle.mar_cert.specs.declared.Subject.TheVariants.{Finalize, Notarize}
use Rattle.mar_judge.specs.Groups.{AreOfEpoch}
use Rattle.mar_judge.specs.MockReading.{mock_claim, mock_rules}
use Rattle.mar_judge.specs.Rules.{verdict_on}

pub ok_by : {T E : Type 0} {P Q : T → Type 0} (r : Result T E) → IfOk r P → ((v : T) → P v → Q v) → IfOk r Q
ok_by (Ok v) is f = f v is
ok_by (Err e) is f = tt

abbrev pub told_of : ℕ → Subject Sha256Digest → MockCertificate → Bool
told_of n s c = verdict_of (mock_verifies n) (λ digest. digest.bytes) (λ c. certificate_bytes (plain_signers c)) s c

told_one : (m n epoch : ℕ) (epochs : Epochs) (scoped : ℕ → Bool) (verifies notarized : Finalization → Bool) (s : Subject Sha256Digest) (c : MockCertificate) → Judges (mock_verifies n) verifies notarized epoch
    → (mock_claim s c).certificate.round.epoch ≡ epoch → told_of n s c ≡ verdict_on (mock_rules m epochs scoped verifies notarized) (mock_claim s c)
told_one m n epoch epochs scoped verifies notarized (Notarize p) c judges of = judges.notarizations (mock_claim (Notarize p) c).certificate of
told_one m n epoch epochs scoped verifies notarized (Finalize p) c judges of = judges.finalizations (mock_claim (Finalize p) c).certificate of

pub told_all : (m n epoch : ℕ) (epochs : Epochs) (scoped : ℕ → Bool) (verifies notarized : Finalization → Bool) (claims : List (Subject Sha256Digest × MockCertificate)) → Judges (mock_verifies n) verifies notarized epoch
    → AreOfEpoch epoch (map (λ pair. mock_claim pair.0 pair.1) claims)
    → map (λ pair. told_of n pair.0 pair.1) claims ≡ map (verdict_on (mock_rules m epochs scoped verifies notarized)) (map (λ pair. mock_claim pair.0 pair.1) claims)
told_all m n epoch epochs scoped verifies notarized [] judges are = refl
told_all m n epoch epochs scoped verifies notarized (pair ∷ claims) judges are =
    ap (λ v. v ∷ map (λ pair. told_of n pair.0 pair.1) claims) (told_one m n epoch epochs scoped verifies notarized pair.0 pair.1 judges are.0)
    ∙ ap (λ vs. verdict_on (mock_rules m epochs scoped verifies notarized) (mock_claim pair.0 pair.1) ∷ vs) (told_all m n epoch epochs scoped verifies notarized claims judges are.1)
