-- Proposals and certificates over them, as plain data and as bytes.
use Rattle.std.specs.Prelude.{Bool, List, ℕ, ◌++◌}
use Rattle.mar_types.specs.Varint.{varint}
use Rattle.mar_types.specs.Round.{round_bytes}
use Rattle.mar_cert.specs.Finalization.{Finalization, Notarization, Subject as PlainSubject, finalize, notarize}
use Rattle.mar_cert.specs.declared.finalization.Finalization.{Finalization as FinalizationOf}
use Rattle.mar_cert.specs.declared.finalization.Proposal.{Proposal}
use Rattle.mar_cert.specs.declared.notarization.Notarization.{Notarization as NotarizationOf}
use Rattle.mar_cert.specs.declared.subject.Subject.{Subject}
use Rattle.mar_cert.specs.declared.subject.Subject.TheVariants.{Finalize, Notarize}

-- a certificate over a proposal, by what its payload and the certificate are as bytes
abbrev pub certified_of : {D C : Type 0} → (D → List ℕ) → (C → List ℕ) → Proposal D → C → Finalization
certified_of digest certificate p c = record { round = p.round; parent = p.parent; payload = digest p.payload; certificate = certificate c }

abbrev pub final_of : {D C : Type 0} → (D → List ℕ) → (C → List ℕ) → FinalizationOf D C → Finalization
final_of digest certificate f = certified_of digest certificate f.proposal f.certificate

abbrev pub notarization_of : {D C : Type 0} → (D → List ℕ) → (C → List ℕ) → NotarizationOf D C → Notarization
notarization_of digest certificate n = certified_of digest certificate n.proposal n.certificate

-- by what its payload is as bytes
abbrev pub spelling_of : {D : Type 0} → (D → List ℕ) → Proposal D → List ℕ
spelling_of payload p = round_bytes p.round ++ varint p.parent ++ payload p.payload

abbrev pub plain_subject : {D : Type 0} → Subject D → PlainSubject
plain_subject (Notarize p) = notarize
plain_subject (Finalize p) = finalize

abbrev pub proposal_of : {D : Type 0} → Subject D → Proposal D
proposal_of (Notarize p) = p
proposal_of (Finalize p) = p

-- whether a certificate over this subject verifies
abbrev pub verdict_of : {D C : Type 0} → (PlainSubject → Finalization → Bool) → (D → List ℕ) → (C → List ℕ) → Subject D → C → Bool
verdict_of verifies digest certificate s c = verifies (plain_subject s) (certified_of digest certificate (proposal_of s) c)
