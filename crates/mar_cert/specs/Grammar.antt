-- Which bytes spell a proposal or a finalization.
use Rattle.std.proofs.Common.{List, ap, append_assoc, refl, subst, sym, ℕ, ◌++◌, ◌∙◌, ◌≡◌, length}
use Rattle.mar_types.specs.Codec.{IsUnambiguous, Joined}
use Rattle.mar_types.specs.CodecLemmas.{joined_unambiguous}
use Rattle.mar_types.specs.Digest.{IsDigest}
use Rattle.mar_types.specs.Refusals.{RefusesJoined, RefusesVarint}
use Rattle.mar_types.specs.Varint.{IsNumber, IsVarint, varint}
use Rattle.mar_types.specs.VarintLemmas.{varint_unambiguous}
use Rattle.mar_types.specs.declared.Error.{Error}
use Rattle.std.proofs.lemmas.List.{append_cancel_left}
use Rattle.mar_types.specs.Round.{IsRound, Round, SpellsRound, round_bytes}
use Rattle.mar_types.specs.RoundBytes.{round_front, round_unambiguous}
use Rattle.mar_cert.specs.Finalization.{Finalization, finalization_bytes}
use Rattle.mar_cert.specs.MockScheme.{IsCertificate, IsFinalization}
use Rattle.mar_cert.specs.Signers.{IsMockCertificate}
use Rattle.mar_cert.specs.SignersLemmas.{same_rest, varint_rest}

-- a round, the parent's view and the payload
abbrev pub SpellsProposal : (List ℕ → Type 0) → List ℕ → Type 0
SpellsProposal Payload = Joined SpellsRound (Joined IsVarint Payload)

abbrev pub RefusesProposal : (List ℕ → Error → Type 0) → List ℕ → Error → Type 0
RefusesProposal refuses_payload = RefusesJoined SpellsRound (RefusesJoined IsVarint RefusesVarint RefusesVarint) (RefusesJoined IsVarint RefusesVarint refuses_payload)

pub proposal_unambiguous : (Payload : List ℕ → Type 0) → IsUnambiguous Payload → IsUnambiguous (SpellsProposal Payload)
proposal_unambiguous Payload one = joined_unambiguous SpellsRound (Joined IsVarint Payload) round_unambiguous (joined_unambiguous IsVarint Payload varint_unambiguous one)

-- a proposal, then a certificate over it
abbrev pub SpellsFinalization : (List ℕ → Type 0) → (List ℕ → Type 0) → List ℕ → Type 0
SpellsFinalization Payload Certificate = Joined (SpellsProposal Payload) Certificate

abbrev pub RefusesFinalization : (List ℕ → Type 0) → (List ℕ → Error → Type 0) → (List ℕ → Error → Type 0) → List ℕ → Error → Type 0
RefusesFinalization Payload refuses_payload refuses_certificate = RefusesJoined (SpellsProposal Payload) (RefusesProposal refuses_payload) refuses_certificate

pub finalization_unambiguous : (Payload Certificate : List ℕ → Type 0) → IsUnambiguous Payload → IsUnambiguous Certificate → IsUnambiguous (SpellsFinalization Payload Certificate)
finalization_unambiguous Payload Certificate one two = joined_unambiguous (SpellsProposal Payload) Certificate (proposal_unambiguous Payload one) two

-- bytes that begin with two rounds
round_rest : (r s : Round) (rest left : List ℕ) → round_bytes r ++ rest ≡ round_bytes s ++ left → (r ≡ s) × (rest ≡ left)
round_rest r s rest left e =
    let same = round_front r s rest left e in
    (same, append_cancel_left (round_bytes s) rest left (ap (λ u. round_bytes u ++ rest) (sym same) ∙ e))

-- a finalization over SHA-256 digests, of n members
abbrev pub SpellsMockFinalization : ℕ → List ℕ → Type 0
SpellsMockFinalization n = SpellsFinalization IsDigest (IsMockCertificate n)

-- a finalization of n members has a spelling
pub spelled_finalization : (n : ℕ) (f : Finalization) → IsFinalization n f → SpellsMockFinalization n (finalization_bytes f)
spelled_finalization n f is = record {
  first = round_bytes f.round ++ (varint f.parent ++ f.payload);
  second = f.certificate;
  first_is = record {
    first = round_bytes f.round;
    second = varint f.parent ++ f.payload;
    first_is = record { round = f.round; is_round = is.round_fits; spelled = refl };
    second_is = record { first = varint f.parent; second = f.payload; first_is = record { number = f.parent; fits = is.parent_fits; spelled = refl }; second_is = is.payload_fits; spelled = refl };
    spelled = refl;
  };
  second_is = record { signers = is.signers; certificate_is = is.certificate_is };
  spelled = ap (λ bs. bs ++ f.certificate) (append_assoc (round_bytes f.round) (varint f.parent) f.payload);
}

flat_bytes : (f : Finalization) → finalization_bytes f ≡ round_bytes f.round ++ (varint f.parent ++ (f.payload ++ f.certificate))
flat_bytes f = append_assoc (round_bytes f.round ++ varint f.parent) f.payload f.certificate ∙ append_assoc (round_bytes f.round) (varint f.parent) (f.payload ++ f.certificate)

-- what has such a spelling is a finalization of n members
pub finalization_spelled : (n : ℕ) (f : Finalization) → length f.payload ≡ 32 → SpellsMockFinalization n (finalization_bytes f) → IsFinalization n f
finalization_spelled n f long is =
    let proposal = is.first_is in
    let round = proposal.first_is in
    let rest = proposal.second_is in
    let parent = rest.first_is in
    let there = is.spelled ∙ ap (λ bs. bs ++ is.second) (proposal.spelled ∙ ap (λ bs. bs ++ proposal.second) round.spelled ∙ ap (λ bs. round_bytes round.round ++ bs) (rest.spelled ∙ ap (λ bs. bs ++ rest.second) parent.spelled))
    ∙ append_assoc (round_bytes round.round) (varint parent.number ++ rest.second) is.second ∙ ap (λ bs. round_bytes round.round ++ bs) (append_assoc (varint parent.number) rest.second is.second) in
    let rounds = round_rest f.round round.round (varint f.parent ++ (f.payload ++ f.certificate)) (varint parent.number ++ (rest.second ++ is.second)) (sym (flat_bytes f) ∙ there) in
    let parents = varint_rest f.parent parent.number (f.payload ++ f.certificate) (rest.second ++ is.second) rounds.1 in
    let payloads = same_rest f.payload rest.second f.certificate is.second (long ∙ sym rest.second_is.0) parents.1 in
    record {
      round_fits = subst IsRound (sym rounds.0) round.is_round;
      parent_fits = subst IsNumber (sym parents.0) parent.fits;
      payload_fits = subst IsDigest (sym payloads.0) rest.second_is;
      signers = is.second_is.signers;
      certificate_is = subst (IsCertificate n is.second_is.signers) (sym payloads.1) is.second_is.certificate_is;
    }

-- two finalizations of the same bytes are one
pub same_finalization : (n m : ℕ) (f g : Finalization) → IsFinalization n f → IsFinalization m g → finalization_bytes f ≡ finalization_bytes g → f ≡ g
same_finalization n m f g is also e =
    let rounds = round_rest f.round g.round (varint f.parent ++ (f.payload ++ f.certificate)) (varint g.parent ++ (g.payload ++ g.certificate)) (sym (flat_bytes f) ∙ e ∙ flat_bytes g) in
    let parents = varint_rest f.parent g.parent (f.payload ++ f.certificate) (g.payload ++ g.certificate) rounds.1 in
    let payloads = same_rest f.payload g.payload f.certificate g.certificate (is.payload_fits.0 ∙ sym also.payload_fits.0) parents.1 in
    ap (λ r. made r f.parent f.payload f.certificate) rounds.0
    ∙ ap (λ p. made g.round p f.payload f.certificate) parents.0
    ∙ ap (λ p. made g.round g.parent p f.certificate) payloads.0
    ∙ ap (λ c. made g.round g.parent g.payload c) payloads.1
  where
    made : Round → ℕ → List ℕ → List ℕ → Finalization
    made round parent payload certificate = record { round = round; parent = parent; payload = payload; certificate = certificate }
