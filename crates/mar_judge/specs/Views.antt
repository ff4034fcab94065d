-- What a judge's code holds, as plain data.
use Rattle.std.specs.Prelude.{Bool, List, false, map, true, ℕ, ◌≡◌}
use Rattle.mar_cert.specs.Block.{Block}
use Rattle.mar_cert.specs.Finalization.{Finalization, Notarization, Subject, finalize, notarize}
use Rattle.mar_key.specs.Asked.{Outcome}
use Rattle.mar_key.specs.Keys.{Annotation, Key, certified_at, finalized_by_height, finalized_by_round, for_notarization, untrusted_at}
use Rattle.mar_key.specs.PeerQueue.{PeerMessage}
use Rattle.mar_key.specs.Recorded.{outcome_of}
use Rattle.mar_key.specs.Views.{annotation_of, key_of}
use Rattle.mar_model.specs.Config.{Config}
use Rattle.mar_model.specs.Event.{Answer as PlainAnswer, gave_block, gave_finalized, gave_notarized, gave_nothing}
use Rattle.mar_model.specs.Judge.{Delivery, Reading, Reads, in_turn}
use Rattle.mar_judge.specs.Found.{Place as PlainPlace, final_at, finished, notarized_at}
use Rattle.mar_judge.specs.declared.answer.Answer.{Answer}
use Rattle.mar_judge.specs.declared.answer.Answer.TheVariants as answer
use Rattle.mar_judge.specs.declared.answer.Verdict.{Verdict as VerdictCode}
use Rattle.mar_judge.specs.declared.kind.Kind.{Kind}
use Rattle.mar_judge.specs.declared.kind.Kind.TheVariants as kind
use Rattle.mar_judge.specs.declared.place.Place.{Place}
use Rattle.mar_judge.specs.declared.place.Place.TheVariants as place

abbrev pub subject_of : Kind → Subject
subject_of kind.Finalized = finalize
subject_of kind.Notarized = notarize

-- what a delivery gives, by what blocks and certificates are as plain data
abbrev pub answer_of : {B F N : Type 0} → (B → Block) → (F → Finalization) → (N → Notarization) → Answer B F N → PlainAnswer
answer_of plain finalization notarization (answer.Block b annotations) = gave_block (plain b) (map annotation_of annotations.items)
answer_of plain finalization notarization (answer.Finalized f b) = gave_finalized (finalization f) (plain b)
answer_of plain finalization notarization (answer.Notarized f b) = gave_notarized (notarization f) (plain b)
answer_of plain finalization notarization answer.Nothing = gave_nothing

-- one delivery, its outcome and what it gives
pub record Verdict : Type 0 where
  pub ticket : ℕ
  pub key : Key
  pub outcome : Outcome
  pub answer : PlainAnswer

abbrev pub plain_verdict : {D B F N : Type 0} → (D → List ℕ) → (B → Block) → (F → Finalization) → (N → Notarization) → VerdictCode D B F N → Verdict
plain_verdict bytes plain finalization notarization v =
    record { ticket = v.ticket; key = key_of bytes v.key; outcome = outcome_of v.outcome; answer = answer_of plain finalization notarization v.answer }

abbrev pub verdict_of : {reading : Reading} {config : Config} → Delivery reading config → Verdict
verdict_of d = record { ticket = d.ticket; key = d.key; outcome = d.outcome; answer = d.answer }

-- where it stands
abbrev pub place_of : {B F N : Type 0} → (B → Block) → (F → Finalization) → (N → Notarization) → Place B F N → PlainPlace
place_of plain finalization notarization (place.Finished outcome a) = finished (outcome_of outcome) (answer_of plain finalization notarization a)
place_of plain finalization notarization (place.Finalized g p b) = final_at g p (plain b)
place_of plain finalization notarization (place.Notarized g p rest) = notarized_at g p rest

-- Each delivery among the messages is judged; the verdicts stand in the order in which they are finished.
pub record JudgesEach (reading : Reading) (config : Config) (messages : List PeerMessage) (verdicts : List Verdict) : Type 0 where
  pub deliveries : List (Delivery reading config)
  pub reads : Reads reading config messages deliveries
  pub are : verdicts ≡ map verdict_of (in_turn deliveries)

-- somebody vouches for a block that is asked for so: it was certified, or is one of the finalized chain
abbrev pub is_vouched : Annotation → Bool
is_vouched (certified_at h) = true
is_vouched (finalized_by_height h) = true
is_vouched (finalized_by_round r) = true
is_vouched (untrusted_at h) = false
is_vouched (for_notarization r) = false
