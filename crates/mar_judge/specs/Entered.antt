-- The deliveries of a batch and where they stand, and what was judged of them so far.
use Rattle.std.specs.Prelude.{List, [], filter, map, not, ℕ, ⊤, ◌++◌, ◌∷◌, ◌≡◌}
use Rattle.mar_key.specs.Asked.{Outcome}
use Rattle.mar_key.specs.Keys.{Annotation, Key}
use Rattle.mar_key.specs.PeerQueue.{PeerMessage, deliver, produce}
use Rattle.mar_model.specs.Config.{Config}
use Rattle.mar_model.specs.Event.{Answer}
use Rattle.mar_model.specs.Judge.{Delivery, Judges, Reading, message_of}
use Rattle.mar_judge.specs.Found.{IsPlacedAs, Place}
use Rattle.mar_judge.specs.Rules.{Claim, Rules, settled}
use Rattle.mar_judge.specs.Views.{Verdict, verdict_of}

-- a delivery's ticket and key, and where it stands
pub record Entry : Type 0 where
  pub ticket : ℕ
  pub key : Key
  pub place : Place

-- the entry is that of the message
abbrev pub IsEntryOf : Rules → Config → List (List Claim) → PeerMessage → Entry → Type 0
IsEntryOf rules config claims (deliver t key bytes annotations) e = (e.ticket ≡ t) × (e.key ≡ key) × IsPlacedAs rules config claims key bytes annotations e.place
IsEntryOf rules config claims (produce t key) e = ⊥

abbrev pub AreEntriesOf : Rules → Config → List (List Claim) → List PeerMessage → List Entry → Type 0
AreEntriesOf rules config claims [] [] = ⊤
AreEntriesOf rules config claims (m ∷ messages) (e ∷ entries) = IsEntryOf rules config claims m e × AreEntriesOf rules config claims messages entries
AreEntriesOf rules config claims _ _ = ⊥

-- These deliveries are judged: the verdicts of those that came to none before, and of those that waited for theirs.
pub record JudgedSoFar (reading : Reading) (config : Config) (messages : List PeerMessage) (first second : List Verdict) : Type 0 where
  pub deliveries : List (Delivery reading config)
  pub reads : map message_of deliveries ≡ messages
  pub first_are : first ≡ map verdict_of (filter (λ d. not d.needs_verdict) deliveries)
  pub second_are : second ≡ map verdict_of (filter (λ d. d.needs_verdict) deliveries)

-- One delivery more has its verdict, behind the others.
pub record TellsOne (rules : Rules) (config : Config) (bytes : List ℕ) (annotations : List Annotation) (ticket : ℕ) (key : Key) (old new : List Verdict) : Type 0 where
  pub outcome : Outcome
  pub answer : Answer
  pub judges : Judges rules.reading (settled rules config) key bytes annotations answer outcome
  pub told : new ≡ old ++ record { ticket = ticket; key = key; outcome = outcome; answer = answer } ∷ []

-- All are judged, those that came to no verdict first.
pub record JudgedAll (reading : Reading) (config : Config) (messages : List PeerMessage) (verdicts : List Verdict) : Type 0 where
  pub first : List Verdict
  pub second : List Verdict
  pub judged : JudgedSoFar reading config messages first second
  pub are : verdicts ≡ first ++ second
