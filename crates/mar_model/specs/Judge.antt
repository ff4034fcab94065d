-- How a peer's bytes are judged, and what a `serve` does with the messages that it took.
use Rattle.std.specs.Prelude.{Bool, IsFalse, IsTrue, List, None, Option, Some, [], false, filter, map, not, true, ℕ, ⊤, ◌++◌, ◌↔◌, ◌∷◌, ◌≡◌}
use Rattle.mar_cert.specs.Block.{Block, IsBlock, certified_bytes}
use Rattle.mar_cert.specs.Finalization.{Finalization, Notarization, finalization_bytes}
use Rattle.mar_types.specs.Epochs.{containing}
use Rattle.mar_key.specs.Keys.{Annotation, Key, block_key, finalized_key, notarized_key}
use Rattle.mar_key.specs.Asked.{Judged, Outcome, judged_complete, judged_ignored, judged_invalid}
use Rattle.mar_key.specs.PeerQueue.{PeerMessage, deliver, produce}
use Rattle.mar_model.specs.Config.{Config}
use Rattle.mar_model.specs.Event.{Answer, Event, gave_block, gave_finalized, gave_notarized, gave_nothing, peer_answered, serve_ended}
use Rattle.mar_cert.specs.MockScheme.{IsFinalization}

-- What a node reads of bytes: its codecs, and the payloads that a certificate may sign.
pub record Reading : Type 1 where
  pub is_block : Block → Type 0
  pub is_finalization : Finalization → Type 0
  pub passes : List ℕ → Type 0

-- blocks without content, certificates of the mock scheme, and any payload
abbrev pub mock_reading : Config → Reading
mock_reading config = record { is_block = IsBlock; is_finalization = IsFinalization config.members; passes = λ payload. ⊤ }

abbrev pub is_lacking : Config → Option ℕ → Bool
is_lacking config None = true
is_lacking config (Some e) = not (config.scoped e)

-- epocher or provider lacks the epoch
abbrev pub is_ignored : Config → Key → Bool
is_ignored config (block_key c) = false
is_ignored config (finalized_key h) = is_lacking config (containing config.epochs h)
is_ignored config (notarized_key r) = is_lacking config (Some r.epoch)

-- All that is checked of a finalized answer but its verdict.
pub record IsFinalizedAnswer (reading : Reading) (config : Config) (h : ℕ) (bytes : List ℕ) (f : Finalization) (b : Block) : Type 0 where
  pub read : reading.is_finalization f
  pub block : reading.is_block b
  pub exactly : bytes ≡ certified_bytes f b
  pub epoch : containing config.epochs h ≡ Some f.round.epoch
  pub height : b.height ≡ h
  pub digest : b.digest ≡ config.inner f.payload

-- the bytes are exactly what was asked for by the key, and it verifies
abbrev pub Completes : Reading → Config → Key → List ℕ → List Annotation → Answer → Type 0
Completes reading config (block_key c) bytes annotations (gave_block b given_for) = reading.is_block b × (bytes ≡ b.encoded) × (b.commitment ≡ c) × (given_for ≡ annotations)
Completes reading config (finalized_key h) bytes annotations (gave_finalized f b) = IsFinalizedAnswer reading config h bytes f b × IsTrue (config.verifies f)
Completes reading config (notarized_key r) bytes annotations (gave_notarized f b) =
    reading.is_finalization f × reading.is_block b × (bytes ≡ certified_bytes f b) × (f.round ≡ r) × reading.passes f.payload × IsTrue (config.verifies_notarization f)
    × (b.commitment ≡ f.payload)
Completes reading config _ bytes annotations _ = ⊥

-- the outcome of a delivery, and what it gives: a block, or a certificate and its block, where it is Complete
abbrev pub Judges : Reading → Config → Key → List ℕ → List Annotation → Answer → Outcome → Type 0
Judges reading config key bytes annotations answer judged_complete = IsFalse (is_ignored config key) × Completes reading config key bytes annotations answer
Judges reading config key bytes annotations answer judged_ignored = IsTrue (is_ignored config key) × (answer ≡ gave_nothing)
Judges reading config key bytes annotations answer judged_invalid = IsFalse (is_ignored config key) × (answer ≡ gave_nothing) × ((other : Answer) → Completes reading config key bytes annotations other → ⊥)

-- it comes to a verdict, and so is finished after those that do not
abbrev pub ComesToVerdict : Reading → Config → Key → List ℕ → Type 0
ComesToVerdict reading config (block_key c) bytes = ⊥
ComesToVerdict reading config (finalized_key h) bytes = IsFalse (is_ignored config (finalized_key h)) × (f : Finalization) × (b : Block) × IsFinalizedAnswer reading config h bytes f b
ComesToVerdict reading config (notarized_key r) bytes =
    IsFalse (is_ignored config (notarized_key r)) × (f : Notarization) × (more : List ℕ) × reading.is_finalization f × (bytes ≡ finalization_bytes f ++ more) × (f.round ≡ r)
    × reading.passes f.payload

-- one delivery, judged
pub record Delivery (reading : Reading) (config : Config) : Type 0 where
  pub ticket : ℕ
  pub key : Key
  pub bytes : List ℕ
  pub annotations : List Annotation
  pub answer : Answer
  pub outcome : Outcome
  pub judges : Judges reading config key bytes annotations answer outcome
  pub needs_verdict : Bool
  pub needs_verdict_is : IsTrue needs_verdict ↔ ComesToVerdict reading config key bytes

abbrev pub message_of : {reading : Reading} {config : Config} → Delivery reading config → PeerMessage
message_of d = deliver d.ticket d.key d.bytes d.annotations

abbrev pub is_delivery : PeerMessage → Bool
is_delivery (deliver t key bytes annotations) = true
is_delivery (produce t key) = false

-- first those that come to no verdict, then the others
abbrev pub in_turn : {reading : Reading} {config : Config} → List (Delivery reading config) → List (Delivery reading config)
in_turn ds = filter (λ d. not d.needs_verdict) ds ++ filter (λ d. d.needs_verdict) ds

abbrev pub judged_of : {reading : Reading} {config : Config} → Delivery reading config → Judged
judged_of d = record { ticket = d.ticket; key = d.key; outcome = d.outcome }

-- the deliveries of the open messages that were taken
abbrev pub Reads : (reading : Reading) (config : Config) → List PeerMessage → List (Delivery reading config) → Type 0
Reads reading config messages ds = map message_of ds ≡ filter is_delivery messages

-- what a serve steps on; nothing where no ticket was open
abbrev pub serve_events : {reading : Reading} {config : Config} → List PeerMessage → List (Delivery reading config) → List Event
serve_events [] ds = []
serve_events (m ∷ messages) ds = map (λ d. peer_answered d.answer) (in_turn ds) ++ serve_ended ∷ []
