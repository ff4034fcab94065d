-- What is found of a delivery before any verdict.
use Rattle.std.specs.Prelude.{IsFalse, List, Some, ℕ, ◌++◌, ◌≡◌}
use Rattle.mar_types.specs.Epochs.{containing}
use Rattle.mar_types.specs.Round.{Round}
use Rattle.mar_cert.specs.Block.{Block, certified_bytes}
use Rattle.mar_cert.specs.Finalization.{Finalization, Notarization, finalization_bytes, finalize, notarize}
use Rattle.mar_key.specs.Asked.{Outcome}
use Rattle.mar_key.specs.Keys.{Annotation, Key, finalized_key, notarized_key}
use Rattle.mar_model.specs.Config.{Config}
use Rattle.mar_model.specs.Event.{Answer}
use Rattle.mar_model.specs.Judge.{ComesToVerdict, Judges, is_ignored}
use Rattle.mar_judge.specs.Groups.{claim_at}
use Rattle.mar_judge.specs.Rules.{Claim, Rules, settled}

-- The bytes are a finalization of the epoch and its block at the height, and no other finalization stands before a block.
pub record IsFinal (rules : Rules) (epoch height : ℕ) (bytes : List ℕ) (f : Finalization) (b : Block) : Type 0 where
  pub read : rules.reading.is_finalization f
  pub block : rules.reading.is_block b
  pub exactly : bytes ≡ certified_bytes f b
  pub epoch_is : f.round.epoch ≡ epoch
  pub height_is : b.height ≡ height
  pub digest_is : b.digest ≡ rules.inner f.payload
  pub only : (g : Finalization) (more : List ℕ) → rules.reading.is_finalization g → bytes ≡ finalization_bytes g ++ more → g ≡ f

abbrev pub IsNotFinal : Rules → ℕ → ℕ → List ℕ → Type 0
IsNotFinal rules epoch height bytes = (f : Finalization) (b : Block) → rules.reading.is_finalization f → rules.reading.is_block b → bytes ≡ certified_bytes f b
    → f.round.epoch ≡ epoch → b.height ≡ height → b.digest ≡ rules.inner f.payload → ⊥

-- The bytes begin with a notarization of the round whose payload passes, and with no other certificate.
pub record IsNotarized (rules : Rules) (round : Round) (bytes : List ℕ) (f : Notarization) (rest : List ℕ) : Type 0 where
  pub read : rules.reading.is_finalization f
  pub spelled : bytes ≡ finalization_bytes f ++ rest
  pub round_is : f.round ≡ round
  pub passes : rules.reading.passes f.payload
  pub only : (g : Notarization) (more : List ℕ) → rules.reading.is_finalization g → bytes ≡ finalization_bytes g ++ more → (g ≡ f) × (more ≡ rest)

abbrev pub IsNotNotarized : Rules → Round → List ℕ → Type 0
IsNotNotarized rules round bytes = (f : Notarization) (more : List ℕ) → rules.reading.is_finalization f → bytes ≡ finalization_bytes f ++ more
    → f.round ≡ round → rules.reading.passes f.payload → ⊥

-- it is finished, or its certificate waits for a verdict among the claims of a batch: beside its block, or the bytes of it
pub data Place : Type 0 where
  finished : Outcome → Answer → Place
  final_at : ℕ → ℕ → Block → Place
  notarized_at : ℕ → ℕ → List ℕ → Place

-- what stands among the claims, by group and place, is what is found of the delivery
abbrev pub IsPlacedAs : Rules → Config → List (List Claim) → Key → List ℕ → List Annotation → Place → Type 0
IsPlacedAs rules config claims key bytes annotations (finished outcome answer) =
    Judges rules.reading (settled rules config) key bytes annotations answer outcome × (ComesToVerdict rules.reading (settled rules config) key bytes → ⊥)
IsPlacedAs rules config claims (finalized_key h) bytes annotations (final_at g p b) =
    (f : Finalization) × (epoch : ℕ) × (claim_at claims g p ≡ Some (record { subject = finalize; certificate = f })) × (containing rules.epochs h ≡ Some epoch)
    × IsFalse (is_ignored (settled rules config) (finalized_key h)) × IsFinal rules epoch h bytes f b
IsPlacedAs rules config claims (notarized_key r) bytes annotations (notarized_at g p rest) =
    (f : Notarization) × (claim_at claims g p ≡ Some (record { subject = notarize; certificate = f }))
    × IsFalse (is_ignored (settled rules config) (notarized_key r)) × IsNotarized rules r bytes f rest
IsPlacedAs rules config claims key bytes annotations place = ⊥
