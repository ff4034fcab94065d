-- What a node produces for a key is judged Complete by one of equal epochs, schemes and codecs.
use Rattle.std.specs.Prelude.{IsTrue, List, Some, ◌≡◌}
use Rattle.mar_types.specs.Epochs.{containing}
use Rattle.mar_cert.specs.Block.{Block, certified_bytes}
use Rattle.mar_cert.specs.Finalization.{Finalization, Notarization}
use Rattle.mar_key.specs.Asked.{judged_complete}
use Rattle.mar_key.specs.Keys.{Annotation, block_key, finalized_key, notarized_key}
use Rattle.mar_model.specs.Config.{Config}
use Rattle.mar_model.specs.Event.{gave_block, gave_finalized, gave_notarized}
use Rattle.mar_model.specs.Judge.{Judges}
use Rattle.mar_judge.specs.Rules.{Rules, settled}

-- a block's bytes, for its commitment
abbrev pub BlocksComplete : Rules → Type 0
BlocksComplete rules = (config : Config) (b : Block) (annotations : List Annotation) → rules.reading.is_block b
    → Judges rules.reading (settled rules config) (block_key b.commitment) b.encoded annotations (gave_block b annotations) judged_complete

-- a finalization that verifies and its block, for the block's height, which the finalization's epoch has
abbrev pub FinalizedComplete : Rules → Type 0
FinalizedComplete rules = (config : Config) (f : Finalization) (b : Block) (annotations : List Annotation) → rules.reading.is_finalization f → rules.reading.is_block b
    → IsTrue (rules.scoped f.round.epoch) → containing rules.epochs b.height ≡ Some f.round.epoch → b.digest ≡ rules.inner f.payload → IsTrue (rules.verifies f)
    → Judges rules.reading (settled rules config) (finalized_key b.height) (certified_bytes f b) annotations (gave_finalized f b) judged_complete

-- a notarization that verifies, whose payload passes, and its block, for its round
abbrev pub NotarizedComplete : Rules → Type 0
NotarizedComplete rules = (config : Config) (f : Notarization) (b : Block) (annotations : List Annotation) → rules.reading.is_finalization f → rules.reading.is_block b
    → IsTrue (rules.scoped f.round.epoch) → rules.reading.passes f.payload → b.commitment ≡ f.payload → IsTrue (rules.verifies_notarization f)
    → Judges rules.reading (settled rules config) (notarized_key f.round) (certified_bytes f b) annotations (gave_notarized f b) judged_complete
