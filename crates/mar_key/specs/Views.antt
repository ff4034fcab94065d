-- Keys, cutoffs and the like as the definitions see them.
use Rattle.std.specs.Fmt.{decimal}
use Rattle.std.specs.Prelude.{List, None, Option, Some, codes, option_map, ℕ, ◌++◌}
use Rattle.mar_key.specs.Cutoff.{Cutoff, at_epoch, at_round}
use Rattle.mar_key.specs.Processed.{Processed, at_absent, at_block}
use Rattle.mar_key.specs.Keys.{Annotation, Call, Key, Retain, above_height, above_round, block_key, certified_at, fetch, finalized_by_height, finalized_by_round, finalized_key, for_notarization, notarized_key, untrusted_at}
use Rattle.mar_key.specs.declared.annotations.Annotation.{Annotation as AnnotationCode}
use Rattle.mar_key.specs.declared.annotations.Annotation.TheVariants as annotation
use Rattle.mar_key.specs.declared.annotations.Finalized.{Finalized as FinalizedCode}
use Rattle.mar_key.specs.declared.annotations.Finalized.TheVariants.{ByHeight, ByRound}
use Rattle.mar_key.specs.declared.annotations.Retain.{Retain as RetainCode}
use Rattle.mar_key.specs.declared.annotations.Retain.TheVariants.{AboveHeight, AboveRound}
use Rattle.mar_key.specs.declared.cutoffs.Cutoff.{Cutoff as CutoffCode}
use Rattle.mar_key.specs.declared.cutoffs.Cutoff.TheVariants.{Round, Epoch}
use Rattle.mar_key.specs.declared.floors.Processed.{Processed as ProcessedCode}
use Rattle.mar_key.specs.declared.floors.Processed.TheVariants as processed
use Rattle.mar_key.specs.declared.keys.Key.{Key as KeyCode}
use Rattle.mar_key.specs.declared.keys.Key.TheVariants as key
use Rattle.mar_key.specs.declared.requests.Fetch.{Fetch}

abbrev pub cutoff_of : CutoffCode → Cutoff
cutoff_of (Round r) = at_round r
cutoff_of (Epoch e) = at_epoch e

abbrev pub cutoff_from : Cutoff → CutoffCode
cutoff_from (at_round r) = Round r
cutoff_from (at_epoch e) = Epoch e

abbrev pub processed_of : ProcessedCode → Processed
processed_of (processed.Block h) = at_block h
processed_of (processed.Absent h) = at_absent h

abbrev pub processed_from : Processed → ProcessedCode
processed_from (at_block h) = processed.Block h
processed_from (at_absent h) = processed.Absent h

abbrev pub finalized_of : FinalizedCode → Annotation
finalized_of (ByHeight h) = finalized_by_height h
finalized_of (ByRound r) = finalized_by_round r

abbrev pub annotation_of : AnnotationCode → Annotation
annotation_of (annotation.Notarization r) = for_notarization r
annotation_of (annotation.Untrusted h) = untrusted_at h
annotation_of (annotation.Certified h) = certified_at h
annotation_of (annotation.Finalized f) = finalized_of f

abbrev pub retain_of : RetainCode → Retain
retain_of (AboveHeight h) = above_height h
retain_of (AboveRound c) = above_round (cutoff_of c)

-- a key, by the bytes of its commitment
abbrev pub key_of : {D : Type 0} → (D → List ℕ) → KeyCode D → Key
key_of bytes (key.Block d) = block_key (bytes d)
key_of bytes (key.Finalized h) = finalized_key h
key_of bytes (key.Notarized r) = notarized_key r

-- a request that is not targeted
abbrev pub call_of : {D : Type 0} → (D → List ℕ) → Fetch D → Call
call_of bytes f = fetch (key_of bytes f.key) (annotation_of f.subscriber) None

-- a request of certain peers
abbrev pub targeted_of : {D : Type 0} → (D → List ℕ) → Fetch D → List ℕ → Call
targeted_of bytes f targets = fetch (key_of bytes f.key) (annotation_of f.subscriber) (Some targets)

-- what a key prints, by what its commitment prints
abbrev pub key_text : {D : Type 0} → (D → Option (List ℕ)) → KeyCode D → Option (List ℕ)
key_text text (key.Block d) = option_map (λ t. codes "Block(" ++ t ++ codes ")") (text d)
key_text text (key.Finalized h) = Some (codes "Finalized(Height(" ++ decimal h ++ codes "))")
key_text text (key.Notarized r) = Some (codes "Notarized(Round { epoch: Epoch(" ++ (decimal r.epoch ++ (codes "), view: View(" ++ (decimal r.view ++ codes ") })"))))
