-- What was asked, and what is open, as the definitions see them.
use Rattle.std.specs.Prelude.{List, map, ℕ}
use Rattle.mar_key.specs.Asked.{Asked, Judged, Outcome, judged_complete, judged_ignored, judged_invalid}
use Rattle.mar_key.specs.Keys.{Call, Key, retain}
use Rattle.mar_key.specs.Views.{annotation_of, call_of, key_of, retain_of, targeted_of}
use Rattle.mar_key.specs.declared.outcomes.Outcome.{Outcome as OutcomeCode}
use Rattle.mar_key.specs.declared.outcomes.Outcome.TheVariants.{Complete, Ignored, Invalid}
use Rattle.mar_key.specs.declared.requests.Fetch.{Fetch}
use Rattle.mar_key.specs.declared.recorder.Ask.{Ask}
use Rattle.mar_key.specs.declared.recorder.Ask.TheVariants as ask
use Rattle.mar_key.specs.declared.open_requests.Asked.{Asked as AskedCode}
use Rattle.mar_key.specs.declared.open_requests.Judged.{Judged as JudgedCode}

abbrev pub ask_of : {D : Type 0} → (D → List ℕ) → Ask D → Call
ask_of bytes (ask.Fetch f) = call_of bytes f
ask_of bytes (ask.Targeted f targets) = targeted_of bytes f targets.items
ask_of bytes (ask.Retain keep) = retain (retain_of keep)

-- the key that is asked
abbrev pub call_key : {D : Type 0} → (D → List ℕ) → Fetch D → Key
call_key bytes f = key_of bytes f.key

abbrev pub asked_of : {D : Type 0} → (D → List ℕ) → AskedCode D → Asked
asked_of bytes x = record { key = key_of bytes x.key; annotations = map annotation_of x.annotations.items }

abbrev pub outcome_of : OutcomeCode → Outcome
outcome_of Complete = judged_complete
outcome_of Invalid = judged_invalid
outcome_of Ignored = judged_ignored

abbrev pub judged_of : {D : Type 0} → (D → List ℕ) → JudgedCode D → Judged
judged_of bytes j = record { ticket = j.ticket; key = key_of bytes j.key; outcome = outcome_of j.outcome }
