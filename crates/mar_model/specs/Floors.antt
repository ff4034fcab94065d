-- The floors of a node, and which requests live above them.
use Rattle.std.specs.Prelude.{Bool, List, None, Option, Some, bytes_eq, false, filter, if◌then◌else◌, not, option_map, true, ℕ, ◌&&◌}
use Rattle.mar_types.specs.Round.{Round, round_lt}
use Rattle.mar_cert.specs.Finalization.{Finalization}
use Rattle.mar_key.specs.Cutoff.{Cutoff}
use Rattle.mar_key.specs.Keys.{Annotation, above_height, above_round, is_denied}
use Rattle.mar_key.specs.Processed.{Processed, height_in}
use Rattle.mar_key.specs.Views.{annotation_of}
use Rattle.mar_key.specs.declared.requests.Fetch.{Fetch}
use Rattle.mar_model.specs.declared.floor.FetchAdmission.{FetchAdmission}
use Rattle.mar_model.specs.declared.floor.FetchAdmission.TheVariants.{Denied, Issued}

-- a floor whose block is awaited, and the commitment of the block that the buffer tells of as it comes
pub record Pending : Type 0 where
  pub finalization : Finalization
  pub told : Option (List ℕ)

-- What contracts see of the floors: the processed height, the round cutoff, the newest witnessed round, the floor that
-- was set at the start, and the one that is awaited.
pub record Floors : Type 0 where
  pub processed : Option Processed
  pub cutoff : Cutoff
  pub witnessed : Round
  pub configured : Option Finalization
  pub pending : Option Pending

-- the round that was witnessed before, where this one is newer
abbrev pub round_before : Round → Floors → Option Round
round_before r s = if round_lt s.witnessed r then Some s.witnessed else None

abbrev pub with_witness : Round → Floors → Floors
with_witness r s = record s { witnessed = if round_lt s.witnessed r then r else s.witnessed }

-- this is the payload of the awaited floor
abbrev pub awaits : List ℕ → Option Pending → Bool
awaits commitment None = false
awaits commitment (Some p) = bytes_eq p.finalization.payload commitment

abbrev pub pending_finalization : Option Pending → Option Finalization
pending_finalization pending = option_map (λ p. p.finalization) pending

-- the awaited floor, where this is its payload, and the floors without it
abbrev pub floor_of : List ℕ → Floors → Option Finalization
floor_of commitment s = if awaits commitment s.pending then pending_finalization s.pending else None

abbrev pub without_floor : List ℕ → Floors → Floors
without_floor commitment s = if awaits commitment s.pending then record s { pending = None } else s

-- the processed height is at or above the request's
abbrev pub is_processed : Option Processed → Annotation → Bool
is_processed None a = false
is_processed (Some p) a = is_denied (above_height (height_in p)) a

-- The request lives: where it is bound by a height, that is above the processed one or nothing is processed; where it is
-- bound by a round, the cutoff doesn't cover that.
abbrev pub permits : {D : Type 0} → Floors → Fetch D → Bool
permits s f = not (is_processed s.processed (annotation_of f.subscriber)) && not (is_denied (above_round s.cutoff) (annotation_of f.subscriber))

-- the requests that live
abbrev pub permitted : {D : Type 0} → Floors → List (Fetch D) → List (Fetch D)
permitted s fetches = filter (permits s) fetches

-- whether a request was issued
abbrev pub admission : Bool → FetchAdmission
admission true = Issued
admission false = Denied
