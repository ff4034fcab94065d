-- What the metadata store holds of a node.
use Rattle.std.specs.Prelude.{Bool, Err, List, None, Ok, Option, Result, Some, [], false, if◌then◌else◌, length, option_map, true, ℕ, ◌++◌, ◌+◌, ◌<◌, ◌==◌, ◌≤◌, ◌∷◌, ◌≡◌, ◌⊎◌}
use Rattle.std.specs.List.{list_any}
use Rattle.mar_key.specs.Cutoff.{Cutoff, at_epoch, at_round, cutoff_zero}
use Rattle.mar_key.specs.Processed.{Processed, height_in}
use Rattle.mar_store.specs.Changes.{Within}
use Rattle.mar_store.specs.Values.{Values}
use Rattle.mar_store.specs.Watch.{LostHeeds, Watch, counted, is_due}
use Rattle.mar_store.specs.declared.Lost.{Lost}

-- what the metadata store holds
pub record Pair : Type 0 where
  pub processed : Option ℕ
  pub cutoff : Cutoff

abbrev pub pair_of : Option Processed → Cutoff → Pair
pair_of processed cutoff = record { processed = option_map height_in processed; cutoff = cutoff }

-- the cutoff of an epoch and a view, where they are stored
abbrev pub cutoff_at : Option ℕ → Option ℕ → Cutoff
cutoff_at None view = cutoff_zero
cutoff_at (Some epoch) None = at_epoch epoch
cutoff_at (Some epoch) (Some view) = at_round (record { epoch = epoch; view = view })

-- what values stand for: the processed height under 0xFF, the cutoff's epoch under 0xFE and its view under 0xFD
abbrev pub pair_at : Values → Pair
pair_at values = record { processed = values 0xFF; cutoff = cutoff_at (values 0xFE) (values 0xFD) }

-- What contracts see of a stream: what it reads now, what a crash may leave, whether all of it is durable, and what its
-- store tells of its failures.
pub record Streamed : Type 0 where
  pub pair : Pair
  pub left : List Pair
  pub synced : Bool
  pub watch : Watch

-- A sync is counted as any call, but where all is durable already it does nothing.
abbrev pub HeedsOrIdles : {S W : Type 0} → (S → Watch) → (W → Watch) → Watch → Result S (Lost W) → Type 0
HeedsOrIdles now left old (Ok s) = (now s ≡ old) ⊎ ((is_due old.due ≡ false) × (now s ≡ counted old))
HeedsOrIdles now left old (Err l) = LostHeeds left old l

-- one where a key is among these, else none
abbrev pub count_of_key : ℕ → List ℕ → ℕ
count_of_key key keys = if list_any (λ k. k == key) keys then 1 else 0

-- These are some of the three keys, each once.
abbrev pub AreKeys : List ℕ → Type 0
AreKeys keys = length keys ≤ count_of_key 0xFF keys + count_of_key 0xFE keys + count_of_key 0xFD keys

abbrev pub first_pair : List Pair → Option Pair
first_pair [] = None
first_pair (p ∷ ps) = Some p

-- the pair that a reopening reads: that of a sync that failed where luck keeps it, else that of the last sync
abbrev pub lucky_pair : Bool → List Pair → Option Pair
lucky_pair true (synced ∷ failed ∷ others) = Some failed
lucky_pair _ pairs = first_pair pairs

-- What a call that failed leaves: what was synced stays first, and nothing is gone, nor new but what it was to write.
pub record LeavesPairs (old more left : List Pair) : Type 0 where
  pub some : 0 < length left
  pub synced : first_pair left ≡ first_pair old
  pub kept : Within old left
  pub within : Within left (old ++ more)

-- the height after the processed one, 0 where nothing is processed
abbrev pub height_after_processed : Option ℕ → ℕ
height_after_processed None = 0
height_after_processed (Some h) = h + 1
