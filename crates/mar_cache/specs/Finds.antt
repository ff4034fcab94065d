-- What a cache would hold that takes up what a crash left.
use Rattle.std.specs.Prelude.{Bool, List, Option, option_map, ℕ}
use Rattle.mar_store.specs.Changes.{left_of}
use Rattle.mar_model.specs.Cached.{Cached}
use Rattle.mar_model.specs.LuckyEntries.{lucky_entries}
use Rattle.mar_epochs.specs.EpochStates.{EpochStates}
use Rattle.mar_cache.specs.AsOne.{kept_of}

-- where its luck keeps these numbers
abbrev pub finds_of : Option (ℕ → Bool) → EpochStates → ℕ → Option (List Cached)
finds_of picks states h = option_map (λ keeps. lucky_entries keeps (left_of (kept_of states h))) picks
