-- Which of what a crash can leave a given luck keeps, in the stores in memory.
use Rattle.std.specs.Prelude.{Bool, List, [], if◌then◌else◌, drop, length, suc, ℕ, ◌%◌, ◌++◌, ◌/◌, ◌==◌, ◌^◌, ◌∷◌}
use Rattle.mar_store.specs.Kept.{At}
use Rattle.mar_store.specs.Changes.{Left}
use Rattle.mar_store.specs.Values.{Values, synced_values}
use Rattle.mar_store.specs.Watch.{Follows, by_half, by_lowest_bit}
use Rattle.mar_store.specs.declared.luck.LuckHalf.{LuckHalf}
use Rattle.mar_store.specs.declared.luck.LuckHalf.TheVariants.{Low, High}

-- whether a half of luck keeps the entry of a number: its bit is set
abbrev pub is_lucky : ℕ → ℕ → Bool
is_lucky half k = half / 2 ^ (k % 32) % 2 == 1

-- of entries that are numbered from k on, those that are kept
abbrev pub kept_from : {T : Type 0} → (ℕ → Bool) → ℕ → List T → List T
kept_from keeps k [] = []
kept_from keeps k (x ∷ xs) = if keeps k then x ∷ kept_from keeps (suc k) xs else kept_from keeps (suc k) xs

-- what is found of what is left: what is sure stands first in what may be left, and of the rest luck keeps some
abbrev pub lucky_found : {T : Type 0} → (ℕ → Bool) → Left (At T) → List (At T)
lucky_found keeps left = left.sure ++ kept_from keeps 0 (drop (length left.sure) left.may)

-- the map of a sync that failed where luck keeps it, else that of the last sync
abbrev pub lucky_values : Bool → List Values → Values
lucky_values keeps (synced ∷ failed ∷ others) = if keeps then failed else synced
lucky_values keeps left = synced_values left

-- the half of luck that an archive follows
abbrev pub half_of : LuckHalf → ℕ → ℕ
half_of Low luck = luck % 2 ^ 32
half_of High luck = luck / 2 ^ 32

-- whether a luck keeps the k-th, from 0, of what may be left and isn't sure
abbrev pub keeps_by : Follows → ℕ → ℕ → Bool
keeps_by (by_half half) luck k = is_lucky (half_of half luck) k
keeps_by by_lowest_bit luck k = luck % 2 == 1
