-- All epochs of a shelf as one cache.
use Rattle.std.specs.Prelude.{List, None, Option, Some, [], false, filter, if◌then◌else◌, map, max, nat_le, suc, zero, ℕ, ◌++◌, ◌∷◌, ◌≡◌}
use Rattle.std.specs.List.{list_any}
use Rattle.mar_store.specs.Changes.{Left}
use Rattle.mar_store.specs.Kept.{Kept}
use Rattle.mar_model.specs.Cached.{Cached}
use Rattle.mar_model.specs.declared.CacheTicket.{CacheTicket}
use Rattle.mar_model.specs.declared.SectionSync.{SectionSync}
use Rattle.mar_cache.specs.Bounds.{Bounds}
use Rattle.mar_epochs.specs.EpochStates.{EpochState, EpochStates, IsBare, held_in, is_opened, may_in, opened, sure_in}
use Rattle.mar_cache.specs.SameEntries.{same_entry}

-- the lists of all epochs up to one, in the order of epochs
abbrev pub up_to : {T : Type 0} → (ℕ → List T) → ℕ → List T
up_to lists zero = lists zero
up_to lists (suc k) = up_to lists k ++ lists (suc k)

-- what is held in all epochs up to one, what is sure, and what may be left
abbrev pub kept_of : EpochStates → ℕ → Kept Cached
kept_of states h = record { held = up_to (λ k. held_in (states k)) h; sure = up_to (λ k. sure_in (states k)) h; may = up_to (λ k. may_in (states k)) h }

-- what the ticket of a sync covers in an epoch, where it is open and has given that ticket
abbrev pub covered_part : EpochState → SectionSync → List Cached
covered_part (opened b) p = if nat_le p.number b.number then b.covers p.section p.number else []
covered_part _ p = []

abbrev pub covered_with : EpochState → SectionSync → Option SectionSync → List Cached
covered_with t p None = covered_part t p
covered_with t p (Some q) = covered_part t p ++ covered_part t q

-- and what a ticket covers of two archives, or of one
abbrev pub covers_of : EpochStates → CacheTicket → List Cached
covers_of states t = covered_with (states t.epoch) t.first t.second

-- of epochs that aren't open nothing is left
abbrev pub IsLoaded : EpochStates → Type 0
IsLoaded states = (k : ℕ) → is_opened (states k) ≡ false → IsBare (states k)

-- the highest epoch that may be left
abbrev pub greatest_highest : List Bounds → ℕ
greatest_highest [] = 0
greatest_highest (b ∷ bounds) = max b.highest (greatest_highest bounds)

-- what is sure in each way in which epochs may be left
abbrev pub sure_of_all : List EpochStates → ℕ → List Cached
sure_of_all [] h = []
sure_of_all (way ∷ []) h = up_to (λ k. sure_in (way k)) h
sure_of_all (way ∷ ways) h = filter (λ x. list_any (same_entry x) (sure_of_all ways h)) (up_to (λ k. sure_in (way k)) h)

-- and what may be left in some of them
abbrev pub may_of_some : List EpochStates → ℕ → List Cached
may_of_some [] h = []
may_of_some (way ∷ []) h = up_to (λ k. may_in (way k)) h
may_of_some (way ∷ ways) h = up_to (λ k. may_in (way k)) h ++ may_of_some ways h

abbrev pub left_of_ways : List EpochStates → List Bounds → Left Cached
left_of_ways ways bounds = record { sure = sure_of_all ways (greatest_highest bounds); may = may_of_some ways (greatest_highest bounds) }

-- what may be left of the lowest epoch
abbrev pub lowests_of : List Bounds → List ℕ
lowests_of bounds = map (λ b. b.lowest) bounds
