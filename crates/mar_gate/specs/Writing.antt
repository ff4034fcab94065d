-- What a life writes above the processed height, and the syncs that are to make it durable.
use Rattle.std.specs.List.{AllByRecursion, list_any}
use Rattle.std.specs.Prelude.{AllPairs, Bool, List, [], drop, filter, if◌then◌else◌, length, max, not, ℕ, ◌++◌, ◌+◌, ◌-◌, ◌<◌, ◌==◌, ◌∷◌, ◌≡◌, ◌≤◌}

-- a started sync of both finalized archives, and how many writes there were then
pub record OpenSync : Type 0 where
  pub ticket : ℕ
  pub position : ℕ

-- The writes in order: how many of the first ones finished syncs cover, the heights of the others, the open syncs, and the
-- ticket of the next one.
pub record Writing : Type 0 where
  pub covered : ℕ
  pub uncovered : List ℕ
  pub syncs : List OpenSync
  pub next_sync : ℕ

-- what a life begins with
abbrev pub no_writes : Writing
no_writes = record { covered = 0; uncovered = []; syncs = []; next_sync = 0 }

-- how many writes there were
abbrev pub total_writes : Writing → ℕ
total_writes w = w.covered + length w.uncovered

-- one more, which no sync covers yet
abbrev pub with_write : ℕ → Writing → Writing
with_write height w = record w { uncovered = w.uncovered ++ height ∷ [] }

-- a sync is started that covers all of them
abbrev pub with_started : Writing → Writing
with_started w = record w { syncs = w.syncs ++ record { ticket = w.next_sync; position = total_writes w } ∷ []; next_sync = w.next_sync + 1 }

-- a ticket was taken for a sync of something else
abbrev pub with_ticket : Writing → Writing
with_ticket w = record w { next_sync = w.next_sync + 1 }

-- whether a sync of this ticket is open
abbrev pub is_open_sync : List OpenSync → ℕ → Bool
is_open_sync syncs t = list_any (λ s. s.ticket == t) syncs

-- how many writes the sync of this ticket covers: none where it isn't open
abbrev pub position_of : List OpenSync → ℕ → ℕ
position_of [] t = 0
position_of (s ∷ others) t = if s.ticket == t then s.position else position_of others t

abbrev pub without_sync : ℕ → List OpenSync → List OpenSync
without_sync t syncs = filter (λ s. not (s.ticket == t)) syncs

-- finished syncs cover the writes up to this position, or to a later one as before
abbrev pub covered_to : ℕ → Writing → Writing
covered_to position w = record w { covered = max w.covered position; uncovered = drop (max w.covered position - w.covered) w.uncovered }

-- the sync of this ticket has finished
abbrev pub with_finished : ℕ → Writing → Writing
with_finished t w = record (covered_to (position_of w.syncs t) w) { syncs = without_sync t w.syncs }

-- a blocking sync covers all writes, and leaves the open syncs open
abbrev pub with_all_covered : Writing → Writing
with_all_covered w = covered_to (total_writes w) w

-- The tickets of the open syncs ascend to the next one, and each sync covers no more writes than there were.
pub record IsOrdered (w : Writing) : Type 0 where
  pub ascend : AllPairs (λ s t. s.ticket < t.ticket) w.syncs
  pub below : AllByRecursion (λ s. s.ticket < w.next_sync) w.syncs
  pub within : AllByRecursion (λ s. s.position ≤ total_writes w) w.syncs

-- The last write was at this height, and no sync was started since.
pub record IsLastWrite (height : ℕ) (w : Writing) : Type 0 where
  pub before : Writing
  pub ordered : IsOrdered before
  pub is : w ≡ with_write height before
