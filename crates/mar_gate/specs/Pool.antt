-- The writes of a life as the code keeps them: each open sync with the tickets that the two archives gave for it.
use Rattle.std.specs.Prelude.{List, None, Option, Some, [], drop, filter, if◌then◌else◌, length, map, max, not, ℕ, ◌++◌, ◌+◌, ◌-◌, ◌==◌, ◌∷◌}
use Rattle.mar_gate.specs.Writing.{OpenSync, Writing, position_of}

-- an open sync of both archives, with the numbers of its tickets there
pub record Pooled : Type 0 where
  pub sync : OpenSync
  pub blocks : ℕ
  pub certs : ℕ

pub record Pool : Type 0 where
  pub covered : ℕ
  pub uncovered : List ℕ
  pub pooled : List Pooled
  pub next_sync : ℕ

abbrev pub syncs_of : List Pooled → List OpenSync
syncs_of pooled = map (λ p. p.sync) pooled

-- without the archives' tickets
abbrev pub writing_of : Pool → Writing
writing_of p = record { covered = p.covered; uncovered = p.uncovered; syncs = syncs_of p.pooled; next_sync = p.next_sync }

abbrev pub empty_pool : Pool
empty_pool = record { covered = 0; uncovered = []; pooled = []; next_sync = 0 }

-- one more write, which no sync covers yet
abbrev pub pool_deferred : ℕ → Pool → Pool
pool_deferred height p = record p { uncovered = p.uncovered ++ height ∷ [] }

-- a sync of these two tickets was started
abbrev pub pool_started : ℕ → ℕ → Pool → Pool
pool_started blocks certs p = record p {
  pooled = p.pooled ++ record { sync = record { ticket = p.next_sync; position = p.covered + length p.uncovered }; blocks = blocks; certs = certs } ∷ [];
  next_sync = p.next_sync + 1;
}

-- a ticket was taken for a sync of something else
abbrev pub pool_ticketed : Pool → Pool
pool_ticketed p = record p { next_sync = p.next_sync + 1 }

-- the open sync of a ticket
abbrev pub pooled_at : List Pooled → ℕ → Option Pooled
pooled_at [] t = None
pooled_at (p ∷ others) t = if p.sync.ticket == t then Some p else pooled_at others t

-- writes up to a position are covered
abbrev pub pool_covered : ℕ → Pool → Pool
pool_covered position p = record p { covered = max p.covered position; uncovered = drop (max p.covered position - p.covered) p.uncovered }

-- the sync of a ticket has finished
abbrev pub pool_finished : ℕ → Pool → Pool
pool_finished t p = record (pool_covered (position_of (syncs_of p.pooled) t) p) { pooled = filter (λ q. not (q.sync.ticket == t)) p.pooled }

-- a blocking sync covers all writes
abbrev pub pool_cleared : Pool → Pool
pool_cleared p = pool_covered (p.covered + length p.uncovered) p
