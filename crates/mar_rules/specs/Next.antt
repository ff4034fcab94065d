-- The next block to hand over, by what the stores hold.
use Rattle.std.specs.List.{AllByRecursion}
use Rattle.std.specs.Prelude.{Contains, None, Some, ℕ, ◌<◌, ◌≡◌, ◌≤◌, ◌⊎◌}
use Rattle.mar_cert.specs.Block.{Block}
use Rattle.mar_model.specs.Faults.{last_height}
use Rattle.mar_model.specs.Held.{Held}
use Rattle.mar_store.specs.Kept.{value_at}

-- a write at or below this height is not yet covered
abbrev pub IsBarredAt : Held → ℕ → Type 0
IsBarredAt h n = (k : ℕ) × Contains h.writes.uncovered k × (k ≤ n)

-- this block stands at the height, below all such writes, so that a crash leaves it
pub record IsReady (h : Held) (n : ℕ) (b : Block) : Type 0 where
  pub held : value_at h.blocks.held n ≡ Some b
  pub height : b.height ≡ n
  pub below : n < last_height
  pub below_barrier : AllByRecursion (λ k. n < k) h.writes.uncovered

-- or there is none to hand over
abbrev pub IsUnready : Held → ℕ → Type 0
IsUnready h n = IsBarredAt h n ⊎ (value_at h.blocks.held n ≡ None) ⊎ (last_height ≤ n)
