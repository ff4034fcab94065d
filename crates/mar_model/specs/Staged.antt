-- Finalized blocks that wait to be handed over, and when a put stages one.
use Rattle.std.specs.Prelude.{Bool, not, ℕ, ◌&&◌}
use Rattle.mar_store.specs.Kept.{At, Kept, has_height}
pub use Rattle.mar_gate.specs.Staged.{Staged, has_place, kept_from, staged_at, staged_where, with_block, without_height}

-- a height was free before a put, and now isn't
abbrev pub is_taken_in : {T : Type 0} → ℕ → Kept (At T) → Kept (At T) → Bool
is_taken_in h old new = not (has_height old.held h) && has_height new.held h
