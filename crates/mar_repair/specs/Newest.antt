-- The height of the newest certificate.
use Rattle.std.specs.Prelude.{Some, true, ℕ, ◌<◌, ◌≡◌}
use Rattle.mar_key.specs.Processed.{height_of}
use Rattle.mar_store.specs.Named.{last_index}
use Rattle.mar_model.specs.Held.{Held}
use Rattle.mar_model.specs.Repair.{is_above_last}

-- it is the greatest of a held certificate, above the processed height and above every held block
pub record IsHeightAlone (held : Held) (h : ℕ) : Type 0 where
  pub last : last_index held.certs.held ≡ Some h
  pub above : height_of held.processed < h
  pub above_blocks : is_above_last (last_index held.blocks.held) h ≡ true
