-- A cache that holds nothing.
use Rattle.std.specs.Prelude.{[]}
use Rattle.mar_store.specs.Kept.{Kept}
use Rattle.mar_model.specs.Cached.{Cached}

-- nothing is held, nothing is sure, and nothing may be left
abbrev pub nothing_kept : Kept Cached
nothing_kept = record { held = []; sure = []; may = [] }
