-- What is wanted, as plain data.
use Rattle.std.specs.Prelude.{List, ℕ}
use Rattle.mar_store.specs.Kept.{At}
use Rattle.mar_repair.specs.declared.wanted.Wanted.{Wanted}

abbrev pub wanted_of : {C : Type 0} → (C → List ℕ) → Wanted C → At (List ℕ)
wanted_of bytes w = record { height = w.height; value = bytes w.commitment }
