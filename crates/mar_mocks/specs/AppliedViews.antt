-- What an application keeps, as the definitions see it.
use Rattle.std.specs.Prelude.{List, ℕ}
use Rattle.mar_actor.specs.declared.Exact.{Exact}
use Rattle.mar_mocks.specs.Applied.{Owed, Tip}

abbrev pub owed_of : ℕ × Exact → Owed
owed_of o = record { height = o.0; ticket = o.1.ticket }

abbrev pub tip_of : {D : Type 0} → (D → List ℕ) → ℕ × D → Tip
tip_of bytes t = record { height = t.0; digest = bytes t.1 }
