use Rattle.mar_life.proofs.InPlace.{first_of}
use Rattle.mar_life.proofs.stores.StoresHolds.blocks_held.Goals as goal

pub returns : goal.returns
returns g c = rw (← c.self.view_is) (λ intact. c.held.ensures (first_of _ _ intact))
