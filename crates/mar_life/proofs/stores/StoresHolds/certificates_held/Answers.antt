use Rattle.mar_life.proofs.InPlace.{second_of}
use Rattle.mar_life.proofs.stores.StoresHolds.certificates_held.Goals as goal

pub returns : goal.returns
returns g c = rw (← c.self.view_is) (λ intact. c.held.ensures (second_of _ _ _ intact))
