use Rattle.mar_life.proofs.stores.StoresHolds.blocks_sure.Goals as goal

pub returns : goal.returns
returns g c = rw (← c.self.view_is) (λ intact. c.sure.ensures)
