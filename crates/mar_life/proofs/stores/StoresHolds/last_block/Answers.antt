use Rattle.mar_life.proofs.stores.StoresHolds.last_block.Goals as goal

pub returns : goal.returns
returns g c = rw (← c.self.view_is) c.last.ensures
