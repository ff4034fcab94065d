use Rattle.std.proofs.Common.{refl}
use Rattle.mar_life.proofs.stores.StoresHoldsProgress.witness.Goals as goal

pub invariant_of-self : goal.invariant_of-self
invariant_of-self g c = c.self.invariant

pub returns-clause-staged : goal.returns-clause-staged
returns-clause-staged g c = rw (← c.self.view_is) refl

pub returns-clause-tickets : goal.returns-clause-tickets
returns-clause-tickets g c = rw (← c.self.view_is) refl

pub returns-clause-held : goal.returns-clause-held
returns-clause-held g c = rw (← c.self.view_is, c.witness.ensures) refl
