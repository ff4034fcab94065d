use Rattle.mar_model.specs.Scene.{windowed}
use Rattle.mar_model.proofs.Handing.{HandsSoFar}
use Rattle.mar_actor.proofs.dispatch.dispatch.Given as goal

abbrev pub invariant-handing : goal.invariant-handing
invariant-handing g l = HandsSoFar (windowed (g.S.HoldsCache.held l.initial.stores) l.initial.window) (windowed (g.S.HoldsCache.held l.stores) l.window) (g.A.Reporter.told l.initial.application) (g.A.Reporter.told l.application) l._handed
