use Rattle.mar_model.specs.Scene.{windowed}
use Rattle.mar_actor.proofs.Nexts.{nexts, still_full, stills}
use Rattle.mar_actor.proofs.dispatch.next_block.Goals as goal

pub returns-in-None-clause-none : goal.returns-in-None-clause-none
returns-in-None-clause-none g c = still_full (windowed (g.S.HoldsCache.held c.args.stores.now) c.args.window.now) c.in-None.ensures.none

pub returns-in-Some-clause-found : goal.returns-in-Some-clause-found
returns-in-Some-clause-found g c = nexts (windowed (g.S.HoldsCache.held c.args.stores.now) c.args.window.now) c.in-Some.height c.in-Some.ensures.found.1 g.V.Variant.plain c.in-Some.ensures.found.0 c.take_ready.result c.take_ready.ensures.ready

pub returns-in-Some-clause-none : goal.returns-in-Some-clause-none
returns-in-Some-clause-none g c = stills (windowed (g.S.HoldsCache.held c.args.stores.now) c.args.window.now) c.in-Some.height c.in-Some.ensures.found.1 c.take_ready.result c.take_ready.ensures.unready
