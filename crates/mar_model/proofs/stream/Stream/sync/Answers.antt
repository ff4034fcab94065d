use Rattle.mar_model.proofs.Pairs.{leaves_pairs}
use Rattle.mar_model.proofs.stream.Stream.sync.Goals as goal

pub returns-in-Err-clause-done : goal.returns-in-Err-clause-done
returns-in-Err-clause-done g c = rw (← c.self.view_is) (leaves_pairs _ _ _ (g.met.M.Meta.some c.self.inside.meta) c.in-Err.ensures.done)
