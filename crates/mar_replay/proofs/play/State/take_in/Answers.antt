use Rattle.std.proofs.Common.{refl}
use Rattle.mar_replay.proofs.OpenStates.{err_any}
use Rattle.mar_replay.proofs.play.State.take_in.Goals as goal

pub returns-in-Running-clause-err : goal.returns-in-Running-clause-err
returns-in-Running-clause-err g c = rw c.in-Running.is (err_any c.settle.result _ (c.settle.new.self, refl))
