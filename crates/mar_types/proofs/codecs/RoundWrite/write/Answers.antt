use Rattle.std.proofs.lemmas.Result.{on_err_weaker}
use Rattle.mar_types.specs.CodecLemmas.{joined_appends_first, joined_appends_second}
use Rattle.mar_types.proofs.Joins.{on_err}
use Rattle.mar_types.proofs.codecs.RoundWrite.write.Goals as goal

pub returns-in_err-write-clause-err : goal.returns-in_err-write-clause-err
returns-in_err-write-clause-err g c = on_err _ c.from_residual.result (joined_appends_first _ _ _ _ (rw c.epoch.ensures at c.in_err-write.ensures.err))

pub returns-clause-err : goal.returns-clause-err
returns-clause-err g c = rw (← c.view.ensures, ← c.epoch.ensures) (on_err_weaker c.write-2.result (λ part. joined_appends_second _ _ _ _ _ c.in_ok-write.ensures.ok part) c.write-2.ensures.err)
