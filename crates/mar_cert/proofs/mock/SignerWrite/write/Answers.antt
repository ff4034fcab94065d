use Rattle.std.proofs.lemmas.Result.{err_from_is_err_and}
use Rattle.mar_cert.proofs.PartsWritten.{goes_on, last_err, starts, stops}
use Rattle.mar_cert.proofs.mock.SignerWrite.write.Goals as goal

pub returns-in_err-write-clause-err : goal.returns-in_err-write-clause-err
returns-in_err-write-clause-err g c =
    let p = err_from_is_err_and c.from_residual.result c.from_residual.ensures.1 in
    rw p.1 (stops _ _ _ _ _ _ 0 0 (starts _ _ _) c.in_err-write.ensures.err)

pub returns-clause-err : goal.returns-clause-err
returns-clause-err g c = last_err c.write-2.result _ _ _ _ _ _ _ (goes_on _ _ _ _ _ _ _ _ _ (starts _ _ _) c.in_ok-write.ensures.ok c.in_ok-write.ensures.room) c.write-2.ensures.err
