use Rattle.mar_ledger.proofs.PutKeys.{loses_put}
use Rattle.mar_ledger.proofs.writing.write.Goals as goal

pub returns-in-Err-clause-done : goal.returns-in-Err-clause-done
returns-in-Err-clause-done g c = loses_put _ _ _ _ _ c.in-Err.ensures.done
