use Rattle.mar_store.proofs.Stores.{fails_done, left_done, still_done}
use Rattle.mar_store.proofs.entries.Entries.put_in_part.Goals as goal

pub returns-in-Ok-clause-left : goal.returns-in-Ok-clause-left
returns-in-Ok-clause-left g c = fails_done _ _ _ _ c.in-Ok.ensures.done

pub returns-in-Ok-clause-still : goal.returns-in-Ok-clause-still
returns-in-Ok-clause-still g c = still_done _ _ _ _ _ _ c.in-Ok.ensures.done

pub returns-in-Ok-clause-written : goal.returns-in-Ok-clause-written
returns-in-Ok-clause-written g c = λ whole. left_done _ _ _ _ _ _ c.in-Ok.ensures.done
