use Rattle.mar_ledger.proofs.Kept.{leaves_ledger}
use Rattle.mar_ledger.proofs.ledger.Ledger.replace.Goals as goal

pub returns-in-Err : goal.returns-in-Err
returns-in-Err g c = rw (← c.self.view_is) (record {
  leaves = leaves_ledger _ _ _ _ _ _ c.self.invariant.holds c.in-Err.ensures.are c.requires c.in-Err.ensures.fits c.self.invariant.durable c.in-Err.ensures.done;
  watched = c.in-Err.ensures.watched;
})
