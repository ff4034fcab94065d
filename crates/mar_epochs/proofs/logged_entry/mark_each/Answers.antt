use Rattle.mar_key.specs.Fronts.{entries_written, entry_written}
use Rattle.mar_epochs.proofs.logged_entry.mark_each.Goals as goal

pub loop-logged-preserved : goal.loop-logged-preserved
loop-logged-preserved g c = entry_written _ _ _ _ _ _ c.loop-logged.invariant _ c.loop-logged-test.true c.mark_one.ensures

pub returns : goal.returns
returns g c = entries_written _ _ _ _ _ c.loop-logged.invariant c.loop-logged-test.false
