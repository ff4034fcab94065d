use Rattle.mar_key.specs.Fronts.{entries_written, entry_written}
use Rattle.mar_key.proofs.open_requests.deny_all.Goals as goal

pub loop-asked-preserved : goal.loop-asked-preserved
loop-asked-preserved g c = entry_written _ _ _ _ _ _ c.loop-asked.invariant _ c.loop-asked-test.true c.deny.ensures

pub returns : goal.returns
returns g c = entries_written _ _ _ _ _ c.loop-asked.invariant c.loop-asked-test.false
