use Rattle.mar_model.specs.Faults.{block_store}
use Rattle.mar_model.proofs.Passing.{Passes-then}
use Rattle.mar_model.proofs.Storing.{StoresValue-synced}
use Rattle.mar_life.proofs.Placed.{done_so, failed_so, fails_then, left_so, left_then, stays_then}
use Rattle.mar_life.proofs.blocks_in_place.store.Goals as goal

pub returns-clause-done : goal.returns-clause-done
returns-clause-done g c = done_so c.sync.result c.sync.ensures.done (λ syncs. StoresValue-synced _ _ _ _ _ c.in_ok-put_block.ensures.done syncs)

pub returns-clause-stays : goal.returns-clause-stays
returns-clause-stays g c = done_so c.sync.result c.sync.ensures.stays (λ stays. stays_then g.FB.Keeps.stored g.FB.Keeps.number g.FB.Keeps.covers _ _ _ c.in_ok-put_block.ensures.stays stays)

pub returns-clause-passed : goal.returns-clause-passed
returns-clause-passed g c = done_so c.sync.result c.sync.ensures.passed (λ passed. Passes-then _ _ _ c.in_ok-put_block.ensures.passed passed)

pub returns-clause-left : goal.returns-clause-left
returns-clause-left g c = left_so c.sync.result c.sync.ensures.left (λ left. left_then g.FB.Keeps.stored g.FB.Keeps.number g.FB.Keeps.covers _ _ _ c.in_ok-put_block.ensures.stays left)

pub returns-clause-failed : goal.returns-clause-failed
returns-clause-failed g c = failed_so c.sync.result c.sync.ensures.failed (λ e failed. fails_then block_store g.FB.Keeps.stored g.FB.Wreck.ArchiveRuin.left g.FB.Keeps.watch g.FB.Wreck.ArchiveRuin.watch _ _ _ _ _ c.in_ok-put_block.ensures.done c.in_ok-put_block.ensures.passed failed)
