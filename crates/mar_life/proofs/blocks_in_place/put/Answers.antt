use Rattle.std.proofs.Common.{refl}
use Rattle.std.proofs.lemmas.Result.{err_from_is_err_and}
use Rattle.mar_model.specs.Faults.{block_store}
use Rattle.mar_life.specs.Pooling.{of_blocks}
use Rattle.mar_life.proofs.Awaiting.{held_by_put}
use Rattle.mar_life.proofs.Placed.{fails_alone, fails_behind, held_in, holds_in, holds_left, staged_in, waits_left, waits_there, waits_written}
use Rattle.mar_life.proofs.blocks_in_place.put.Goals as goal

pub returns-in-Err-clause-failed : goal.returns-in-Err-clause-failed
returns-in-Err-clause-failed g c = fails_alone block_store g.FB.Keeps.stored g.FB.Wreck.ArchiveRuin.left g.FB.Keeps.watch g.FB.Wreck.ArchiveRuin.watch _ _ _ refl

pub returns-in_err-is_taken-clause-waits : goal.returns-in_err-is_taken-clause-waits
returns-in_err-is_taken-clause-waits g c = waits_left g.FB.Keeps.stored g.FB.Keeps.number g.FB.Keeps.covers of_blocks _ _ c.args.writes.now _ c.in_err-is_taken.ensures.left c.requires.waits

pub returns-in_err-is_taken-clause-held : goal.returns-in_err-is_taken-clause-held
returns-in_err-is_taken-clause-held g c = held_in g.V.Variant.plain g.FB.Keeps.stored _ _ _ (holds_left g.FB.Keeps.stored g.FB.Keeps.number g.FB.Keeps.covers _ _ (waits_there g.FB.Keeps.stored g.FB.Keeps.number g.FB.Keeps.covers of_blocks _ c.args.writes.now c.requires.waits) c.in_err-is_taken.ensures.left) c.requires.held

pub returns-in_err-is_taken-clause-failed : goal.returns-in_err-is_taken-clause-failed
returns-in_err-is_taken-clause-failed g c =
    let p = err_from_is_err_and c.from_residual.result c.from_residual.ensures.1 in
    rw (p.1, p.2) c.in_err-is_taken.ensures.failed

pub returns-in-Err-stage-clause-failed : goal.returns-in-Err-stage-clause-failed
returns-in-Err-stage-clause-failed g c = fails_behind block_store g.FB.Keeps.stored g.FB.Wreck.ArchiveRuin.left g.FB.Keeps.watch g.FB.Wreck.ArchiveRuin.watch _ _ _ c.in_ok-is_taken.ensures.done c.in_ok-is_taken.ensures.passed

pub returns-in-Err-stage-clause-waits : goal.returns-in-Err-stage-clause-waits
returns-in-Err-stage-clause-waits g c = waits_written g.FB.Keeps.stored g.FB.Keeps.number g.FB.Keeps.covers of_blocks g.FB.Wreck.ArchiveRuin.left _ _ c.args.writes.now c.requires.waits c.in_ok-is_taken.ensures.stays c.in_ok-is_taken.ensures.done c.law.ensures (rw c.height-height.ensures at c.in_default.ensures.ok)

pub returns-in-Err-stage-clause-held : goal.returns-in-Err-stage-clause-held
returns-in-Err-stage-clause-held g c = rw c.in-Err-stage.ensures.err (held_in g.V.Variant.plain g.FB.Keeps.stored _ _ _ (holds_in g.FB.Keeps.stored g.FB.Keeps.number g.FB.Keeps.covers g.FB.Wreck.ArchiveRuin.left _ _ c.in_ok-is_taken.ensures.stays (held_by_put _ _ _ _ c.in_ok-is_taken.ensures.done)) c.requires.held)

pub returns-clause-waits : goal.returns-clause-waits
returns-clause-waits g c = waits_written g.FB.Keeps.stored g.FB.Keeps.number g.FB.Keeps.covers of_blocks g.FB.Wreck.ArchiveRuin.left _ _ c.args.writes.now c.requires.waits c.in_ok-is_taken.ensures.stays c.in_ok-is_taken.ensures.done c.law.ensures (rw c.height-height.ensures at c.in_default.ensures.ok)

pub returns-clause-held : goal.returns-clause-held
returns-clause-held g c = staged_in g.V.Variant.plain g.FB.Keeps.stored g.FB.Wreck.ArchiveRuin.left _ _ c.args.block c.args.staged.now _ c.in_ok-is_taken.ensures.done c.in_ok-is_taken.ensures.taken (rw c.height-height.ensures at c.in_default-stage.ensures.ok) (held_in g.V.Variant.plain g.FB.Keeps.stored _ _ _ (holds_in g.FB.Keeps.stored g.FB.Keeps.number g.FB.Keeps.covers g.FB.Wreck.ArchiveRuin.left _ _ c.in_ok-is_taken.ensures.stays (held_by_put _ _ _ _ c.in_ok-is_taken.ensures.done)) c.requires.held)
