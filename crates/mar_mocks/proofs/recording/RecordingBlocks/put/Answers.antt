use Rattle.mar_mocks.proofs.Lost.{fails_unchanged}
use Rattle.mar_mocks.proofs.recording.RecordingBlocks.put.Goals as goal

pub returns-in-Err-clause-done : goal.returns-in-Err-clause-done
returns-in-Err-clause-done g c = rw c.lost_with.ensures.left c.in-Err.ensures.done

pub returns-in_default-clause-done : goal.returns-in_default-clause-done
returns-in_default-clause-done g c = fails_unchanged _ _ _ c.wreck-inner.ensures.left

pub returns-in-Err-clause-watched : goal.returns-in-Err-clause-watched
returns-in-Err-clause-watched g c = c.lost_with.ensures.put _ c.in-Err.ensures.watched

pub returns-in-Err-clause-still : goal.returns-in-Err-clause-still
returns-in-Err-clause-still g c = rw c.lost_with.ensures.left c.in-Err.ensures.still
