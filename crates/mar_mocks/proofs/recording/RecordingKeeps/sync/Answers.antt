use Rattle.mar_mocks.proofs.recording.RecordingKeeps.sync.Goals as goal

pub returns-in-Err-clause-done : goal.returns-in-Err-clause-done
returns-in-Err-clause-done g c = rw c.lost_with.ensures.left c.in-Err.ensures.done

pub returns-in-Err-clause-watched : goal.returns-in-Err-clause-watched
returns-in-Err-clause-watched g c = c.lost_with.ensures.heeds _ c.in-Err.ensures.watched

pub returns-in-Err-clause-still : goal.returns-in-Err-clause-still
returns-in-Err-clause-still g c = rw c.lost_with.ensures.left c.in-Err.ensures.still
