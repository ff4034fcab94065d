use Rattle.mar_statesync.proofs.Decoded.{same_snapshot}
use Rattle.mar_statesync.proofs.laws.snapshots_are_spelled_once.Goals as goal

pub returns : goal.returns
returns c = same_snapshot
