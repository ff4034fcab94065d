use Rattle.mar_model.specs.Faults.{block_store}
use Rattle.mar_model.specs.Views.{fault_of}
use Rattle.mar_life.proofs.Answered.{answer_failed, answer_passed}
use Rattle.mar_life.proofs.blocks_in_place.of.Goals as goal

pub returns-clause-passed : goal.returns-clause-passed
returns-clause-passed g c = rw c.in-Open.is (answer_passed (fault_of g.V.Commitment.Named.bytes) block_store _ _ c.find.result c.answered.result c.answered.ensures c.find.ensures.watched)

pub returns-clause-failed : goal.returns-clause-failed
returns-clause-failed g c = rw c.in-Open.is (answer_failed (fault_of g.V.Commitment.Named.bytes) block_store _ _ c.find.result c.answered.result c.answered.ensures c.find.ensures.watched)
