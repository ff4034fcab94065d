use Rattle.mar_model.specs.Faults.{cache_store}
use Rattle.mar_model.specs.Views.{fault_of}
use Rattle.mar_life.proofs.Answered.{answer_failed, answer_passed}
use Rattle.mar_life.proofs.cache_in_place.CacheInPlaceLifeCache.find_finalization.Goals as goal

pub returns-clause-passed : goal.returns-clause-passed
returns-clause-passed g c = rw c.in-Open.is (answer_passed (fault_of g.V.Commitment.Named.bytes) cache_store _ _ c.get_finalization_for.result c.answered.result c.answered.ensures c.get_finalization_for.ensures.watched)

pub returns-clause-failed : goal.returns-clause-failed
returns-clause-failed g c = rw c.in-Open.is (answer_failed (fault_of g.V.Commitment.Named.bytes) cache_store _ _ c.get_finalization_for.result c.answered.result c.answered.ensures c.get_finalization_for.ensures.watched)
