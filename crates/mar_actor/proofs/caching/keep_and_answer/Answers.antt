use Rattle.mar_model.specs.Views.{fault_of}
use Rattle.mar_model.proofs.Outcomes.{goes_on_memory}
use Rattle.mar_actor.proofs.caching.keep_and_answer.Goals as goal

pub returns-in-Ok-clause-goes_on : goal.returns-in-Ok-clause-goes_on
returns-in-Ok-clause-goes_on g c start all grew within = goes_on_memory (fault_of g.V.Commitment.Named.bytes) start all _ (c.in-Ok.ensures.goes_on start all grew within) c.answer_kept.result c.answer_kept.ensures.memory
