use Rattle.std.proofs.Common.{refl}
use Rattle.mar_model.specs.Faults.{meta_store}
use Rattle.mar_model.proofs.Growing.{Grew-set}
use Rattle.mar_model.proofs.Passing.{Passes-refl}
use Rattle.mar_model.proofs.StoreLosses.{Loses-meta}
use Rattle.mar_model.specs.Places.{is_open}
use Rattle.mar_model.specs.Views.{fault_of}
use Rattle.mar_life.proofs.Answered.{answer_calm, answer_done, answer_left, with_left}
use Rattle.mar_life.proofs.Reading.{progress_is}
use Rattle.mar_life.proofs.Placed.{by_answer, done_so, failed_so, usual_fault}
use Rattle.mar_life.proofs.stores.StoresHoldsProgress.set_processed.Goals as goal

pub invariant_of-self : goal.invariant_of-self
invariant_of-self g c = c.self.invariant

pub returns-clause-staged : goal.returns-clause-staged
returns-clause-staged g c = rw (← c.self.view_is) refl

pub returns-clause-tickets : goal.returns-clause-tickets
returns-clause-tickets g c = rw (← c.self.view_is) refl

pub returns-clause-ok : goal.returns-clause-ok
returns-clause-ok g c = rw (← c.self.view_is) (done_so c.answered.result (answer_done (fault_of g.V.Commitment.Named.bytes) meta_store _ c.set_processed.result c.answered.result c.answered.ensures c.set_processed.ensures.ok) (λ is. progress_is (is_open c.self.inside.blocks) (is_open c.self.inside.certs) (g.H.LifeCache.intact c.self.inside.cache) is))

pub returns-clause-goes_on : goal.returns-clause-goes_on
returns-clause-goes_on g c = rw (← c.self.view_is) (λ start all grew within. by_answer c.answered.result (answer_done (fault_of g.V.Commitment.Named.bytes) meta_store _ c.set_processed.result c.answered.result c.answered.ensures c.set_processed.ensures.ok)
    (with_left _ _ c.answered.result (answer_left (fault_of g.V.Commitment.Named.bytes) meta_store _ c.set_processed.result c.answered.result c.answered.ensures c.set_processed.ensures.lost) (answer_calm (fault_of g.V.Commitment.Named.bytes) meta_store _ _ c.set_processed.result c.answered.result c.answered.ensures c.set_processed.ensures.watched))
    (λ is. rw is (Grew-set start all _ grew _ _ _ _ _ refl (Passes-refl _)))
    (λ e lost. Loses-meta start all _ grew _ _ _ _ within.pairs lost.0.1 lost.1))

pub returns-clause-usual : goal.returns-clause-usual
returns-clause-usual g c = failed_so c.answered.result (answer_calm (fault_of g.V.Commitment.Named.bytes) meta_store _ _ c.set_processed.result c.answered.result c.answered.ensures c.set_processed.ensures.watched) (λ e how. usual_fault meta_store _ _ _ how)
