use Rattle.std.proofs.Common.{refl}
use Rattle.mar_model.specs.Faults.{meta_store}
use Rattle.mar_model.proofs.Passing.{ArePassed-store}
use Rattle.mar_model.proofs.StoreLosses.{Loses-meta}
use Rattle.mar_model.specs.Places.{is_open}
use Rattle.mar_model.specs.Views.{fault_of}
use Rattle.mar_life.proofs.Answered.{answer_done, answer_idle, answer_left, answer_synced, with_left}
use Rattle.mar_life.proofs.Placed.{done_so, failed_so, usual_fault}
use Rattle.mar_life.proofs.Reading.{progress_is}
use Rattle.mar_life.proofs.stores.StoresHoldsProgress.sync_metadata.Goals as goal

pub invariant_of-self : goal.invariant_of-self
invariant_of-self g c = c.self.invariant

pub returns-clause-staged : goal.returns-clause-staged
returns-clause-staged g c = rw (← c.self.view_is) refl

pub returns-clause-tickets : goal.returns-clause-tickets
returns-clause-tickets g c = rw (← c.self.view_is) refl

pub returns-clause-ok : goal.returns-clause-ok
returns-clause-ok g c = rw (← c.self.view_is) (done_so c.answered.result (answer_done (fault_of g.V.Commitment.Named.bytes) meta_store _ c.sync.result c.answered.result c.answered.ensures c.sync.ensures.ok) (λ is. progress_is (is_open c.self.inside.blocks) (is_open c.self.inside.certs) (g.H.LifeCache.intact c.self.inside.cache) is))

pub returns-clause-passed : goal.returns-clause-passed
returns-clause-passed g c = rw (← c.self.view_is) (done_so c.answered.result (answer_idle (fault_of g.V.Commitment.Named.bytes) meta_store _ _ c.sync.result c.answered.result c.answered.ensures c.sync.ensures.watched) (λ passed. ArePassed-store _ meta_store _ passed))

pub returns-clause-lost : goal.returns-clause-lost
returns-clause-lost g c = rw (← c.self.view_is) (λ start all grew within. failed_so c.answered.result (with_left _ _ c.answered.result (answer_left (fault_of g.V.Commitment.Named.bytes) meta_store _ c.sync.result c.answered.result c.answered.ensures c.sync.ensures.lost) (answer_synced (fault_of g.V.Commitment.Named.bytes) meta_store _ _ c.sync.result c.answered.result c.answered.ensures c.sync.ensures.watched))
    (λ e lost. Loses-meta start all _ grew _ _ _ _ within.pairs lost.0.1 lost.1))

pub returns-clause-usual : goal.returns-clause-usual
returns-clause-usual g c = failed_so c.answered.result (answer_synced (fault_of g.V.Commitment.Named.bytes) meta_store _ _ c.sync.result c.answered.result c.answered.ensures c.sync.ensures.watched) (λ e how. usual_fault meta_store _ _ _ how)
