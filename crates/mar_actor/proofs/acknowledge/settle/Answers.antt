use Rattle.std.proofs.Common.{ap, ◌∙◌}
use Rattle.mar_model.proofs.Doing.{synced-done, synced-failed}
use Rattle.mar_actor.proofs.acknowledge.settle.Goals as goal

pub dispatch-requires : goal.dispatch-requires
dispatch-requires g c = record { intact = ap (λ h. h.intact) c.in-Ok.ensures.ok ∙ c.requires.intact }

pub returns-in-Ok : goal.returns-in-Ok
returns-in-Ok g c = record { runs = λ standing asks sends answers start whole rest reached. c.dispatch.ensures.runs standing asks sends answers start whole rest (synced-done g.V.Variant.inner start whole _ _ _ _ standing _ reached c.in-Ok.ensures.ok c.in-Ok.ensures.passed (c.law.ensures.lawful (ap (λ h. h.intact) c.in-Ok.ensures.ok ∙ c.requires.intact))) }

pub returns-in-Err : goal.returns-in-Err
returns-in-Err g c = record { runs = λ standing asks sends answers start whole rest reached. synced-failed g.V.Variant.inner start whole _ (g.S.HoldsCache.held c.args.stores.now) (g.S.HoldsCache.held c.args.stores.now) _ standing _ reached c.in-Err.ensures.lost c.in-Err.ensures.usual }
