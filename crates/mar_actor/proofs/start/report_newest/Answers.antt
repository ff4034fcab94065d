use Rattle.std.proofs.Common.{[], ap}
use Rattle.mar_model.specs.Promise.{heard_with}
use Rattle.mar_model.specs.Scene.{scene}
use Rattle.mar_model.specs.Views.{fault_of}
use Rattle.mar_model.proofs.Doing.{read-failed}
use Rattle.mar_model.proofs.Drawn.{newest-none, newest-some}
use Rattle.mar_model.proofs.Planned.{Does-behind, replanned}
use Rattle.mar_model.proofs.Running.{Reached-read}
use Rattle.mar_actor.proofs.start.report_newest.Goals as goal

pub returns-in-Ok-None-clause-runs : goal.returns-in-Ok-None-clause-runs
returns-in-Ok-None-clause-runs g c =
    λ standing asks sends answers start whole rest reached. Reached-read g.V.Variant.inner start whole rest _ _ (replanned g.V.Variant.inner start whole rest _ _ [] (newest-none g.V.Variant.inner _ (rw c.in-Ok-None.field-0-is at c.in-Ok-None.ensures.found)) reached) (record { joins = c.in-Ok-None.ensures.goes_on; same = ap (λ h. scene h c.args.window.now standing (heard_with (g.A.Reporter.told c.args.application.now) asks sends answers)) c.in-Ok-None.ensures.same })

pub returns-in-Ok-Some-clause-runs : goal.returns-in-Ok-Some-clause-runs
returns-in-Ok-Some-clause-runs g c =
    let told = rw (c.commitment_to_inner-digest.ensures, c.payload.ensures, c.round.ensures) at c.report_tip.ensures.runs in
    λ standing asks sends answers. Does-behind g.V.Variant.inner (fault_of g.V.Commitment.Named.bytes) _ _ (g.S.HoldsCache.held c.args.stores.now) _ _ standing _ _ c.report_tip.result (newest-some g.V.Variant.inner _ _ (rw c.in-Ok-Some.field-0-is at c.in-Ok-Some.ensures.found)) c.in-Ok-Some.ensures.same c.in-Ok-Some.ensures.goes_on (told _ standing asks sends answers)

pub returns-in-Err-clause-runs : goal.returns-in-Err-clause-runs
returns-in-Err-clause-runs g c = λ standing asks sends answers start whole rest reached. read-failed g.V.Variant.inner start whole _ _ _ standing _ reached c.in-Err.ensures.goes_on c.in-Err.ensures.read
