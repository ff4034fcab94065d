use Rattle.std.proofs.Common.{ap, rules, ◌∙◌}
use Rattle.std.proofs.lemmas.List.{take_all}
use Rattle.mar_model.specs.Floors.{permits, permitted}
use Rattle.mar_model.proofs.Permitted.{kept_next}
use Rattle.mar_model.proofs.floor.State.permitted.Goals.{then-permits+in_ok-push, else-permits}
use Rattle.mar_model.proofs.floor.State.permitted.Goals as goal

pub loop-request-preserved : goal.loop-request-preserved
loop-request-preserved g c =
    let next = kept_next (permits c.args.self.now) c.args.requests.now c.loop-request.request-index c.request-item.result _ _ c.permits.result c.loop-request-test.true c.request-item.is c.permits.ensures c.loop-request.invariant in
    elim c.if-permits.branch [ then-permits+in_ok-push w ↦ next (search rules) | else-permits w ↦ next (search rules) ]

pub returns : goal.returns
returns g c = c.loop-request.invariant ∙ ap (permitted c.args.self.now) (take_all c.loop-request.request-index c.args.requests.now c.loop-request-test.false)
