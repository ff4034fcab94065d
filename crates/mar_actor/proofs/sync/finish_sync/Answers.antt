use Rattle.std.proofs.Common.{sym, ◌∙◌}
use Rattle.std.proofs.lemmas.Result.{err_from_is_err_and}
use Rattle.mar_model.proofs.Planned.{never_open, still_open}
use Rattle.mar_actor.proofs.sync.finish_sync.Goals as goal

pub returns-in_err-let_go-clause-runs : goal.returns-in_err-let_go-clause-runs
returns-in_err-let_go-clause-runs g c =
    let p = err_from_is_err_and c.from_residual.result c.from_residual.ensures.1 in
    rw (p.1, p.2) (λ standing asks sends answers start whole rest reached. c.in_err-let_go.ensures.runs _ standing _ start whole _ (still_open g.V.Variant.inner start whole rest _ c.args.ticket _ c.in_err-let_go.ensures.failed reached))

pub returns-then-not-branch-clause-runs : goal.returns-then-not-branch-clause-runs
returns-then-not-branch-clause-runs g c = λ standing asks sends answers start whole rest reached. c.in_ok-let_go.ensures.runs _ standing _ start whole rest (never_open g.V.Variant.inner start whole rest _ c.args.ticket _ (sym c.in_ok-let_go.ensures.was_open ∙ c.if-not-branch.true) reached)

pub returns-clause-runs : goal.returns-clause-runs
returns-clause-runs g c = λ standing asks sends answers start whole rest reached. c.dispatch.ensures.runs standing asks sends answers start whole rest (c.in_ok-let_go.ensures.runs _ standing _ start whole _ (still_open g.V.Variant.inner start whole rest _ c.args.ticket _ (sym c.in_ok-let_go.ensures.was_open ∙ c.if-not-branch.false) reached))
