use Rattle.std.proofs.lemmas.Result.{err_from_is_err_and}
use Rattle.mar_actor.proofs.report.fill_and_start.Goals as goal

pub returns-in_err-fill_gaps : goal.returns-in_err-fill_gaps
returns-in_err-fill_gaps g c =
    let p = err_from_is_err_and c.from_residual.result c.from_residual.ensures.1 in
    rw (p.1, p.2) (record { runs = λ standing sends answers start whole rest reached. c.in_err-fill_gaps.ensures.runs standing sends answers start whole _ reached })

pub returns : goal.returns
returns g c =
    record { runs = λ standing sends answers start whole rest reached. c.start.ensures.runs c.in_ok-fill_gaps.ensures.whole _ standing _ start whole rest (c.in_ok-fill_gaps.ensures.runs standing sends answers start whole _ reached) }
