use Rattle.std.proofs.lemmas.Result.{err_from_is_err_and}
use Rattle.mar_actor.proofs.report.put_above.Goals as goal

pub returns-in_err-put : goal.returns-in_err-put
returns-in_err-put g c =
    let p = err_from_is_err_and c.from_residual.result c.from_residual.ensures.1 in
    rw (p.1, p.2) (record { runs = λ standing asks sends answers start whole rest reached. c.in_err-put.ensures.runs c.requires.intact _ standing _ start whole _ reached; whole = tt })

pub returns-clause-runs : goal.returns-clause-runs
returns-clause-runs g c =
    let told = rw (c.height-height.ensures, c.digest-digest.ensures, c.round.ensures) at c.report_tip.ensures.runs in
    λ standing asks sends answers start whole rest reached. told _ standing asks sends answers start whole rest (c.in_ok-put.ensures.runs c.requires.intact _ standing _ start whole _ reached)
