use Rattle.std.proofs.Common.{sym}
use Rattle.std.proofs.lemmas.Result.{err_from_is_err_and}
use Rattle.mar_actor.proofs.report.take_note.Goals as goal

pub returns-in_err-note_round : goal.returns-in_err-note_round
returns-in_err-note_round g c =
    let p = err_from_is_err_and c.from_residual.result c.from_residual.ensures.1 in
    let runs = rw c.round.ensures at c.in_err-note_round.ensures.runs in
    rw (p.1, p.2) (record { runs = λ standing sends answers start whole rest reached. runs _ standing _ sends answers (sym c.retention.ensures) start whole _ reached })
