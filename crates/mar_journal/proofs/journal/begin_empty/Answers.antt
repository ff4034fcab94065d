use Rattle.mar_journal.proofs.Opening.{begun}
use Rattle.mar_journal.proofs.journal.begin_empty.Goals as goal

pub returns-in-Ok-clause-done : goal.returns-in-Ok-clause-done
returns-in-Ok-clause-done g c =
    let done = c.in-Ok.ensures.done in
    (c.new.ensures.items, begun g.R.Record.spelled g.R.Record.valid g.D.Disk.seen g.D.Disk.may_leave c.new.result.items c.in-Ok.end c.begin.new.disk c.new.ensures.items done.0 done.1 done.2)
