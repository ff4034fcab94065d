use Rattle.mar_journal.proofs.Appending.{ended_only, opened_only, settled}
use Rattle.mar_journal.proofs.journal.open_gate.Goals as goal

pub returns-in_err-write_at-clause-any_moment : goal.returns-in_err-write_at-clause-any_moment
returns-in_err-write_at-clause-any_moment g c = λ before s. opened_only g.R.Record.spelled g.R.Record.valid g.D.Disk.seen g.D.Disk.may_leave g.D.Disk.moment g.D.Disk.left_since g.met.D.Disk.only_now before c.args.end c.args.records.now c.requires.batch c.args.disk.now s c.requires.staged c.write_at.new.self c.write_at.ensures.crash c.write_at.ensures.time

pub returns-in_err-sync-clause-any_moment : goal.returns-in_err-sync-clause-any_moment
returns-in_err-sync-clause-any_moment g c = λ before s. ended_only g.R.Record.spelled g.R.Record.valid g.D.Disk.seen g.D.Disk.may_leave g.D.Disk.moment g.D.Disk.left_since g.met.D.Disk.only_now before c.args.end c.args.records.now c.requires.batch c.args.disk.now s c.requires.staged c.write_at.new.self c.write_at.ensures.crash c.write_at.ensures.time c.sync.new.self c.sync.ensures.crash c.sync.ensures.time

pub returns-clause-any_moment : goal.returns-clause-any_moment
returns-clause-any_moment g c = λ before s. ended_only g.R.Record.spelled g.R.Record.valid g.D.Disk.seen g.D.Disk.may_leave g.D.Disk.moment g.D.Disk.left_since g.met.D.Disk.only_now before c.args.end c.args.records.now c.requires.batch c.args.disk.now s c.requires.staged c.write_at.new.self c.write_at.ensures.crash c.write_at.ensures.time c.sync.new.self c.sync.ensures.crash c.sync.ensures.time

pub returns-clause-done : goal.returns-clause-done
returns-clause-done g c = λ before s. settled g.R.Record.spelled g.R.Record.valid g.D.Disk.seen g.D.Disk.may_leave g.D.Disk.moment g.D.Disk.left_since g.met.D.Disk.only_now before c.args.end c.args.records.now c.requires.batch c.args.disk.now s c.requires.staged c.write_at.new.self c.sync.new.self c.in_ok-write_at.ensures.written c.sync.ensures.same c.in_ok-sync.ensures.durable
