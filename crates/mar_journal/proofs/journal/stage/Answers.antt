use Rattle.std.proofs.Common.{ap, arith, length, subst, ◌+◌, ◌∙◌}
use Rattle.mar_journal.specs.Disk.{Holds}
use Rattle.mar_journal.proofs.Appending.{at_first, holds_long, is_staged, kept_only, shut_still, staged_only}
use Rattle.mar_journal.proofs.journal.stage.Goals as goal

pub returns-in-Err-clause-any_moment : goal.returns-in-Err-clause-any_moment
returns-in-Err-clause-any_moment g c = λ before s. at_first g.R.Record.spelled g.R.Record.valid g.D.Disk.seen g.D.Disk.may_leave g.D.Disk.moment g.D.Disk.left_since g.met.D.Disk.only_now before c.args.end c.args.records.now c.requires.batch c.args.disk.now s

pub returns-in_err-write_at-clause-any_moment : goal.returns-in_err-write_at-clause-any_moment
returns-in_err-write_at-clause-any_moment g c = λ before s. staged_only g.R.Record.spelled g.R.Record.valid g.D.Disk.seen g.D.Disk.may_leave g.D.Disk.moment g.D.Disk.left_since g.met.D.Disk.only_now before c.args.end c.args.records.now c.requires.batch c.args.disk.now s _ c.write_at.new.self c.write_at.ensures.crash c.write_at.ensures.time

pub returns-in_err-sync-clause-any_moment : goal.returns-in_err-sync-clause-any_moment
returns-in_err-sync-clause-any_moment g c = λ before s. kept_only g.R.Record.spelled g.R.Record.valid g.D.Disk.seen g.D.Disk.may_leave g.D.Disk.moment g.D.Disk.left_since g.met.D.Disk.only_now before c.args.end c.args.records.now c.requires.batch c.args.disk.now s _ c.write_at.new.self c.write_at.ensures.crash c.write_at.ensures.time c.sync.new.self c.sync.ensures.crash c.sync.ensures.time

pub returns-clause-any_moment : goal.returns-clause-any_moment
returns-clause-any_moment g c = λ before s. kept_only g.R.Record.spelled g.R.Record.valid g.D.Disk.seen g.D.Disk.may_leave g.D.Disk.moment g.D.Disk.left_since g.met.D.Disk.only_now before c.args.end c.args.records.now c.requires.batch c.args.disk.now s _ c.write_at.new.self c.write_at.ensures.crash c.write_at.ensures.time c.sync.new.self c.sync.ensures.crash c.sync.ensures.time

pub returns-clause-same : goal.returns-clause-same
returns-clause-same g c = λ before s. shut_still g.R.Record.spelled g.R.Record.valid g.D.Disk.seen g.D.Disk.may_leave g.D.Disk.moment g.D.Disk.left_since g.met.D.Disk.only_now before c.args.end c.args.records.now c.requires.batch c.args.disk.now s c.write_at.new.self c.sync.new.self (subst (λ b. Holds (g.D.Disk.seen c.args.disk.now) (c.args.end + 1) b (g.D.Disk.seen c.write_at.new.self)) (c.deref.ensures.value ∙ c.in-Ok.ensures) c.in_ok-write_at.ensures.written) c.sync.ensures.same c.in_ok-sync.ensures.durable

pub returns-clause-staged : goal.returns-clause-staged
returns-clause-staged g c = is_staged g.R.Record.spelled g.R.Record.valid g.D.Disk.seen g.D.Disk.may_leave c.args.end c.args.records.now c.deref.result.now c.args.disk.now c.write_at.new.self c.sync.new.self c.requires.room (c.deref.ensures.value ∙ c.in-Ok.ensures) c.in_ok-write_at.ensures.written c.sync.ensures.same

pub returns-clause-room : goal.returns-clause-room
returns-clause-room g c = omega (arith, c.len.ensures, ap length c.deref.ensures.value, ap length c.sync.ensures.same, (holds_long (g.D.Disk.seen c.args.disk.now) (c.args.end + 1) c.deref.result.now (g.D.Disk.seen c.write_at.new.self) (omega (arith, c.requires.room)) c.in_ok-write_at.ensures.written).0)
