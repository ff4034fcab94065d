use Rattle.std.proofs.Common.{refl, sym, ◌∙◌}
use Rattle.mar_journal.proofs.Opening.{magic_written, sync_moments, write_moments}
use Rattle.mar_journal.proofs.journal.begin.Goals as goal

pub returns-in_err-write_at-clause-any_moment : goal.returns-in_err-write_at-clause-any_moment
returns-in_err-write_at-clause-any_moment g c = write_moments g.D.Disk.seen g.D.Disk.may_leave g.D.Disk.moment g.D.Disk.left_since g.met.D.Disk.only_now c.args.disk.now c.write_at.new.self c.requires.new c.requires.only c.write_at.ensures.crash c.write_at.ensures.time

pub returns-in_err-sync-clause-any_moment : goal.returns-in_err-sync-clause-any_moment
returns-in_err-sync-clause-any_moment g c = sync_moments g.D.Disk.seen g.D.Disk.may_leave g.D.Disk.moment g.D.Disk.left_since g.met.D.Disk.only_now c.args.disk.now c.write_at.new.self c.requires.new c.requires.only c.write_at.ensures.crash c.write_at.ensures.time c.sync.new.self c.sync.ensures.crash c.sync.ensures.time

pub returns-clause-any_moment : goal.returns-clause-any_moment
returns-clause-any_moment g c = sync_moments g.D.Disk.seen g.D.Disk.may_leave g.D.Disk.moment g.D.Disk.left_since g.met.D.Disk.only_now c.args.disk.now c.write_at.new.self c.requires.new c.requires.only c.write_at.ensures.crash c.write_at.ensures.time c.sync.new.self c.sync.ensures.crash c.sync.ensures.time

pub returns-clause-done : goal.returns-clause-done
returns-clause-done g c = (refl, c.sync.ensures.same ∙ magic_written g.D.Disk.seen g.D.Disk.may_leave g.D.Disk.moment g.D.Disk.left_since g.met.D.Disk.only_now c.args.disk.now c.write_at.new.self c.requires.new c.requires.only c.write_at.ensures.crash c.write_at.ensures.time c.in_ok-write_at.ensures.written, λ image now. c.in_ok-sync.ensures.durable image now ∙ sym c.sync.ensures.same)
