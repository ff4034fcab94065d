use Rattle.std.proofs.Common.{inl}
use Rattle.mar_journal.proofs.Moments.{weaker}
use Rattle.mar_journal.proofs.journal.open.Goals as goal

pub returns-in-Err-Fault-clause-any_moment : goal.returns-in-Err-Fault-clause-any_moment
returns-in-Err-Fault-clause-any_moment g c = weaker g.D.Disk.moment g.D.Disk.left_since c.args.disk.now c.settle.new.disk _ (g.D.Disk.may_leave c.args.disk.now) c.settle.ensures.any_moment (λ x left. inl left)

pub returns-in-Err-Memory-clause-any_moment : goal.returns-in-Err-Memory-clause-any_moment
returns-in-Err-Memory-clause-any_moment g c = weaker g.D.Disk.moment g.D.Disk.left_since c.args.disk.now c.settle.new.disk _ (g.D.Disk.may_leave c.args.disk.now) c.settle.ensures.any_moment (λ x left. inl left)

pub returns-in-Ok-Found-clause-any_moment : goal.returns-in-Ok-Found-clause-any_moment
returns-in-Ok-Found-clause-any_moment g c = weaker g.D.Disk.moment g.D.Disk.left_since c.args.disk.now c.settle.new.disk _ (g.D.Disk.may_leave c.args.disk.now) c.settle.ensures.any_moment (λ x left. inl left)

pub returns-in-Ok-Damaged-clause-any_moment : goal.returns-in-Ok-Damaged-clause-any_moment
returns-in-Ok-Damaged-clause-any_moment g c = weaker g.D.Disk.moment g.D.Disk.left_since c.args.disk.now c.settle.new.disk _ (g.D.Disk.may_leave c.args.disk.now) c.settle.ensures.any_moment (λ x left. inl left)
