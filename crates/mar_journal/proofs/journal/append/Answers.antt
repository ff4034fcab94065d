use Rattle.std.proofs.Common.{inl, subst, sym, ◌+◌, ◌++◌}
use Rattle.mar_journal.specs.Journal.{IsSettled}
use Rattle.mar_journal.proofs.Moments.{and_then, weaker}
use Rattle.mar_journal.proofs.journal.append.Goals as goal

pub returns-in_err-size-clause-any_moment : goal.returns-in_err-size-clause-any_moment
returns-in_err-size-clause-any_moment g c = λ before s. weaker g.D.Disk.moment g.D.Disk.left_since c.args.disk.now c.stage.new.disk _ _ (c.stage.ensures.any_moment before s) (λ x is. inl is)

pub returns-in_err-open_gate-clause-any_moment : goal.returns-in_err-open_gate-clause-any_moment
returns-in_err-open_gate-clause-any_moment g c = λ before s. and_then g.D.Disk.moment g.D.Disk.left_since c.args.disk.now c.stage.new.disk c.open_gate.new.disk _ _ (weaker g.D.Disk.moment g.D.Disk.left_since c.args.disk.now c.stage.new.disk _ _ (c.stage.ensures.any_moment before s) (λ x is. inl is)) (c.open_gate.ensures.any_moment before (c.in_ok-size.ensures.same before s)) (λ x is. is)

pub returns-clause-any_moment : goal.returns-clause-any_moment
returns-clause-any_moment g c = λ before s. and_then g.D.Disk.moment g.D.Disk.left_since c.args.disk.now c.stage.new.disk c.open_gate.new.disk _ _ (weaker g.D.Disk.moment g.D.Disk.left_since c.args.disk.now c.stage.new.disk _ _ (c.stage.ensures.any_moment before s) (λ x is. inl is)) (c.open_gate.ensures.any_moment before (c.in_ok-size.ensures.same before s)) (λ x is. is)

pub returns-clause-done : goal.returns-clause-done
returns-clause-done g c = λ before s. subst (λ n. IsSettled g.R.Record.spelled g.R.Record.valid g.D.Disk.seen g.D.Disk.may_leave (before ++ c.args.records.now) (c.args.end + n) c.open_gate.new.disk) (sym c.in_ok-size.ensures.size) (c.in_ok-open_gate.ensures.done before (c.in_ok-size.ensures.same before s))
