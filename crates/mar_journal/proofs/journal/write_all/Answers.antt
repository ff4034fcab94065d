use Rattle.std.proofs.Common.{ap, arith, length, refl, subst, take, ◌++◌, ◌+◌, ◌-◌, ◌∙◌, ◌≡◌, ◌≤◌}
use Rattle.std.proofs.lemmas.List.{take_all}
use Rattle.std.proofs.lemmas.Result.{IfOk-from_err}
use Rattle.mar_journal.specs.Format.{StandsUpto}
use Rattle.mar_journal.specs.Journal.{IsSettled}
use Rattle.mar_journal.proofs.Causes.{answers_ok}
use Rattle.mar_journal.proofs.Moments.{and_then}
use Rattle.mar_journal.proofs.WritingAll.{batch_here, settled_more, settled_none, upto_either, upto_first}
use Rattle.mar_journal.proofs.journal.write_all.Goals as goal

pub batches-init : goal.batches-init
batches-init g c = record {
  within = omega arith;
  room = c.requires.room;
  settled = λ before s. settled_none g.R.Record.spelled g.R.Record.valid g.D.Disk.seen g.D.Disk.may_leave before c.args.end c.args.disk.now s;
  any_moment = λ before s. upto_first g.R.Record.spelled g.R.Record.valid g.D.Disk.seen g.D.Disk.may_leave g.D.Disk.moment g.D.Disk.left_since g.met.D.Disk.only_now before c.args.records.now c.args.end c.args.disk.now s;
  idle = λ none. refl;
  calm = refl;
}

pub append-requires-clause-batch : goal.append-requires-clause-batch
append-requires-clause-batch g c = batch_here g.R.Record.spelled g.R.Record.valid c.args.records.now c.batches.done (c.batches.done + c.min-size.result - c.batches.done) c.requires.good c.batches-test.true (omega (arith, c.min-size.ensures, c.batches-test.true)) (omega (arith, c.min-size.ensures))

pub returns-in_err-end-clause-any_moment : goal.returns-in_err-end-clause-any_moment
returns-in_err-end-clause-any_moment g c =
    let i = c.batches.invariant in
    let within : c.batches.done + (c.batches.done + c.min-size.result - c.batches.done) ≤ length c.args.records.now = omega (arith, c.min-size.ensures, i.within) in
    λ before s. and_then g.D.Disk.moment g.D.Disk.left_since c.args.disk.now c.batches.disk c.append.new.disk (StandsUpto g.R.Record.spelled g.R.Record.valid before c.args.records.now) _ (i.any_moment before s)
    (c.append.ensures.any_moment (before ++ take c.batches.done c.args.records.now) (i.settled before s))
    (upto_either g.R.Record.spelled g.R.Record.valid before c.args.records.now c.batches.done (c.batches.done + c.min-size.result - c.batches.done) within)

pub batches-preserved : goal.batches-preserved
batches-preserved g c =
    let i = c.batches.invariant in
    let within : c.batches.done + (c.batches.done + c.min-size.result - c.batches.done) ≤ length c.args.records.now = omega (arith, c.min-size.ensures, i.within) in
    let same : c.batches.done + (c.batches.done + c.min-size.result - c.batches.done) ≡ c.batches.done + c.min-size.result = omega arith in
    record {
      within = omega (arith, c.min-size.ensures, i.within);
      room = c.in_ok-end.ensures.room;
      settled = λ before s. subst
          (λ n. IsSettled g.R.Record.spelled g.R.Record.valid g.D.Disk.seen g.D.Disk.may_leave (before ++ take n c.args.records.now) c.in_ok-end.end c.append.new.disk)
          same
          (settled_more g.R.Record.spelled g.R.Record.valid g.D.Disk.seen g.D.Disk.may_leave before c.args.records.now c.batches.done (c.batches.done + c.min-size.result - c.batches.done) c.in_ok-end.end c.append.new.disk
          (c.in_ok-end.ensures.done (before ++ take c.batches.done c.args.records.now) (i.settled before s)));
      any_moment = λ before s. and_then g.D.Disk.moment g.D.Disk.left_since c.args.disk.now c.batches.disk c.append.new.disk (StandsUpto g.R.Record.spelled g.R.Record.valid before c.args.records.now) _ (i.any_moment before s)
          (c.append.ensures.any_moment (before ++ take c.batches.done c.args.records.now) (i.settled before s))
          (upto_either g.R.Record.spelled g.R.Record.valid before c.args.records.now c.batches.done (c.batches.done + c.min-size.result - c.batches.done) within);
      idle = λ none. absurd (omega (arith, c.batches-test.true, ap length none));
      calm = c.in_ok-end.ensures.cause.calm ∙ i.calm;
    }

pub returns-clause-idle : goal.returns-clause-idle
returns-clause-idle g c = c.batches.invariant.idle

pub returns-clause-done : goal.returns-clause-done
returns-clause-done g c = λ before s. subst (λ l. IsSettled g.R.Record.spelled g.R.Record.valid g.D.Disk.seen g.D.Disk.may_leave (before ++ l) c.batches.end c.batches.disk) (take_all c.batches.done c.args.records.now c.batches-test.false) (c.batches.invariant.settled before s)

pub returns-clause-any_moment : goal.returns-clause-any_moment
returns-clause-any_moment g c = c.batches.invariant.any_moment

pub returns-clause-cause : goal.returns-clause-cause
returns-clause-cause g c = answers_ok _ _ c.batches.end c.batches.invariant.calm

pub returns-in_err-end-clause-done : goal.returns-in_err-end-clause-done
returns-in_err-end-clause-done g c = λ before s. IfOk-from_err c.from_residual.result _ c.from_residual.ensures.0

pub returns-in_err-end-clause-idle : goal.returns-in_err-end-clause-idle
returns-in_err-end-clause-idle g c = λ none. absurd (omega (arith, c.batches-test.true, ap length none))
