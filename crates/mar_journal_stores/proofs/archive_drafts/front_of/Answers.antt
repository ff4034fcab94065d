use Rattle.std.proofs.Common.{arith, drop, suc, subst, ◌-◌, ◌<◌, ◌≡◌}
use Rattle.std.specs.List.{AllByRecursion}
use Rattle.mar_journal_stores.proofs.Fronts.{all_one_more}
use Rattle.mar_journal_stores.proofs.archive_drafts.front_of.Goals as goal

pub marks-preserved : goal.marks-preserved
marks-preserved c =
    let step : c.marks.count ≡ suc (c.marks.count - 1) = omega (arith, c.marks-test.true) in
    record {
      within = omega (arith, c.marks.invariant.within);
      later = all_one_more (λ n. c.args.number < n) (c.marks.count - 1) c.args.marks.now (omega (arith, c.marks.invariant.within, c.marks-test.true)) (omega (arith, c.if-marks-count.false))
          (subst (λ k. AllByRecursion (λ n. c.args.number < n) (drop k c.args.marks.now)) step c.marks.invariant.later);
    }
