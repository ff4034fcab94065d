use Rattle.std.proofs.Common.{◌≡◌, ◌-◌, arith, sym}
use Rattle.mar_types.proofs.TableSteps.{number_fits, past_begun, past_goes_on}
use Rattle.mar_types.proofs.table_epocher.TableEpocher.epoch_at.Goals as goal

pub overflow_add-self : goal.overflow_add-self
overflow_add-self c =
    let e = c.args.self.now in
    let place : c.lengths.place ≡ e.count - 1 = omega (arith, c.lengths-test.false, c.lengths.auto.place-end) in
    let walked = c.lengths.invariant in
    let most = number_fits _ _ e.some e.held _ _ _ _ place c.from-last.ensures walked.0 walked.1 e.positive in
    omega (arith, most, c.get-number.ensures.fits)

pub returns-clause-begun : goal.returns-clause-begun
returns-clause-begun c =
    let e = c.args.self.now in
    let place : c.lengths.place ≡ e.count - 1 = omega (arith, c.lengths-test.false, c.lengths.auto.place-end) in
    let walked = c.lengths.invariant in
    let begun = past_begun _ _ e.some e.held _ _ _ _ place c.from-last.ensures walked.0 walked.1 e.positive in
    rw (c.new-2.ensures, sym c.get-number.ensures.value) begun

pub returns-clause-goes_on : goal.returns-clause-goes_on
returns-clause-goes_on c =
    let e = c.args.self.now in
    let place : c.lengths.place ≡ e.count - 1 = omega (arith, c.lengths-test.false, c.lengths.auto.place-end) in
    let walked = c.lengths.invariant in
    let goes_on = past_goes_on _ _ e.some e.held _ _ _ _ place c.from-last.ensures walked.0 walked.1 e.positive in
    rw (c.new-2.ensures, sym c.get-number.ensures.value) goes_on
