use Rattle.std.proofs.Common.{ap, arith, take}
use Rattle.mar_journal.specs.Records.{IsWritable}
use Rattle.mar_journal.proofs.WritingAll.{all_take}
use Rattle.mar_journal_stores.proofs.log.Log.write.Goals as goal

pub write_all-requires-clause-good : goal.write_all-requires-clause-good
write_all-requires-clause-good g c = rw c.deref.ensures.value (all_take (IsWritable g.R.Record.spelled g.R.Record.valid) c.args.count c.args.self.now.waiting.items c.requires.good)

pub drop_front-requires : goal.drop_front-requires
drop_front-requires g c = omega (arith, c.requires.count, c.requires.marked)

pub returns-in_err-self-clause-any_moment : goal.returns-in_err-self-clause-any_moment
returns-in_err-self-clause-any_moment g c = λ before s. rw c.deref.ensures.value at c.write_all.ensures.any_moment before s

pub returns-clause-any_moment : goal.returns-clause-any_moment
returns-clause-any_moment g c = λ before s. rw c.deref.ensures.value at c.write_all.ensures.any_moment before s

pub returns-clause-done : goal.returns-clause-done
returns-clause-done g c = λ before s. rw c.deref.ensures.value at c.in_ok-self.ensures.done before s

pub returns-in_err-self-clause-idle : goal.returns-in_err-self-clause-idle
returns-in_err-self-clause-idle g c = λ none. c.write_all.ensures.idle (ap (λ n. take n c.deref.result.now) none)

pub returns-clause-idle : goal.returns-clause-idle
returns-clause-idle g c = λ none. c.write_all.ensures.idle (ap (λ n. take n c.deref.result.now) none)

pub returns-clause-waiting : goal.returns-clause-waiting
returns-clause-waiting g c = c.drop_front.ensures

pub returns-clause-marks : goal.returns-clause-marks
returns-clause-marks g c = c.drop_front-2.ensures
