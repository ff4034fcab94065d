use Rattle.mar_types.proofs.Spread.{last_of, longer_last}
use Rattle.mar_types.proofs.views.ViewRangeDoubleEndedIterator.next_back.Goals as goal

pub returns-then-self-clause-steps : goal.returns-then-self-clause-steps
returns-then-self-clause-steps c = rw (← c.self.view_is, c.new.ensures) (last_of _ _ c.if-self.true)

pub returns-then-self-clause-goes : goal.returns-then-self-clause-goes
returns-then-self-clause-goes c = record {
  on = λ _. (tt, tt, longer_last _ _ _ (returns-then-self-clause-steps c));
  keeps = tt;
  rests = λ _. tt;
}
