use Rattle.mar_types.proofs.Spread.{first_of, longer_first}
use Rattle.mar_types.proofs.views.ViewRangeIterator.next.Goals as goal

pub returns-then-self-clause-steps : goal.returns-then-self-clause-steps
returns-then-self-clause-steps c = rw (← c.self.view_is, c.new-first.ensures) (first_of _ _ c.if-self.true)

pub returns-then-self-clause-goes : goal.returns-then-self-clause-goes
returns-then-self-clause-goes c = record {
  on = λ _. (tt, tt, longer_first _ _ _ (returns-then-self-clause-steps c));
  keeps = tt;
  rests = λ _. tt;
}
