use Rattle.std.proofs.Common.{rules}
use Rattle.mar_key.proofs.Filling.{fills_none, fills_one}
use Rattle.mar_key.proofs.queue.Queue.fill.Goals as goal

pub loop-self-preserved : goal.loop-self-preserved
loop-self-preserved g c = (search rules, search rules, λ ready waiting h. c.loop-self.invariant.2 ready waiting (fills_one g.P.Overflow.gives c.args.self.now.capacity _ _ _ _ _ _ _ (search rules) c.push.ensures.ready (rw c.push.ensures.overflow c.in-Some.ensures) h))

pub returns-in-None-clause-filled : goal.returns-in-None-clause-filled
returns-in-None-clause-filled g c = c.loop-self.invariant.2 _ _ (fills_none g.P.Overflow.gives c.args.self.now.capacity _ _ _ (search rules) c.in-None.ensures)
