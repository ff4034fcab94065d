use Rattle.mar_follower.proofs.Checked.{passes_next, refuses_next}
use Rattle.mar_follower.proofs.checking.check_next.Goals as goal

pub returns-in-Some-clause-refused : goal.returns-in-Some-clause-refused
returns-in-Some-clause-refused g c = λ bytes so_far. refuses_next _ bytes _ _ _ _ _ so_far c.in-Ok.ensures.ok (c.in-Some.ensures c.args.members)

pub returns-in-Ok-with-clause-passed : goal.returns-in-Ok-with-clause-passed
returns-in-Ok-with-clause-passed g c = λ bytes so_far. passes_next _ bytes _ _ _ _ _ so_far c.in-Ok.ensures.ok
    (c.in-None.ensures c.args.members) c.in-Ok-with.ensures.segments c.in-Ok-with.ensures.counted c.in-Ok-with.ensures.lowest
