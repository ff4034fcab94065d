use Rattle.mar_inbox.proofs.Turns.{least_read}
use Rattle.mar_inbox.proofs.dropping.first_below.Goals as goal

pub returns-clause-none : goal.returns-clause-none
returns-clause-none c = λ h t among. least_read c.args.prune _ _ h t (c.in_ok-first.ensures.least (h, t) among) c.if-first-prune.false
