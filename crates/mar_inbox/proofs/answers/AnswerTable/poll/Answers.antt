use Rattle.mar_inbox.proofs.Stands.{waits}
use Rattle.mar_inbox.proofs.answers.AnswerTable.poll.Goals as goal

pub returns-in-None-clause-waiting : goal.returns-in-None-clause-waiting
returns-in-None-clause-waiting g c = waits c.args.ticket c.args.self.now _ c.in-None.ensures

pub returns-in-Some-Value-clause-waiting : goal.returns-in-Some-Value-clause-waiting
returns-in-Some-Value-clause-waiting g c = waits c.args.ticket c.args.self.now _ c.in-Some-Value.ensures

pub returns-in-Some-Closed-clause-waiting : goal.returns-in-Some-Closed-clause-waiting
returns-in-Some-Closed-clause-waiting g c = waits c.args.ticket c.args.self.now _ c.in-Some-Closed.ensures
