use Rattle.mar_judge.proofs.Produced.{blocks_complete, finalized_complete, notarized_complete}
use Rattle.mar_judge.proofs.laws.produces_complete.Goals as goal

pub returns-clause-blocks : goal.returns-clause-blocks
returns-clause-blocks g c = blocks_complete (g.J.Judge.rules c.args.judge.now)

pub returns-clause-finalized : goal.returns-clause-finalized
returns-clause-finalized g c = finalized_complete (g.J.Judge.rules c.args.judge.now)

pub returns-clause-notarized : goal.returns-clause-notarized
returns-clause-notarized g c = notarized_complete (g.J.Judge.rules c.args.judge.now)
