use Rattle.mar_tests.proofs.SmallVotes.{small_vote}
use Rattle.mar_tests.proofs.light.vote_over.Goals as goal

pub returns : goal.returns
returns c = record { small = small_vote c.args.round _ c.args.height c.fill.ensures }
