use Rattle.std.proofs.Common.{drop}
use Rattle.mar_follower.specs.Plain.{plain_block, plain_blocks}
use Rattle.mar_follower.proofs.Strangers.{Tells}
use Rattle.mar_follower.proofs.judging.first_stranger.Given as goal

abbrev pub invariant-seeking : goal.invariant-seeking
invariant-seeking l = Tells (plain_block l.top) (plain_block l.before) l.place (plain_blocks l.others) (plain_blocks (drop l.place l.others))
