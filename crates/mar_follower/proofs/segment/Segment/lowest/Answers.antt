use Rattle.mar_follower.specs.Plain.{plain_block}
use Rattle.mar_follower.proofs.Strangers.{last_lowest}
use Rattle.mar_follower.proofs.segment.Segment.lowest.Goals as goal

pub returns-in-Some : goal.returns-in-Some
returns-in-Some c = rw c.deref.ensures.value at (last_lowest plain_block (plain_block c.args.self.now.top) c.deref.result.now c.in-Some.block.now c.in-Some.ensures.value)
