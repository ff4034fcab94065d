use Rattle.mar_block.proofs.Lasts.{last_linked}
use Rattle.mar_proposer.specs.Rules.{plain_block}
use Rattle.mar_proposer.proofs.chain.newest.Goals as goal

pub returns-in-Some : goal.returns-in-Some
returns-in-Some c = rw (last_linked plain_block c.args.blocks.now, ← c.in-Some.ensures.value) c.digest.ensures

pub returns-in-None : goal.returns-in-None
returns-in-None c = rw (last_linked plain_block c.args.blocks.now, ← c.in-None.ensures.value) tt
