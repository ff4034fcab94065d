use Rattle.std.proofs.Common.{ap}
use Rattle.mar_script.specs.Lines.{plain_block}
use Rattle.mar_replay.proofs.LinePlays.{plays_put}
use Rattle.mar_replay.proofs.play.put.Goals as goal

pub returns-in-Ok : goal.returns-in-Ok
returns-in-Ok g c = λ config. plays_put config c.args.actor c.args.buffer _ c.args.pending (plain_block c.args.block) (ap (λ held. held.blocks) c.in-Ok.ensures.ok)
