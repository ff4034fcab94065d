use Rattle.mar_model.specs.Views.{store_name_of}
use Rattle.mar_replay.proofs.LinePlays.{plays_fail}
use Rattle.mar_replay.proofs.play.arm.Goals as goal

pub returns : goal.returns
returns g c = λ config. plays_fail config c.args.actor _ c.args.buffer c.args.pending (store_name_of c.args.store) c.args.calls c.in_default.ensures.armed
