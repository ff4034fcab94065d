use Rattle.mar_model.specs.Views.{store_name_of}
use Rattle.mar_replay.proofs.LinePlays.{plays_fail_left}
use Rattle.mar_replay.proofs.play.arm_left.Goals as goal

pub returns : goal.returns
returns g c = rw (← c.left.view_is) (λ config. plays_fail_left config _ _ c.args.luck (store_name_of c.args.store) c.args.calls c.arm.ensures.ended c.in_default.ensures.armed)
