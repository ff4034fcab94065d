use Rattle.mar_script.specs.Script.{config_of}
use Rattle.mar_replay.proofs.play.play.Goals as goal

pub returns-in-Running : goal.returns-in-Running
returns-in-Running g c = rw c.in-Running.is (c.play_running.ensures (config_of c.args.settings))
