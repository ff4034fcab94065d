use Rattle.std.proofs.Common.{refl}
use Rattle.mar_script.specs.declared.RemarkShown.TheVariants as remark
use Rattle.mar_model.proofs.Passing.{ArePassed-refl}
use Rattle.mar_replay.proofs.LinePlays.{plays_crash, plays_remark}
use Rattle.mar_replay.proofs.play.play_running.Goals as goal

pub returns-in-OpenGenesis : goal.returns-in-OpenGenesis
returns-in-OpenGenesis g c = rw (c.requires.silent, c.in-OpenGenesis.is) (λ config. plays_remark config _ _ remark.Running (λ chain account. (refl, refl)) ArePassed-refl (λ luck. refl))

pub returns-in-Fail : goal.returns-in-Fail
returns-in-Fail g c = rw (c.requires.silent, c.in-Fail.is) c.arm.ensures

pub returns-in-Crash : goal.returns-in-Crash
returns-in-Crash g c = rw (c.requires.silent, c.in-Crash.is, c.crash.ensures) (λ config. plays_crash config c.args.actor c.args.buffer c.args.pending c.in-Crash.luck)

pub returns-in-Sync : goal.returns-in-Sync
returns-in-Sync g c = rw c.in-Sync.is c.finish_sync.ensures

pub returns-in-Ack : goal.returns-in-Ack
returns-in-Ack g c = rw c.in-Ack.is c.acknowledge.ensures

pub returns-in-Drop : goal.returns-in-Drop
returns-in-Drop g c = rw c.in-Drop.is c.drop_ack.ensures

pub returns-in-Tell : goal.returns-in-Tell
returns-in-Tell g c = rw c.in-Tell.is c.tell.ensures
