use Rattle.std.proofs.Common.{refl}
use Rattle.mar_script.specs.declared.RemarkShown.TheVariants as remark
use Rattle.mar_model.proofs.Passing.{ArePassed-refl}
use Rattle.mar_replay.proofs.LinePlays.{plays_crash_left, plays_remark}
use Rattle.mar_replay.proofs.play.play_stopped.Goals as goal

pub returns-in-Fail : goal.returns-in-Fail
returns-in-Fail g c = rw (c.requires.silent, c.in-Fail.is) (c.arm_left.ensures _)

pub returns-in-Crash : goal.returns-in-Crash
returns-in-Crash g c = rw (c.requires.silent, c.in-Crash.is) (plays_crash_left _ c.args.left c.args.luck c.in-Crash.next)

pub returns-in-Buffer : goal.returns-in-Buffer
returns-in-Buffer g c = rw (c.requires.silent, c.in-Buffer.is, c.pass.ensures.state, c.pass.ensures.outcome) (plays_remark _ _ _ remark.Stopped (λ chain account. (refl, refl)) ArePassed-refl (λ luck. refl))

pub returns-in-Sync : goal.returns-in-Sync
returns-in-Sync g c = rw (c.requires.silent, c.in-Sync.is, c.pass-in-Sync.ensures.state, c.pass-in-Sync.ensures.outcome) (plays_remark _ _ _ remark.Stopped (λ chain account. (refl, refl)) ArePassed-refl (λ luck. refl))

pub returns-in-Ack : goal.returns-in-Ack
returns-in-Ack g c = rw (c.requires.silent, c.in-Ack.is, c.pass-in-Ack.ensures.state, c.pass-in-Ack.ensures.outcome) (plays_remark _ _ _ remark.Stopped (λ chain account. (refl, refl)) ArePassed-refl (λ luck. refl))

pub returns-in-Drop : goal.returns-in-Drop
returns-in-Drop g c = rw (c.requires.silent, c.in-Drop.is, c.pass-in-Drop.ensures.state, c.pass-in-Drop.ensures.outcome) (plays_remark _ _ _ remark.Stopped (λ chain account. (refl, refl)) ArePassed-refl (λ luck. refl))

pub returns-in-Tell : goal.returns-in-Tell
returns-in-Tell g c = rw (c.requires.silent, c.in-Tell.is, c.pass-in-Tell.ensures.state, c.pass-in-Tell.ensures.outcome) (plays_remark _ _ _ remark.Stopped (λ chain account. (refl, refl)) ArePassed-refl (λ luck. refl))
