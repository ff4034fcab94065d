use Rattle.std.proofs.Common.{refl, sym, ◌∙◌}
use Rattle.mar_script.specs.declared.RemarkShown.TheVariants as remark
use Rattle.mar_model.proofs.Passing.{ArePassed-refl}
use Rattle.mar_replay.proofs.Lasting.{finishes}
use Rattle.mar_replay.proofs.LinePlays.{between, plays_alone, plays_remark}
use Rattle.mar_replay.proofs.LineTurns.{sync_done, sync_ignored}
use Rattle.mar_replay.proofs.play.finish_sync.Goals as goal

pub returns-then-not-awaits_sync : goal.returns-then-not-awaits_sync
returns-then-not-awaits_sync g c =
    rw c.requires.silent (λ config. plays_remark config _ _ remark.Ignored (λ chain account. sync_ignored config chain account c.args.actor c.args.buffer.blocks (between c.args.actor c.args.pending) c.args.ticket _ _ (sym c.awaits_sync.ensures ∙ c.if-not-awaits_sync.true) (refl, refl)) ArePassed-refl (λ luck. refl))

pub returns : goal.returns
returns g c = plays_alone c.args.actor c.args.buffer c.args.pending _ _ _ _ _ (finishes c.args.ticket) (λ config account smooth t is. cc) (λ t m is. cc) refl (λ before now fault calls. calls) (λ config chain account waiting out s done. sync_done config chain account c.args.actor c.args.buffer.blocks waiting c.args.ticket out s (sym c.awaits_sync.ensures ∙ c.if-not-awaits_sync.false) done) c.step-state.ensures
