use Rattle.std.proofs.Common.{refl, sym, ◌∙◌}
use Rattle.mar_model.specs.Acks.{mark_dropped}
use Rattle.mar_model.specs.Promise.{node_of}
use Rattle.mar_script.specs.Script.{drop_line}
use Rattle.mar_script.specs.declared.RemarkShown.TheVariants as remark
use Rattle.mar_model.proofs.Passing.{ArePassed-refl}
use Rattle.mar_replay.proofs.Lasting.{marks}
use Rattle.mar_replay.proofs.LinePlays.{between, plays_alone, plays_remark}
use Rattle.mar_replay.proofs.LineTurns.{mark_done, mark_ignored, spared}
use Rattle.mar_replay.proofs.play.drop_ack.Goals as goal

pub returns-then-not-owes_ack : goal.returns-then-not-owes_ack
returns-then-not-owes_ack g c =
    rw c.requires.silent (λ config. plays_remark config _ _ remark.Ignored (λ chain account. mark_ignored config chain account (node_of c.args.actor c.args.buffer.blocks (between c.args.actor c.args.pending)) c.args.ticket (drop_line c.args.ticket) _ _ refl (sym c.owes_ack.ensures ∙ c.if-not-owes_ack.true) (refl, refl)) ArePassed-refl (λ luck. refl))

pub returns : goal.returns
returns g c = plays_alone c.args.actor c.args.buffer c.args.pending _ _ _ _ _ (marks c.args.ticket mark_dropped) (λ config account smooth t is. spared c.args.ticket _ smooth (sym c.owes_ack.ensures ∙ c.if-not-owes_ack.false)) (λ t m is. cc) refl (λ before now fault calls. calls) (λ config chain account waiting out s done. mark_done config chain account (node_of c.args.actor c.args.buffer.blocks waiting) c.args.ticket (drop_line c.args.ticket) out s refl (sym c.owes_ack.ensures ∙ c.if-not-owes_ack.false) done) c.step-state.ensures
