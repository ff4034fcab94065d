use Rattle.std.proofs.Common.{ap, is_some, ◌∙◌}
use Rattle.mar_script.specs.Lines.{plain_message}
use Rattle.mar_replay.proofs.Told.{plays_told, took_ticket}
use Rattle.mar_replay.proofs.play.tell.Goals as goal

pub returns : goal.returns
returns g c =
    let took = took_ticket _ _ _ _ c.set_ticket.ensures.ticket (c.is_some.ensures ∙ ap is_some c.ticket.ensures.ticket) in
    plays_told c.args.actor c.args.buffer c.args.pending _ (plain_message c.args.message) c.set_ticket.ensures.read _ c.set_ticket.ensures.ticket c.behind-pending.ensures.requests
    (λ takes. c.behind-pending.ensures.kept (took ∙ takes)) (λ takes. c.behind-pending.ensures.taken (took ∙ takes)) _ _ _ (rw c.set_ticket.ensures.same at c.step-state.ensures)
