use Rattle.std.proofs.Common.{ap, ◌∙◌}
use Rattle.mar_inbox.specs.Policy.{Backlog}
use Rattle.mar_inbox.proofs.Behind.{undone}
use Rattle.mar_inbox.proofs.backlog.Backlog.close.Goals as goal

pub returns-clause-undone : goal.returns-clause-undone
returns-clause-undone g c = undone c.args.ticket _ _ c.in-Ok.is_new c.in-Ok.ensures.added c.in-Ok.ensures.keys c.in-Ok.ensures.unchanged ∙ ap (λ (b : Backlog). b.closed) c.self.view_is
