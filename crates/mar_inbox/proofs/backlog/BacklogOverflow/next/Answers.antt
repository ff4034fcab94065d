use Rattle.std.proofs.Common.{ap, option_map, sym, ◌∙◌}
use Rattle.mar_inbox.specs.Policy.{next_waiting}
use Rattle.mar_inbox.proofs.Behind.{next_of_others}
use Rattle.mar_inbox.proofs.backlog.BacklogOverflow.next.Goals as goal

pub returns : goal.returns
returns g c =
    ap next_waiting (sym c.self.view_is)
    ∙ rw (c.take.ensures.after, c.take-2.ensures.after) (next_of_others (option_map g.M.Letter.plain c.self.inside.floor) (option_map g.M.Letter.plain c.self.inside.prune) _ _ _ _
    (ap (option_map g.M.Letter.plain) (sym c.take.ensures.value ∙ c.in_default.is)) (ap (option_map g.M.Letter.plain) (sym c.take-2.ensures.value ∙ c.in_default-take.is)) c.next_open.ensures)
