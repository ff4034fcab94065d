use Rattle.std.proofs.Common.{ap, sym, ◌∙◌}
use Rattle.mar_inbox.specs.Policy.{after_take}
use Rattle.mar_inbox.proofs.Behind.{took}
use Rattle.mar_inbox.proofs.inbox.Inbox.take_first.Goals as goal

pub returns : goal.returns
returns g c = ap after_take (sym c.self.view_is) ∙ (rw c.take.ensures.capacity (took g.M.Letter.plain _ c.self.inside.seats c.self.inside.shut _ _ _ _ _ c.take.ensures.taken))
