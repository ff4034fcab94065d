use Rattle.std.proofs.Common.{◌∙◌}
use Rattle.mar_inbox.proofs.Behind.{restored}
use Rattle.mar_inbox.proofs.inbox.Inbox.enqueue_closing.Goals as goal

pub returns-in-Err-clause-err : goal.returns-in-Err-clause-err
returns-in-Err-clause-err g c =
    restored g.M.Letter.plain c.self.inside.queue.capacity _ c.self.inside.seats c.self.inside.shut c.self.inside.queue.ready.items _ c.self.inside.queue.overflow _ _ _ c.args.ticket c.in-Ok.is_new
    c.in-Err.ensures.same.0 c.enqueue.ensures.capacity c.in-Ok.ensures.ok c.in-Err.ensures.same.1 c.reopen.ensures c.in-Ok.ensures.undone
    ∙ c.self.view_is
