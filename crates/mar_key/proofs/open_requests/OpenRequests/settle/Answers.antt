use Rattle.mar_key.proofs.open_requests.OpenRequests.settle.Goals as goal

pub returns-clause-ok : goal.returns-clause-ok
returns-clause-ok g c = rw (← c.self.view_is) (rw c.close_all.ensures at c.add_asks.ensures.ok)

pub returns-clause-err : goal.returns-clause-err
returns-clause-err g c = rw (← c.self.view_is) (rw c.close_all.ensures at c.add_asks.ensures.err)
