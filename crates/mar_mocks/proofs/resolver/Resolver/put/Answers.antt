use Rattle.mar_mocks.proofs.resolver.Resolver.put.Goals as goal

pub returns-clause-put : goal.returns-clause-put
returns-clause-put g c = rw (← c.self.view_is) (λ k. c.in_ok-insert.ensures.updates.0 k)
