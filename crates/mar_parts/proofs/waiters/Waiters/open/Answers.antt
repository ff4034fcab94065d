use Rattle.std.proofs.Common.{rules, [], ◌∷◌, ◌≡◌}
use Rattle.mar_parts.specs.WaitViews.{name_of, wait_of}
use Rattle.mar_parts.proofs.Waiting.{after_update}
use Rattle.mar_parts.proofs.waiters.Waiters.open.Goals as goal

pub returns-clause-ok : goal.returns-clause-ok
returns-clause-ok g c =
    let items : c.in_ok-tickets.tickets.items ≡ c.args.ticket ∷ [] = search rules in
    rw (← c.self.view_is, ← items) (λ other. after_update g.K.Named.bytes g.K.Ord.cmp (wait_of (name_of g.K.Named.bytes)) g.met.K.Digest.ordered c.self.inside.waits c.insert.new.self c.args.name _ c.in_ok-insert.ensures.updates.0 other)
