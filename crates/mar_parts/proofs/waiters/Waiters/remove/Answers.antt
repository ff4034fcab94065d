use Rattle.std.proofs.Common.{refl, rules, [], ◌≡◌}
use Rattle.mar_parts.specs.WaitViews.{name_of, wait_of}
use Rattle.mar_parts.proofs.ByName.{named}
use Rattle.mar_parts.proofs.Waiting.{after_update}
use Rattle.mar_parts.proofs.waiters.Waiters.remove.Goals as goal

pub returns-in_default-clause-tickets : goal.returns-in_default-clause-tickets
returns-in_default-clause-tickets g c =
    let none : c.new.result.items ≡ [] = search rules in
    rw (← c.self.view_is, named g.K.Named.bytes g.K.Ord.cmp (wait_of (name_of g.K.Named.bytes)) g.met.K.Digest.ordered c.args.name.now c.self.inside.waits.entries, ← c.in_default.ensures.value) none

pub returns-in_default-clause-rest : goal.returns-in_default-clause-rest
returns-in_default-clause-rest g c =
    rw (← c.self.view_is) (λ other. after_update g.K.Named.bytes g.K.Ord.cmp (wait_of (name_of g.K.Named.bytes)) g.met.K.Digest.ordered c.self.inside.waits c.remove.new.self c.args.name.now _ c.remove.ensures.updates.0 other)

pub returns-clause-tickets : goal.returns-clause-tickets
returns-clause-tickets g c =
    rw (← c.self.view_is, named g.K.Named.bytes g.K.Ord.cmp (wait_of (name_of g.K.Named.bytes)) g.met.K.Digest.ordered c.args.name.now c.self.inside.waits.entries, ← c.in-Some.ensures.value) refl

pub returns-clause-rest : goal.returns-clause-rest
returns-clause-rest g c =
    rw (← c.self.view_is) (λ other. after_update g.K.Named.bytes g.K.Ord.cmp (wait_of (name_of g.K.Named.bytes)) g.met.K.Digest.ordered c.self.inside.waits c.remove.new.self c.args.name.now _ c.remove.ensures.updates.0 other)
