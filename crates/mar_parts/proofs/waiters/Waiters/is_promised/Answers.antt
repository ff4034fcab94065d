use Rattle.std.proofs.Common.{refl, rules}
use Rattle.mar_parts.specs.WaitViews.{name_of, wait_of}
use Rattle.mar_parts.proofs.ByName.{named}
use Rattle.mar_parts.proofs.waiters.Waiters.is_promised.Goals as goal

pub returns-in-Some : goal.returns-in-Some
returns-in-Some g c =
    rw (← c.self.view_is, named g.K.Named.bytes g.K.Ord.cmp (wait_of (name_of g.K.Named.bytes)) g.met.K.Digest.ordered c.args.name.now c.self.inside.waits.entries, ← c.in-Some.ensures.value) (search rules)

pub returns-in-None : goal.returns-in-None
returns-in-None g c =
    rw (← c.self.view_is, named g.K.Named.bytes g.K.Ord.cmp (wait_of (name_of g.K.Named.bytes)) g.met.K.Digest.ordered c.args.name.now c.self.inside.waits.entries, ← c.in-None.ensures.value) refl
