use Rattle.std.proofs.Common.{refl}
use Rattle.mar_parts.proofs.Known.{known_here}
use Rattle.mar_parts.proofs.certified.Certified.contains.Goals as goal

pub returns-in-Some : goal.returns-in-Some
returns-in-Some g c =
    rw (← c.self.view_is, known_here g.C.Named.bytes c.self.inside.commitments c.self.inside.min c.args.height (g.C.Named.bytes c.args.commitment.now), ← c.get.ensures.value, ← c.in-Some.ensures.value, ← c.deref.ensures.value) c.is_in.ensures

pub returns-in-None : goal.returns-in-None
returns-in-None g c =
    rw (← c.self.view_is, known_here g.C.Named.bytes c.self.inside.commitments c.self.inside.min c.args.height (g.C.Named.bytes c.args.commitment.now), ← c.get.ensures.value, ← c.in-None.ensures.value) refl
