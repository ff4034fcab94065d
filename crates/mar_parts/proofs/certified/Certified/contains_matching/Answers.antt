use Rattle.std.proofs.Common.{arith, false}
use Rattle.std.proofs.lemmas.List.Elements.{All-contains}
use Rattle.std.specs.Fn.{FnReturnsAt}
use Rattle.mar_parts.proofs.Known.{known_as}
use Rattle.mar_parts.proofs.certified.Certified.contains_matching.Goals as goal

pub returns-clause-found : goal.returns-clause-found
returns-clause-found g c =
    rw (← c.self.view_is, known_as c.self.inside.commitments c.self.inside.min c.args.height, ← c.get.ensures.value, ← c.in-Some.ensures.value, ← c.deref.ensures.value) c.has_matching.ensures.found

pub returns-clause-absent : goal.returns-clause-absent
returns-clause-absent g c =
    rw (← c.self.view_is, known_as c.self.inside.commitments c.self.inside.min c.args.height, ← c.get.ensures.value, ← c.in-Some.ensures.value, ← c.deref.ensures.value) (λ fails d has. All-contains (λ x. FnReturnsAt g.P.Fn c.args.predicate x false) _ d (c.has_matching.ensures.absent fails) has)

pub returns-in_default-clause-absent : goal.returns-in_default-clause-absent
returns-in_default-clause-absent g c =
    rw (← c.self.view_is, known_as c.self.inside.commitments c.self.inside.min c.args.height, ← c.get.ensures.value, ← c.in_default.ensures.value) (λ fails d has. absurd (omega (arith, has.1)))
