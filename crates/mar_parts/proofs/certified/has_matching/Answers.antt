use Rattle.std.proofs.Common.{false, sym}
use Rattle.std.proofs.lemmas.Fn.{says_at}
use Rattle.std.proofs.lemmas.List.{take_all}
use Rattle.std.proofs.lemmas.List.Elements.{All-more}
use Rattle.std.specs.Fn.{FnReturnsAt}
use Rattle.mar_parts.proofs.certified.has_matching.Goals as goal

pub returns-then-predicate-clause-found : goal.returns-then-predicate-clause-found
returns-then-predicate-clause-found g c = λ passes.
    (c.commitment-item.result, (c.loop-commitment.commitment-index, c.loop-commitment-test.true, sym c.commitment-item.is), says_at g.P.Fn c.predicate.ensures c.if-predicate.true)

pub loop-commitment-preserved : goal.loop-commitment-preserved
loop-commitment-preserved g c =
    All-more (λ y. FnReturnsAt g.P.Fn c.args.predicate y false) c.args.known.now c.loop-commitment.commitment-index c.commitment-item.result c.loop-commitment-test.true c.loop-commitment.invariant
    (rw (← c.commitment-item.is) (says_at g.P.Fn c.predicate.ensures c.if-predicate.false))

pub returns-clause-absent : goal.returns-clause-absent
returns-clause-absent g c = λ fails. rw (take_all c.loop-commitment.commitment-index c.args.known.now c.loop-commitment-test.false) at c.loop-commitment.invariant
