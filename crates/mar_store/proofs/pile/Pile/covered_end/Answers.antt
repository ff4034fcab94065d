use Rattle.std.proofs.Common.{arith}
use Rattle.mar_store.proofs.Covered.{covered_more, none_after}
use Rattle.mar_store.proofs.pile.Pile.covered_end.Goals as goal

pub loop-place-preserved : goal.loop-place-preserved
loop-place-preserved g c = record {
  from = omega (arith, c.loop-place.invariant.from);
  within = omega arith;
  before = covered_more c.args.number c.args.self.now.items.items c.args.self.now.synced c.loop-place.place c.index.result.now c.loop-place.invariant.from (omega arith) (rw c.index.ensures at (rw c.covers.ensures at c.if-not-covers.false)) c.loop-place.invariant.before;
}

pub returns-then-not-covers-clause-after : goal.returns-then-not-covers-clause-after
returns-then-not-covers-clause-after g c =
    none_after c.args.number c.args.self.now.items.items c.loop-place.place c.index.result.now c.args.self.now.ascend (omega arith) (rw c.index.ensures at (rw c.covers.ensures at c.if-not-covers.true))
