use Rattle.std.proofs.Common.{arith, refl}
use Rattle.mar_epochs.proofs.Indexing.{spot_step}
use Rattle.mar_epochs.proofs.logged_entry.index_of.Goals as goal

pub loop-place-preserved : goal.loop-place-preserved
loop-place-preserved g c = record {
  within = omega arith;
  found = λ k. spot_step g.E.AsEntry.plain (g.E.KeyedEntry.has k) c.args.items.now c.loop-place.place _ _ _ _ c.loop-place-test.true refl (c.loop-place.invariant.found k) (c.in_ok-note.ensures k);
}
