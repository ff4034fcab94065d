use Rattle.std.proofs.Common.{arith}
use Rattle.mar_epochs.proofs.Indexing.{copies_step}
use Rattle.mar_epochs.proofs.logged_entry.copies_of.Goals as goal

pub loop-place-preserved : goal.loop-place-preserved
loop-place-preserved g c = record {
  within = omega arith;
  copied = copies_step g.E.AsEntry.plain c.args.items.now c.loop-place.copies.items _ c.loop-place.place _ _ _ c.loop-place-test.true c.index-items-place.is c.loop-place.invariant.copied c.in_ok-copy.ensures c.in_ok-push.ensures.items;
}
