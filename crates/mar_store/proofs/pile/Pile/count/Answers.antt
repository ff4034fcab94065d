use Rattle.std.proofs.Common.{arith}
use Rattle.mar_store.proofs.PileSteps.{count_counted, count_upto}
use Rattle.mar_store.proofs.pile.Pile.count.Goals as goal

pub invariant_of-result : goal.invariant_of-result
invariant_of-result g c = record {
  within = c.args.self.within;
  once = c.args.self.once;
  named = c.args.self.named;
  fits = c.args.self.fits;
  ascend = c.args.self.ascend;
  upto = count_upto c.args.self.items.items _ _ c.saturating_add.ensures (omega arith) c.args.self.upto;
  counted = count_counted c.args.self.items.items _ _ c.saturating_add.ensures (omega arith) c.args.self.counted;
  held_is = c.args.self.held_is;
  sure_is = c.args.self.sure_is;
}
