use Rattle.std.proofs.Common.{ap, drop, take, ◌-◌}
use Rattle.mar_store.proofs.PileSteps.{sure_all}
use Rattle.mar_store.proofs.pile.Pile.keep_sure.Goals as goal

pub invariant_of-result : goal.invariant_of-result
invariant_of-result g c = record {
  within = c.requires.within;
  once = c.args.self.once;
  named = c.args.self.named;
  fits = c.args.self.fits;
  ascend = c.args.self.ascend;
  upto = c.args.self.upto;
  counted = c.args.self.counted;
  held_is = c.args.self.held_is;
  sure_is = sure_all c.args.self.items.items _ c.args.self.synced c.args.until _ _ c.requires.from (ap (λ es. take (c.args.until - c.args.self.synced) (drop c.args.self.synced es)) c.deref.ensures.value) c.args.self.sure_is c.in-Ok.ensures.ok;
}
