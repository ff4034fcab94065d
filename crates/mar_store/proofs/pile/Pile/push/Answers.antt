use Rattle.std.proofs.Common.{arith}
use Rattle.mar_store.proofs.PileSteps.{push_within, push_once, push_named, push_fits, push_ascend, push_upto, push_counted, push_held, push_sure}
use Rattle.mar_store.proofs.pile.Pile.push.Goals as goal

pub invariant_of-result : goal.invariant_of-result
invariant_of-result g c =
    let are = c.in-Ok.ensures.items in
    record {
      within = push_within c.args.self.items.items _ _ _ c.args.self.within are;
      once = push_once g.T.Item.name c.args.self.items.items _ _ are c.requires.free c.args.self.once;
      named = push_named g.T.Item.name c.args.self.items.items _ _ are c.requires.free c.args.self.named;
      fits = push_fits g.T.Item.fits c.args.self.items.items _ _ are c.requires.fits c.args.self.fits;
      ascend = push_ascend c.args.self.items.items _ _ are c.args.self.ascend c.args.self.upto;
      upto = push_upto c.args.self.items.items _ _ _ are c.saturating_add.ensures (omega arith) c.args.self.upto;
      counted = push_counted c.args.self.items.items _ _ _ are c.saturating_add.ensures (omega arith) c.args.self.counted;
      held_is = push_held c.args.self.items.items _ _ _ _ are c.args.self.held_is c.in-Ok.ensures.held;
      sure_is = push_sure c.args.self.items.items _ _ _ _ c.args.self.within are c.args.self.sure_is;
    }
