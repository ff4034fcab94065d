use Rattle.mar_store.specs.Choices.{stays}
use Rattle.mar_store.proofs.Chosen.{chosen_once, chosen_named, chosen_fits, chosen_ascend, chosen_all}
use Rattle.mar_store.proofs.pile.Pile.keep.Goals as goal

pub invariant_of-result : goal.invariant_of-result
invariant_of-result g c =
    let are = c.take_out.ensures in
    let p = stays c.args.choice in
    record {
      within = rw are c.requires.within;
      once = rw are (chosen_once p 0 c.args.self.items.items c.args.self.once);
      named = rw are (chosen_named g.T.Item.name p 0 c.args.self.items.items c.args.self.named);
      fits = rw are (chosen_fits g.T.Item.fits p 0 c.args.self.items.items c.args.self.fits);
      ascend = rw are (chosen_ascend p 0 c.args.self.items.items c.args.self.ascend);
      upto = rw are (chosen_all _ p 0 c.args.self.items.items c.args.self.upto);
      counted = rw are (chosen_all _ p 0 c.args.self.items.items c.args.self.counted);
      held_is = rw are c.requires.held;
      sure_is = rw are c.requires.sure;
    }
