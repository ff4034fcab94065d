use Rattle.std.proofs.Common.{arith}
use Rattle.mar_store.proofs.PileSteps.{first_ascend, first_upto, first_counted, same_length}
use Rattle.mar_store.proofs.pile.Pile.restart.Goals as goal

pub invariant_of-result : goal.invariant_of-result
invariant_of-result g c =
    let are = c.number_anew.ensures.seen in
    let first = c.number_anew.ensures.first in
    record {
      within = omega (arith, same_length _ _ are, c.args.self.within);
      once = rw are c.args.self.once;
      named = rw are c.args.self.named;
      fits = rw are c.args.self.fits;
      ascend = first_ascend _ first;
      upto = first_upto _ _ first;
      counted = first_counted _ _ (λ some. omega (arith, some)) first;
      held_is = rw are c.args.self.held_is;
      sure_is = rw are c.args.self.sure_is;
    }
