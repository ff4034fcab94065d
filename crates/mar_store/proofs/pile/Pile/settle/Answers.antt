use Rattle.std.proofs.Common.{ap, arith, length, sym}
use Rattle.mar_store.proofs.FrontPlaces.{front_stays}
use Rattle.mar_store.proofs.Settled.{sure_stay}
use Rattle.mar_store.proofs.pile.Pile.settle.Goals as goal

pub returns-then-self-as_slice-clause-items : goal.returns-then-self-as_slice-clause-items
returns-then-self-as_slice-clause-items g c = sym (sure_stay c.args.half c.args.self.synced 0 c.args.self.items.items (omega (arith, c.if-self-as_slice.true, ap length c.as_slice.ensures.value)))

pub keep-requires-clause-stay : goal.keep-requires-clause-stay
keep-requires-clause-stay g c = front_stays c.args.half c.args.self.synced c.args.self.items.items c.args.self.within
