use Rattle.std.proofs.Common.{arith, refl, sym}
use Rattle.mar_journal_stores.proofs.Asides.{one_inserted}
use Rattle.mar_journal_stores.proofs.aside.ranges_after.Goals as goal

pub places-preserved : goal.places-preserved
places-preserved g c = record {
  within = omega arith;
  ranges = one_inserted c.args.number c.args.gone.now c.places.place c.index-gone-place.result c.index-gone-place.result _ c.args.held.now c.places.may _ c.places-test.true (sym c.index-gone-place.is) refl c.places.invariant.ranges c.in_ok-insert_if.ensures;
}
