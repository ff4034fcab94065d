use Rattle.std.proofs.Common.{add-one, arith, ◌∙◌}
use Rattle.mar_store.proofs.PileSteps.{anew_first, anew_seen, same_length}
use Rattle.mar_store.proofs.pile.number_anew.Goals as goal

pub loop-place-preserved : goal.loop-place-preserved
loop-place-preserved g c =
    let are = anew_seen c.loop-place.items.items c.loop-place.place c.index_mut.result.now (omega arith) c.index_mut.ensures.value in
    record {
      within = omega (arith, same_length _ _ are);
      seen = are ∙ c.loop-place.invariant.seen;
      first = rw add-one (anew_first c.loop-place.items.items c.loop-place.place c.index_mut.result.now (omega arith) c.loop-place.invariant.first);
    }
