use Rattle.std.proofs.Common.{◌∙◌, ap, arith, sym}
use Rattle.mar_store.proofs.SpanEdits.{ascend_with, ordered}
use Rattle.mar_store.proofs.PileSteps.{widened_more}
use Rattle.mar_store.proofs.spans.widen_by.Goals as goal

pub widen-requires-clause-ascend : goal.widen-requires-clause-ascend
widen-requires-clause-ascend g c = ordered 0 _ c.loop-place.invariant.ascend

pub loop-place-preserved : goal.loop-place-preserved
loop-place-preserved g c =
    let step = c.in_ok-widen.ensures.ok ∙ sym (rw c.deref.ensures.value at c.place_of-at.ensures.apart) in
    record {
      within = omega arith;
      room = omega (arith, c.in_ok-widen.ensures.len, c.in_ok-widen.ensures.capacity, c.loop-place.invariant.room);
      ascend = rw step (ascend_with 0 _ _ c.loop-place.invariant.ascend (omega arith));
      ranges = widened_more c.args.entries.now c.loop-place.place _ c.index-entries-place.result _ _ _ c.loop-place-test.true c.index-entries-place.is (ap (λ e. e.index) c.index-entries-place.is) c.loop-place.invariant.ranges step;
    }
