use Rattle.mar_store.proofs.SpanEdits.{ordered, ascend_after_call}
use Rattle.mar_store.proofs.range_set.RangeSet.insert.Goals as goal

pub widen-requires-clause-ascend : goal.widen-requires-clause-ascend
widen-requires-clause-ascend c = ordered 0 _ c.self.invariant

pub invariant_of-self : goal.invariant_of-self
invariant_of-self c =
    ascend_after_call c.widen.result c.args.height _ c.self.inside.spans.items c.widen.new.spans.items c.self.invariant (rw c.deref.ensures.value at c.place_of-place.ensures.apart) c.widen.ensures.ok c.widen.ensures.err
