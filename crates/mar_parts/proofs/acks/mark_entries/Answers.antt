use Rattle.mar_model.specs.Acks.{is_unmarked}
use Rattle.mar_key.specs.Fronts.{entries_written, entry_written}
use Rattle.mar_parts.proofs.Entries.{entry_found}
use Rattle.mar_parts.proofs.acks.mark_entries.Goals as goal

pub loop-ack-preserved : goal.loop-ack-preserved
loop-ack-preserved c = record {
  marked = entry_written _ _ _ _ _ _ c.loop-ack.invariant.marked _ c.loop-ack-test.true c.set_mark-found.ensures.marked;
  found = entry_found _ _ _ _ _ c.ack-item.result c.loop-ack.invariant.marked (is_unmarked c.args.ticket) _ _ c.loop-ack-test.true c.loop-ack.invariant.found c.set_mark-found.ensures.found;
}

pub returns-clause-marked : goal.returns-clause-marked
returns-clause-marked c = entries_written _ _ _ _ _ c.loop-ack.invariant.marked c.loop-ack-test.false
