use Rattle.mar_epochs.specs.EntryLogs.{logged_of}
use Rattle.mar_epochs.proofs.Draws.{bit_written, draw_written, draws_written}
use Rattle.mar_epochs.proofs.logged_entry.draw.Goals as goal

pub loop-logged-preserved : goal.loop-logged-preserved
loop-logged-preserved g c = record {
  drawn = draw_written (logged_of g.E.AsEntry.plain) _ _ _ _ _ _ _ c.loop-logged.invariant.drawn c.loop-logged.invariant.bit c.loop-logged-test.true _ c.draw_one-bit.ensures.drawn;
  bit = bit_written (logged_of g.E.AsEntry.plain) _ _ _ _ _ _ _ c.loop-logged.invariant.drawn c.loop-logged.invariant.bit c.loop-logged-test.true _ c.draw_one-bit.ensures.next;
  small = c.draw_one-bit.ensures.small;
}

pub returns : goal.returns
returns g c = draws_written _ _ _ _ _ _ c.loop-logged.invariant.drawn c.loop-logged-test.false
