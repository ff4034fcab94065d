use Rattle.std.proofs.Common.{arith, get_or}
use Rattle.std.proofs.lemmas.List.{get_or_default}
use Rattle.mar_store.proofs.Missing.{gathered_more, take_short}
use Rattle.mar_store.proofs.gaps.missing_below.Goals as goal

pub loop-span-preserved : goal.loop-span-preserved
loop-span-preserved c = record {
  room = rw c.in_ok-push_below.ensures (take_short _ _);
  gathered = gathered_more _ _ c.loop-span.span-index _ _ _ c.args.spans.now (get_or c.args.spans.now c.loop-span.span-index (record { from = 0; to = 0 })) _ _ c.loop-span-test.true
      (get_or_default c.args.spans.now c.loop-span.span-index (record { from = 0; to = 0 }) _ c.loop-span-test.true) (omega (arith, c.start_of.ensures, c.start_of.type_inv))
      (rw c.start_of.ensures at c.in_ok-push_below.ensures) (omega (arith, c.max-next.ensures, c.saturating_add.ensures)) c.loop-span.invariant.gathered;
}
