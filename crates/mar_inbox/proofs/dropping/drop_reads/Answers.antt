use Rattle.mar_inbox.proofs.Turns.{drops, leaves_fewer, read_dropped, reads_from}
use Rattle.mar_inbox.proofs.dropping.drop_reads.Goals as goal

pub loop-height-preserved : goal.loop-height-preserved
loop-height-preserved g c = rw c.drop_at.ensures (record {
  leaves = leaves_fewer g.M.Letter.plain c.args.prune _ _ c.in-Some.turn c.loop-height.invariant.rising c.loop-height.invariant.leaves;
  rising = (drops g.M.Letter.plain c.args.prune c.in-Some.turn _ c.loop-height.invariant.rising).rising;
  read = read_dropped g.M.Letter.plain c.args.prune _ c.loop-height.reads c.remove.new.self c.in-Some.height c.in-Some.turn c.loop-height.invariant.rising c.in-Some.ensures.stands.0
      c.remove.ensures.updates.0 c.loop-height.invariant.read;
})

pub returns-clause-from : goal.returns-clause-from
returns-clause-from g c = reads_from g.M.Letter.plain c.args.prune _ c.loop-height.reads c.in_default.ensures.none c.loop-height.invariant.read
