use Rattle.mar_inbox.proofs.Turns.{drops, hint_dropped, hints_above, leaves_fewer}
use Rattle.mar_inbox.proofs.dropping.drop_hints.Goals as goal

pub loop-height-preserved : goal.loop-height-preserved
loop-height-preserved g c = rw c.drop_at.ensures (record {
  leaves = leaves_fewer g.M.Letter.plain c.args.prune _ _ c.in-Some.turn c.loop-height.invariant.rising c.loop-height.invariant.leaves;
  rising = (drops g.M.Letter.plain c.args.prune c.in-Some.turn _ c.loop-height.invariant.rising).rising;
  hinted = hint_dropped g.M.Letter.plain c.args.prune _ c.loop-height.hints c.remove.new.self c.in-Some.height c.in-Some.turn c.loop-height.invariant.rising c.in-Some.ensures.stands.0 c.in-Some.ensures.stands.1
      c.remove.ensures.updates.0 c.loop-height.invariant.hinted;
})

pub returns-clause-above : goal.returns-clause-above
returns-clause-above g c = hints_above g.M.Letter.plain c.args.prune _ c.loop-height.hints c.in_default.ensures.none c.loop-height.invariant.hinted
