use Rattle.std.proofs.Common.{ap, filter, not, ◌∙◌}
use Rattle.mar_inbox.specs.Policy.{is_stale}
use Rattle.mar_inbox.proofs.Turns.{leaves_both, pruned}
use Rattle.mar_inbox.proofs.others.Others.drop_stale.Goals as goal

pub drop_reads-requires-clause-read : goal.drop_reads-requires-clause-read
drop_reads-requires-clause-read g c = c.drop_hints.ensures.leaves.read c.self.inside.reads c.self.invariant.read

pub invariant_of-self : goal.invariant_of-self
invariant_of-self g c = record {
  rising = c.drop_reads.ensures.leaves.rising (c.drop_hints.ensures.leaves.rising c.self.invariant.rising);
  below = c.drop_reads.ensures.leaves.below _ (c.drop_hints.ensures.leaves.below _ c.self.invariant.below);
  hinted = c.drop_reads.ensures.leaves.hinted c.drop_hints.new.hints c.drop_hints.ensures.hinted;
  read = c.drop_reads.ensures.read;
}

pub returns : goal.returns
returns g c =
    pruned g.M.Letter.plain c.args.prune c.self.inside.entries.entries c.drop_reads.new.entries.entries
    (leaves_both g.M.Letter.plain c.args.prune _ c.drop_hints.new.entries.entries _ c.drop_hints.ensures.leaves c.drop_reads.ensures.leaves)
    (c.drop_reads.ensures.leaves.hints_above c.drop_hints.ensures.above) c.drop_reads.ensures.from
    ∙ ap (filter (λ q. not (is_stale c.args.prune q.message))) c.self.view_is
