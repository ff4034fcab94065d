use Rattle.std.proofs.Common.{refl}
use Rattle.mar_judge.proofs.Grouped.{added_groups, added_kept, added_placed, ok_then, ok_with}
use Rattle.mar_judge.proofs.group.add.Goals as goal

pub returns-clause-groups : goal.returns-clause-groups
returns-clause-groups g c =
    ok_then c.push.result (added_groups g.J.Judge.claimed c.args.groups.now.items c.args.group _ c.requires.«open» c.index_mut.result.now _ c.args.claim c.index_mut.ensures.value refl refl refl
    (g.J.Judge.judges c.args.judge.now) (g.J.Judge.rules c.args.judge.now).scoped c.requires.groups) c.push.ensures.pushed

pub returns-clause-kept : goal.returns-clause-kept
returns-clause-kept g c =
    ok_then c.push.result (added_kept g.J.Judge.claimed c.args.groups.now.items c.args.group _ c.requires.«open» c.index_mut.result.now _ c.args.claim c.index_mut.ensures.value refl refl refl)
    c.push.ensures.pushed

pub returns-clause-placed : goal.returns-clause-placed
returns-clause-placed g c =
    ok_with c.push.result
    (λ place pushed is. added_placed g.J.Judge.claimed c.args.groups.now.items c.args.group _ c.requires.«open» c.index_mut.result.now _ c.args.claim c.index_mut.ensures.value refl refl refl
    place is pushed)
    c.push.ensures.pushed c.push.ensures.place
