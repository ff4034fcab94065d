use Rattle.std.proofs.Common.{refl, subst, sym}
use Rattle.mar_judge.specs.Groups.{KeepsClaims, claims_of}
use Rattle.mar_judge.proofs.Grouped.{entered, kept_pushed, ok_then, ok_with}
use Rattle.mar_judge.proofs.group.enter.Goals as goal

pub returns-in-None-clause-kept : goal.returns-in-None-clause-kept
returns-in-None-clause-kept g c =
    ok_then c.push.result (λ pushed. subst (λ xs. KeepsClaims (claims_of g.J.Judge.claimed c.args.groups.now.items) (claims_of g.J.Judge.claimed xs)) (sym pushed)
    (kept_pushed g.J.Judge.claimed c.args.groups.now.items _)) c.push.ensures.pushed

pub returns-in-None-clause-placed : goal.returns-in-None-clause-placed
returns-in-None-clause-placed g c =
    ok_with c.push.result (λ place pushed is. entered c.args.groups.now.items _ _ place c.args.epoch pushed is refl) c.push.ensures.pushed c.push.ensures.place
