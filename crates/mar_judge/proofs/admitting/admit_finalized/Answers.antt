use Rattle.std.proofs.Common.{subst, sym, ◌∙◌, ◌≡◌}
use Rattle.std.specs.Option.{IfSome, MatchOption}
use Rattle.mar_cert.specs.Finalization.{finalize}
use Rattle.mar_judge.specs.Groups.{claims_of}
use Rattle.mar_judge.specs.Found.{IsFinal, IsNotFinal}
use Rattle.mar_judge.proofs.Placed.{final_invalid, final_waits, is_scoped, opened}
use Rattle.mar_judge.proofs.admitting.admit_finalized.Goals as goal

pub add-requires-clause-open : goal.add-requires-clause-open
add-requires-clause-open g c =
    let read = subst (λ o. MatchOption o (IsNotFinal (g.J.Judge.rules c.args.judge.now) c.in-Some.epoch c.args.height c.args.bytes.now)
    (λ r. IsFinal (g.J.Judge.rules c.args.judge.now) c.in-Some.epoch c.args.height c.args.bytes.now (g.J.Judge.claimed r.0).certificate (g.J.Judge.plain r.1))) c.in-Some-2.is
    c.in_ok-claim.ensures.read in
    opened (λ s. s.now) c.enter.new.groups.items c.in_ok-group.group c.in-Some.epoch c.scope_in.result c.in_ok-group.ensures.placed c.scope_in.ensures c.in-Some-scope_in._scope _
    c.in-Some-scope_in.is read.epoch_is

pub returns-in_ok-place-in-Some-2-clause-kept : goal.returns-in_ok-place-in-Some-2-clause-kept
returns-in_ok-place-in-Some-2-clause-kept g c = λ n p claim at. c.in_ok-place-in-Some-2.ensures.kept n p claim (c.in_ok-group.ensures.kept n p claim at)

pub returns-in_ok-place-in-Some-2-clause-placed : goal.returns-in_ok-place-in-Some-2-clause-placed
returns-in_ok-place-in-Some-2-clause-placed g c = λ config annotations.
    let read = subst (λ o. MatchOption o (IsNotFinal (g.J.Judge.rules c.args.judge.now) c.in-Some.epoch c.args.height c.args.bytes.now)
    (λ r. IsFinal (g.J.Judge.rules c.args.judge.now) c.in-Some.epoch c.args.height c.args.bytes.now (g.J.Judge.claimed r.0).certificate (g.J.Judge.plain r.1))) c.in-Some-2.is
    c.in_ok-claim.ensures.read in
    let subject = subst (λ o. IfSome o (λ r. (g.J.Judge.claimed r.0).subject ≡ finalize)) c.in-Some-2.is c.in_ok-claim.ensures.subject in
    let scoped = is_scoped (λ s. s.now) c.enter.new.groups.items c.in_ok-group.group c.in-Some.epoch c.scope_in.result c.in_ok-group.ensures.placed c.scope_in.ensures
    g.J.Judge.claimed (g.J.Judge.judges c.args.judge.now) (g.J.Judge.rules c.args.judge.now).scoped c.in_ok-group.ensures.groups c.in-Some-scope_in._scope c.in-Some-scope_in.is in
    final_waits (g.J.Judge.rules c.args.judge.now) config (claims_of g.J.Judge.claimed c.add.new.groups.items) c.args.bytes.now annotations c.args.height c.in-Some.epoch
    c.in_ok-group.group c.in_ok-place-in-Some-2.place (g.J.Judge.claimed c.in-Some-2.claim) (g.J.Judge.plain c.in-Some-2.block)
    (sym c.epoch_of.ensures ∙ c.in-Some.is) scoped subject c.in_ok-place-in-Some-2.ensures.placed read

pub returns-in-None-clause-placed : goal.returns-in-None-clause-placed
returns-in-None-clause-placed g c = λ config annotations.
    let read = subst (λ o. MatchOption o (IsNotFinal (g.J.Judge.rules c.args.judge.now) c.in-Some.epoch c.args.height c.args.bytes.now)
    (λ r. IsFinal (g.J.Judge.rules c.args.judge.now) c.in-Some.epoch c.args.height c.args.bytes.now (g.J.Judge.claimed r.0).certificate (g.J.Judge.plain r.1))) c.in-None.is
    c.in_ok-claim.ensures.read in
    let scoped = is_scoped (λ s. s.now) c.enter.new.groups.items c.in_ok-group.group c.in-Some.epoch c.scope_in.result c.in_ok-group.ensures.placed c.scope_in.ensures
    g.J.Judge.claimed (g.J.Judge.judges c.args.judge.now) (g.J.Judge.rules c.args.judge.now).scoped c.in_ok-group.ensures.groups c.in-Some-scope_in._scope c.in-Some-scope_in.is in
    final_invalid (g.J.Judge.rules c.args.judge.now) config (claims_of g.J.Judge.claimed c.enter.new.groups.items) c.args.bytes.now annotations c.args.height c.in-Some.epoch (sym
    c.epoch_of.ensures ∙ c.in-Some.is) scoped read
