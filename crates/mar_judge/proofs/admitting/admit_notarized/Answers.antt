use Rattle.std.proofs.Common.{IsTrue, ap, drop, subst, sym, ◌∙◌, ◌≡◌}
use Rattle.std.specs.Option.{IfSome, MatchOption}
use Rattle.mar_cert.specs.Finalization.{notarize}
use Rattle.mar_judge.specs.Groups.{claims_of}
use Rattle.mar_judge.specs.Found.{IsNotNotarized, IsNotarized}
use Rattle.mar_judge.proofs.Placed.{is_scoped, notarized_invalid, notarized_waits, opened}
use Rattle.mar_judge.proofs.admitting.admit_notarized.Goals as goal

pub add-requires-clause-open : goal.add-requires-clause-open
add-requires-clause-open g c =
    let read = subst (λ o. MatchOption o (IsNotNotarized (g.J.Judge.rules c.args.judge.now) c.args.round c.args.value.now)
    (λ r. IsNotarized (g.J.Judge.rules c.args.judge.now) c.args.round c.args.value.now (g.J.Judge.claimed r.0).certificate (drop r.1 c.args.value.now))) c.in-Some-2.is (subst
    (λ bs. MatchOption c.in_ok-claim.field-0 (IsNotNotarized (g.J.Judge.rules c.args.judge.now) c.args.round bs)
    (λ r. IsNotarized (g.J.Judge.rules c.args.judge.now) c.args.round bs (g.J.Judge.claimed r.0).certificate (drop r.1 bs))) c.as_slice.ensures c.in_ok-claim.ensures.read) in
    opened (λ s. s.now) c.enter.new.groups.items c.in_ok-group.group c.epoch.result c.scope_in.result c.in_ok-group.ensures.placed c.scope_in.ensures c.in-Some.scope _ c.in-Some.is (ap
    (λ r. r.epoch) read.round_is ∙ sym c.epoch.ensures)

pub returns-in_ok-place-in-Some-2-clause-kept : goal.returns-in_ok-place-in-Some-2-clause-kept
returns-in_ok-place-in-Some-2-clause-kept g c = λ n p claim at. c.in_ok-place-in-Some-2.ensures.kept n p claim (c.in_ok-group.ensures.kept n p claim at)

pub returns-in_ok-place-in-Some-2-clause-placed : goal.returns-in_ok-place-in-Some-2-clause-placed
returns-in_ok-place-in-Some-2-clause-placed g c = λ config annotations.
    let read = subst (λ o. MatchOption o (IsNotNotarized (g.J.Judge.rules c.args.judge.now) c.args.round c.args.value.now)
    (λ r. IsNotarized (g.J.Judge.rules c.args.judge.now) c.args.round c.args.value.now (g.J.Judge.claimed r.0).certificate (drop r.1 c.args.value.now))) c.in-Some-2.is (subst
    (λ bs. MatchOption c.in_ok-claim.field-0 (IsNotNotarized (g.J.Judge.rules c.args.judge.now) c.args.round bs)
    (λ r. IsNotarized (g.J.Judge.rules c.args.judge.now) c.args.round bs (g.J.Judge.claimed r.0).certificate (drop r.1 bs))) c.as_slice.ensures c.in_ok-claim.ensures.read) in
    let subject = subst (λ o. IfSome o (λ r. (g.J.Judge.claimed r.0).subject ≡ notarize)) c.in-Some-2.is c.in_ok-claim.ensures.subject in
    let scoped = subst (λ e. IsTrue ((g.J.Judge.rules c.args.judge.now).scoped e)) c.epoch.ensures (is_scoped (λ s. s.now) c.enter.new.groups.items c.in_ok-group.group c.epoch.result
    c.scope_in.result c.in_ok-group.ensures.placed c.scope_in.ensures
    g.J.Judge.claimed (g.J.Judge.judges c.args.judge.now) (g.J.Judge.rules c.args.judge.now).scoped c.in_ok-group.ensures.groups c.in-Some.scope c.in-Some.is) in
    let rest = c.advance.ensures ∙ ap (drop c.in-Some-2.size) c.in_ok-rest-in-Some-2.ensures.cases in
    notarized_waits (g.J.Judge.rules c.args.judge.now) config (claims_of g.J.Judge.claimed c.add.new.groups.items) c.args.value.now annotations c.args.round c.in_ok-group.group
    c.in_ok-place-in-Some-2.place (g.J.Judge.claimed c.in-Some-2.claim) c.advance.new.self
    scoped subject c.in_ok-place-in-Some-2.ensures.placed (subst (λ bs. IsNotarized (g.J.Judge.rules c.args.judge.now) c.args.round c.args.value.now (g.J.Judge.claimed
    c.in-Some-2.claim).certificate bs) (sym rest) read)

pub returns-in-None-clause-placed : goal.returns-in-None-clause-placed
returns-in-None-clause-placed g c = λ config annotations.
    let read = subst (λ o. MatchOption o (IsNotNotarized (g.J.Judge.rules c.args.judge.now) c.args.round c.args.value.now)
    (λ r. IsNotarized (g.J.Judge.rules c.args.judge.now) c.args.round c.args.value.now (g.J.Judge.claimed r.0).certificate (drop r.1 c.args.value.now))) c.in-None.is (subst
    (λ bs. MatchOption c.in_ok-claim.field-0 (IsNotNotarized (g.J.Judge.rules c.args.judge.now) c.args.round bs)
    (λ r. IsNotarized (g.J.Judge.rules c.args.judge.now) c.args.round bs (g.J.Judge.claimed r.0).certificate (drop r.1 bs))) c.as_slice.ensures c.in_ok-claim.ensures.read) in
    let scoped = subst (λ e. IsTrue ((g.J.Judge.rules c.args.judge.now).scoped e)) c.epoch.ensures (is_scoped (λ s. s.now) c.enter.new.groups.items c.in_ok-group.group c.epoch.result
    c.scope_in.result c.in_ok-group.ensures.placed c.scope_in.ensures
    g.J.Judge.claimed (g.J.Judge.judges c.args.judge.now) (g.J.Judge.rules c.args.judge.now).scoped c.in_ok-group.ensures.groups c.in-Some.scope c.in-Some.is) in
    notarized_invalid (g.J.Judge.rules c.args.judge.now) config (claims_of g.J.Judge.claimed c.enter.new.groups.items) c.args.value.now annotations c.args.round scoped read
