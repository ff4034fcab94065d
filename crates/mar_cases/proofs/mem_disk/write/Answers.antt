use Rattle.std.proofs.Common.{ap, arith, length, rules, ◌∙◌, ◌≡◌}
use Rattle.mar_cases.specs.Calls.{overwritten}
use Rattle.mar_cases.specs.CallLemmas.{length-overwritten}
use Rattle.mar_cases.proofs.Calls.{elapses_push, follows_write, read_write}
use Rattle.mar_cases.proofs.mem_disk.write.Goals as goal

pub returns-clause-read : goal.returns-clause-read
returns-clause-read c =
    let same : c.in_ok-kept.kept.items ≡ c.args.bytes.now = search rules in
    λ first was. read_write first c.args.seen.now.items c.in_ok-next.next.items c.args.calls.now.items _ c.args.at c.in_ok-kept.kept c.args.bytes.now c.in_ok-push.ensures.items same (c.in_ok-next.ensures ∙ ap (λ l. overwritten l c.args.at c.args.bytes.now) c.deref.ensures.value) was

pub returns-clause-size : goal.returns-clause-size
returns-clause-size c = omega (arith, ap length c.in_ok-next.ensures, ap length (ap (λ l. overwritten l c.args.at c.args.bytes.now) c.deref.ensures.value), length-overwritten c.args.seen.now.items c.args.at c.args.bytes.now)

pub returns-clause-crash : goal.returns-clause-crash
returns-clause-crash c =
    let same : c.in_ok-kept.kept.items ≡ c.args.bytes.now = search rules in
    λ first. follows_write first c.args.calls.now.items _ c.args.at c.in_ok-kept.kept c.args.bytes.now c.in_ok-push.ensures.items same

pub returns-clause-time : goal.returns-clause-time
returns-clause-time c = λ first. elapses_push first _ _ _ c.in_ok-push.ensures.items
