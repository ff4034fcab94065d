use Rattle.std.proofs.Common.{ap, length, rules, sym, ◌∙◌, ◌≡◌}
use Rattle.mar_cases.specs.Calls.{crashed}
use Rattle.mar_cases.proofs.Calls.{crash_is_as_long, elapses_push, narrows_crash, read_crash}
use Rattle.mar_cases.proofs.mem_disk.crash.Goals as goal

pub returns-clause-read : goal.returns-clause-read
returns-clause-read c =
    let same : c.in_ok-kept.kept.items ≡ c.in_ok-left.left.items = search rules in
    sym same ∙ read_crash c.args.first.now c.args.calls.now.items _ c.in_ok-kept.kept c.in_ok-push.ensures.items

pub returns-clause-size : goal.returns-clause-size
returns-clause-size c =
    let is : c.in_ok-left.left.items ≡ crashed c.args.luck 0 c.args.first.now c.args.first.now c.args.calls.now.items = c.in_ok-left.ensures ∙ ap (crashed c.args.luck 0 c.args.first.now c.args.first.now) c.deref.ensures.value in
    ap length is ∙ crash_is_as_long c.args.luck c.args.first.now c.args.calls.now.items ∙ ap length (sym c.requires)

pub returns-clause-crash : goal.returns-clause-crash
returns-clause-crash c =
    let is : c.in_ok-left.left.items ≡ crashed c.args.luck 0 c.args.first.now c.args.first.now c.args.calls.now.items = c.in_ok-left.ensures ∙ ap (crashed c.args.luck 0 c.args.first.now c.args.first.now) c.deref.ensures.value in
    let same : c.in_ok-kept.kept.items ≡ c.in_ok-left.left.items = search rules in
    narrows_crash c.args.luck c.args.first.now c.args.calls.now.items _ c.in_ok-kept.kept c.in_ok-push.ensures.items (same ∙ is)

pub returns-clause-time : goal.returns-clause-time
returns-clause-time c = elapses_push _ _ _ _ c.in_ok-push.ensures.items
