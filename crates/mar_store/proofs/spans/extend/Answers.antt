use Rattle.std.proofs.Common.{arith, ◌+◌}
use Rattle.std.proofs.lemmas.Bool.{both_ways}
use Rattle.mar_store.proofs.SpanEdits.{put_after, put_between, begins_within}
use Rattle.mar_store.proofs.spans.extend.Goals as goal

pub returns-then-begins_after-clause-ok : goal.returns-then-begins_after-clause-ok
returns-then-begins_after-clause-ok c =
    let begins = rw c.deref.ensures.value at (c.begins_after.ensures.0 c.if-begins_after.true) in
    rw c.remove-to.ensures.items (put_between c.args.spans.now.items c.args.place c.args.height c.index.result.now _ (begins_within c.args.spans.now.items (c.args.place + 1) c.args.height begins) c.index.ensures c.remove-to.ensures.value c.requires.followed begins)

pub returns-clause-ok : goal.returns-clause-ok
returns-clause-ok c =
    put_after c.args.spans.now.items c.args.place c.args.height _ (omega arith) c.index.ensures c.requires.followed
    (λ begins. both_ways c.begins_after.result c.if-begins_after.false (c.begins_after.ensures.1 (rw c.deref.ensures.value begins)))
