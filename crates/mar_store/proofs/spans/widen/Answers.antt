use Rattle.std.proofs.Common.{arith, ◌<◌, length}
use Rattle.mar_store.proofs.SpanEdits.{put_before, put_within, followed_there, alone_there, reached_there, ordered_there}
use Rattle.mar_store.proofs.spans.widen.Goals as goal

pub insert_alone-requires-then-not-follows-clause-alone :
    goal.insert_alone-requires-then-not-follows-clause-alone
insert_alone-requires-then-not-follows-clause-alone c =
    alone_there c.args.spans.now.items c.args.place c.args.height c.index-span.result.now (omega arith) c.index-span.ensures (grind arith)

pub extend-requires-clause-followed : goal.extend-requires-clause-followed
extend-requires-clause-followed c =
    let there : c.args.place < length c.args.spans.now.items = omega arith in
    let reached = reached_there _ _ _ c.index-span.result.now there c.index-span.ensures c.requires.reached in
    followed_there c.args.spans.now.items c.args.place c.args.height c.index-span.result.now there c.index-span.ensures (ordered_there _ _ _ there c.index-span.ensures c.requires.ascend) (omega arith)

pub returns-else-not-follows-clause-ok : goal.returns-else-not-follows-clause-ok
returns-else-not-follows-clause-ok c = put_before _ _ _ _ (omega arith) c.index-span.ensures (c.follows.ensures.0 c.if-not-follows.false)

pub returns-else-height-span-2-clause-ok : goal.returns-else-height-span-2-clause-ok
returns-else-height-span-2-clause-ok c =
    put_within c.args.spans.now.items c.args.place c.args.height c.index-span.result.now (omega arith) c.index-span.ensures (omega arith) (omega arith)
