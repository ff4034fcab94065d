use Rattle.std.proofs.lemmas.List.{get_or_default}
use Rattle.mar_store.proofs.SpanEdits.{begins_there, follows_there}
use Rattle.mar_store.proofs.spans.begins_after.Goals as goal

pub returns-then-place-spans : goal.returns-then-place-spans
returns-then-place-spans c =
    let is = get_or_default c.args.spans.now c.args.place (record { from = 0; to = 0 }) _ c.if-place-spans.true in (
      λ test. begins_there c.args.spans.now c.args.place c.args.height _ c.if-place-spans.true is (c.follows.ensures.0 test),
      λ begins. c.follows.ensures.1 (follows_there c.args.spans.now c.args.place c.args.height _ c.if-place-spans.true is begins),
    )
