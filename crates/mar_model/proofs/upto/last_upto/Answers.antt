use Rattle.std.proofs.Common.{ap, drop, fold, sym, ◌∙◌, ◌+◌}
use Rattle.std.proofs.lemmas.List.{get_or_default}
use Rattle.mar_store.specs.Spans.{ranges_of}
use Rattle.mar_store.proofs.SpanEdits.{at_place}
use Rattle.mar_model.specs.Newest.{upto_in}
use Rattle.mar_model.proofs.upto.last_upto.Goals as goal

pub loop-span-preserved : goal.loop-span-preserved
loop-span-preserved c =
    c.loop-span.invariant
    ∙ (ap (fold (λ o r. upto_in o r c.args.height) c.loop-span.found) (at_place c.args.spans.now c.loop-span.span-index _ c.loop-span-test.true (get_or_default c.args.spans.now c.loop-span.span-index (record { from = 0; to = 0 }) _ c.loop-span-test.true))
    ∙ ap (λ o. fold (λ p r. upto_in p r c.args.height) o (drop (c.loop-span.span-index + 1) (ranges_of c.args.spans.now))) (sym c.newer-found.ensures))
