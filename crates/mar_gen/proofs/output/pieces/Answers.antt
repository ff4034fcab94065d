use Rattle.std.proofs.Common.{[], ap, drop, ◌++◌, ◌∙◌, ◌∷◌}
use Rattle.std.proofs.lemmas.List.{map-append}
use Rattle.mar_gen.specs.Output.{seen}
use Rattle.mar_gen.proofs.Cuts.{cut_last, cut_more}
use Rattle.mar_gen.proofs.output.pieces.Goals as goal

pub loop-place-preserved : goal.loop-place-preserved
loop-place-preserved c =
    cut_more c.args.at (seen c.loop-place.found.items) _ c.args.text.now c.loop-place.rest.now _ c.in-Some.place c.in-Some.ensures c.loop-place.invariant (c.split_at-in-Some.ensures.back ∙ ap (drop 1) c.split_at.ensures.back)
    (ap seen c.in_ok-push.ensures.items ∙ map-append (λ t. t.now) c.loop-place.found.items (c.split_at.result.0 ∷ []) ∙ ap (λ p. seen c.loop-place.found.items ++ p ∷ []) c.split_at.ensures.front)

pub returns : goal.returns
returns c =
    cut_last c.args.at (seen c.loop-place.found.items) _ c.args.text.now c.loop-place.rest.now c.in_default.ensures c.loop-place.invariant
    (ap seen c.in_ok-push-2.ensures.items ∙ map-append (λ t. t.now) c.loop-place.found.items (c.loop-place.rest ∷ []))
