use Rattle.std.proofs.Common.{ap, sym, ◌∙◌}
use Rattle.std.proofs.lemmas.List.{drop-map}
use Rattle.mar_store.specs.Gaps.{ranges_from}
use Rattle.mar_store.specs.Spans.{range_of, ranges_of}
use Rattle.mar_store.proofs.Missing.{rest_whole}
use Rattle.mar_store.proofs.gaps.ranges_from.Goals as goal

pub returns : goal.returns
returns c =
    ap ranges_of (rest_whole c.place_from-place.result c.args.spans.now)
    ∙ (sym (drop-map range_of c.place_from-place.result c.args.spans.now) ∙ (c.place_from-place.ensures.rest ∙ ap (ranges_from (ranges_of c.args.spans.now)) c.get.ensures.value))
