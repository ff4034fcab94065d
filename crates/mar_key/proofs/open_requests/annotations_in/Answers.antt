use Rattle.std.proofs.Common.{ap, map, sym, ◌∙◌}
use Rattle.mar_key.specs.Recorded.{asked_of}
use Rattle.mar_key.specs.Views.{annotation_of}
use Rattle.mar_key.proofs.OpenKeys.{annotations_found, annotations_other}
use Rattle.mar_key.proofs.open_requests.annotations_in.Goals as goal

pub loop-asked-preserved : goal.loop-asked-preserved
loop-asked-preserved g c = annotations_other _ (asked_of g.D.Named.bytes) _ _ c.asked-item.result c.asked-item.is c.loop-asked.invariant c.loop-asked-test.true (sym c.same_key-found.ensures ∙ c.if-found.false)

pub returns-then-found : goal.returns-then-found
returns-then-found g c =
    ap (map annotation_of) c.as_slice.ensures.value
    ∙ annotations_found _ (asked_of g.D.Named.bytes) _ _ c.asked-item.result c.asked-item.is c.loop-asked.invariant c.loop-asked-test.true (sym c.same_key-found.ensures ∙ c.if-found.true)
