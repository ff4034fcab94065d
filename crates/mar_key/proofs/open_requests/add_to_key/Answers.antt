use Rattle.std.proofs.Common.{ap, get_or, map, sym, ◌∙◌}
use Rattle.std.proofs.lemmas.Result.{err_from_is_err_and}
use Rattle.mar_key.specs.Recorded.{asked_of}
use Rattle.mar_key.specs.Views.{annotation_of, key_of}
use Rattle.mar_key.proofs.OpenKeys.{asked_for, entry_same, key_found, key_other, set_same}
use Rattle.mar_key.proofs.open_requests.add_to_key.Goals as goal

pub returns-then-found-clause-ok : goal.returns-then-found-clause-ok
returns-then-found-clause-ok g c =
    key_found _ _ (asked_of g.D.Named.bytes) _ _ _ c.asked-item.result c.loop-asked.invariant.same c.loop-asked.invariant.passed c.loop-asked-test.true (sym c.same_key-found.ensures ∙ c.if-found.true) _
    (ap (asked_for (key_of g.D.Named.bytes (get_or c.loop-asked.keys c.loop-asked.asked-index c.asked-item.result).key)) c.in_ok-add_annotation.ensures.ok)

pub loop-asked-preserved : goal.loop-asked-preserved
loop-asked-preserved g c = record {
  same = set_same _ _ c.asked-item.result ∙ c.loop-asked.invariant.same;
  passed = key_other _ _ (asked_of g.D.Named.bytes) _ _ _ c.asked-item.result c.loop-asked.invariant.same c.loop-asked.invariant.passed c.loop-asked-test.true (sym c.same_key-found.ensures ∙ c.if-found.false);
}

pub returns-in_err-add_annotation-clause-err : goal.returns-in_err-add_annotation-clause-err
returns-in_err-add_annotation-clause-err g c =
    let p = err_from_is_err_and c.from_residual.result c.from_residual.ensures.1 in
    rw p.1 (entry_same (asked_of g.D.Named.bytes) _ _ c.loop-asked.asked-index _ c.asked-item.result c.loop-asked.invariant.same
    (ap (λ items. asked_for (key_of g.D.Named.bytes (get_or c.loop-asked.keys c.loop-asked.asked-index c.asked-item.result).key) (map annotation_of items)) c.in_err-add_annotation.ensures.err))
