use Rattle.std.proofs.Common.{ap, map, ◌∙◌}
use Rattle.std.proofs.lemmas.Result.{err_from_is_err_and}
use Rattle.mar_key.specs.Recorded.{asked_of}
use Rattle.mar_key.proofs.OpenKeys.{slice_written}
use Rattle.mar_key.proofs.open_requests.add_fetch.Goals as goal

pub returns-in_err-annotations-clause-err : goal.returns-in_err-annotations-clause-err
returns-in_err-annotations-clause-err g c =
    let p = err_from_is_err_and c.from_residual-in_err-annotations.result c.from_residual-in_err-annotations.ensures.1 in
    rw p.1 (slice_written (asked_of g.D.Named.bytes) _ _ _ _ _ (c.add_to_key.auto.keys ∙ c.as_mut_slice.ensures.len) (c.in_ok-found.ensures.absent c.if-not-found.true) c.as_mut_slice.ensures.value)

pub returns-in_err-push-clause-err : goal.returns-in_err-push-clause-err
returns-in_err-push-clause-err g c =
    let p = err_from_is_err_and c.from_residual-in_err-push.result c.from_residual-in_err-push.ensures.1 in
    rw p.1
    (ap (map (asked_of g.D.Named.bytes)) c.in_err-push.ensures.items
    ∙ slice_written (asked_of g.D.Named.bytes) _ _ _ _ _ (c.add_to_key.auto.keys ∙ c.as_mut_slice.ensures.len) (c.in_ok-found.ensures.absent c.if-not-found.true) c.as_mut_slice.ensures.value)
