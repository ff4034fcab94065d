use Rattle.std.proofs.Common.{refl}
use Rattle.mar_key.proofs.OpenKeys.{annotation_added, annotation_kept}
use Rattle.mar_key.proofs.open_requests.add_annotation.Goals as goal

pub returns-in_ok-push-clause-ok : goal.returns-in_ok-push-clause-ok
returns-in_ok-push-clause-ok c = annotation_added _ _ _ _ _ c.has_annotation-found.ensures c.as_slice.ensures.value c.if-not-found.true _ c.args.annotation c.in_ok-push.ensures.items refl

pub returns-else-not-found-clause-ok : goal.returns-else-not-found-clause-ok
returns-else-not-found-clause-ok c = annotation_kept _ _ _ _ _ c.has_annotation-found.ensures c.as_slice.ensures.value c.if-not-found.false
