use Rattle.mar_model.specs.Views.{fault_of}
use Rattle.mar_model.specs.Acts.{finish_kept}
use Rattle.mar_model.proofs.Doing.{Does-kept, law_behind}
use Rattle.mar_actor.proofs.Kept.{finishing, on_err, whole_finished}
use Rattle.mar_inbox.specs.Answers.{told}
use Rattle.mar_inbox.specs.Views.{value_of}
use Rattle.mar_actor.proofs.caching.finish_kept.Goals as goal

pub returns-clause-runs : goal.returns-clause-runs
returns-clause-runs g c =
    let r = c.finish_and_answer-finished.result in
    let e = c.finish_and_answer-finished.ensures in
    λ life standing heard asks sends. Does-kept g.V.Variant.inner (fault_of g.V.Commitment.Named.bytes) _ _ life standing heard asks sends _ _ (finish_kept c.args.ticket) r (finishing r c.args.ticket _ _ _ _ _ c.requires.waits e.finishes e.answered) (on_err (told (value_of g.V.Digest.Named.bytes g.V.Variant.plain g.S.Finalization.AsFinalization.plain)) r _ _ e.unanswered) (law_behind _ r (whole_finished r c.args.ticket _ _ c.requires.intact e.finishes) c.law.ensures.lawful) e.goes_on e.usual
