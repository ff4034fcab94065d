use Rattle.mar_model.specs.Views.{fault_of}
use Rattle.mar_model.specs.Acts.{keep_certified}
use Rattle.mar_model.proofs.Doing.{Does-kept, law_behind}
use Rattle.mar_actor.proofs.Kept.{on_err, telling, whole_behind}
use Rattle.mar_inbox.specs.Answers.{told}
use Rattle.mar_inbox.specs.Views.{value_of}
use Rattle.mar_actor.proofs.caching.certify.Goals as goal

pub returns-clause-runs : goal.returns-clause-runs
returns-clause-runs g c =
    let r = c.certify_and_answer-kept.result in
    let e = c.certify_and_answer-kept.ensures in
    λ life standing heard asks sends. Does-kept g.V.Variant.inner (fault_of g.V.Commitment.Named.bytes) _ _ life standing heard asks sends _ _ (keep_certified c.args.round (g.V.Variant.plain c.args.block) c.args.ticket) r (telling r _ _ _ _ _ _ _ _ e.keeps) (on_err (told (value_of g.V.Digest.Named.bytes g.V.Variant.plain g.S.Finalization.AsFinalization.plain)) r _ _ e.unanswered) (law_behind _ r (whole_behind r _ _ _ _ _ _ _ _ c.requires.intact e.keeps) c.law.ensures.lawful) e.goes_on e.kind
