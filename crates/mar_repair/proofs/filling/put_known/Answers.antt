use Rattle.std.proofs.Common.{[], ap, ◌∙◌, ◌∷◌}
use Rattle.mar_model.specs.Acts.{says, store, stores, tell}
use Rattle.mar_model.specs.Views.{fault_of}
use Rattle.mar_model.proofs.Acting.{BreaksActs-front}
use Rattle.mar_repair.proofs.Rows.{acts_then, did_store, failed_store}
use Rattle.mar_repair.proofs.filling.put_known.Goals as goal

pub returns-in-Ok-clause-runs : goal.returns-in-Ok-clause-runs
returns-in-Ok-clause-runs g c =
    let f = g.S.Finalization.AsFinalization.plain c.args.finalization.now in
    let b = g.V.Variant.plain c.args.block in
    let told = rw (c.height-height.ensures, c.digest-digest.ensures, c.round.ensures) at c.tell.ensures.runs in
    let whole = ap (λ h. h.intact) c.in-Ok.ensures.same ∙ c.requires.intact in
    λ life standing asks sends answers. acts_then g.V.Variant.inner (fault_of g.V.Commitment.Named.bytes) (stores (store f b) ∷ []) (says (tell f.round b.height b.digest) ∷ []) _ _ _ c.tell.result
    (did_store g.V.Variant.inner (store f b) _ _ _ standing _ (record { blocks = c.in-Ok.ensures.blocks; certs = c.in-Ok.ensures.certs; same = c.in-Ok.ensures.same }) (c.law.ensures.lawful whole) c.in-Ok.ensures.goes_on)
    (told _ life standing asks sends answers)

pub returns-in-Err-clause-runs : goal.returns-in-Err-clause-runs
returns-in-Err-clause-runs g c =
    let f = g.S.Finalization.AsFinalization.plain c.args.finalization.now in
    let b = g.V.Variant.plain c.args.block in
    λ life standing asks sends answers. BreaksActs-front g.V.Variant.inner (stores (store f b) ∷ []) (says (tell f.round b.height b.digest) ∷ []) _ _ _
    (failed_store g.V.Variant.inner (store f b) _ _ standing _ c.in-Err.ensures.goes_on c.in-Err.ensures.archive)
