use Rattle.std.proofs.Common.{None, Some, ap, refl, sym, ◌∙◌, ◌≡◌, ◌∷◌, [], true}
use Rattle.mar_model.specs.Moves.{is_verified_in}
use Rattle.mar_model.specs.Plans.{found_of, kept_plan}
use Rattle.mar_model.specs.Views.{fault_of}
use Rattle.mar_model.proofs.Doing.{Does-notarized, law_behind, notarized_whole, read-failed}
use Rattle.mar_model.proofs.FoundBlocks.{found_small}
use Rattle.mar_model.specs.Scene.{scene}
use Rattle.mar_model.proofs.Planned.{Does-behind, kept-absent, kept-found, replanned}
use Rattle.mar_model.proofs.Running.{Reached-read}
use Rattle.mar_actor.proofs.notarize.keep_found.Goals as goal

pub keep_notarized-kept-requires : goal.keep_notarized-kept-requires
keep_notarized-kept-requires g c = record { small = found_small g.V.Variant.inner (g.B.Finds.blocks c.args.buffer.now) (g.S.HoldsCache.held c.args.stores.now).cache.kept.held (g.S.HoldsCache.held c.args.stores.now).blocks.held (g.V.Commitment.Named.bytes c.args.commitment) _ c.requires.small_buffer c.requires.small_cached c.requires.small_held (sym (rw c.in-Ok-Some.field-0-is at c.in-Ok-Some.ensures.found)) }

pub returns-in-Ok-Some : goal.returns-in-Ok-Some
returns-in-Ok-Some g c =
    let old = g.S.HoldsCache.held c.args.stores.now in
    let one = g.S.HoldsCache.held c.block_at_hand.new.stores in
    let b = g.V.Variant.plain c.in-Ok-Some.block in
    let r = c.keep_notarized-kept.result in
    let e = c.keep_notarized-kept.ensures in
    let whole = ap (λ h. h.intact) c.in-Ok-Some.ensures.same ∙ c.requires.intact in
    record { runs = λ life standing heard. Does-behind g.V.Variant.inner (fault_of g.V.Commitment.Named.bytes) _ _ old one life standing heard _ r (kept-found c.args.round old one c.in-Ok-Some.ensures.same _ b (rw c.in-Ok-Some.field-0-is at c.in-Ok-Some.ensures.found)) c.in-Ok-Some.ensures.same c.in-Ok-Some.ensures.goes_on (Does-notarized g.V.Variant.inner (fault_of g.V.Commitment.Named.bytes) one _ life standing c.args.round b (is_verified_in one c.args.round b) heard r e.keeps (law_behind _ r (notarized_whole (is_verified_in one c.args.round b) c.args.round b one _ r whole e.keeps) c.law.ensures.lawful) e.goes_on e.kind e.read) }

pub returns-in-Ok-None : goal.returns-in-Ok-None
returns-in-Ok-None g c =
    let old = g.S.HoldsCache.held c.args.stores.now in
    record { runs = λ life standing heard start whole rest reached. Reached-read g.V.Variant.inner start whole rest _ _ (replanned g.V.Variant.inner start whole rest _ _ [] (kept-absent c.args.round old _ (rw c.in-Ok-None.field-0-is at c.in-Ok-None.ensures.found)) reached) (record { joins = c.in-Ok-None.ensures.goes_on; same = ap (λ h. scene h life standing heard) c.in-Ok-None.ensures.same }) }

pub returns-in-Err : goal.returns-in-Err
returns-in-Err g c = record { runs = λ life standing heard start whole rest reached. read-failed g.V.Variant.inner start whole _ _ life standing heard reached c.in-Err.ensures.goes_on c.in-Err.ensures.read }
