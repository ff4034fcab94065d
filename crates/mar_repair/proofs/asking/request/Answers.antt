use Rattle.std.proofs.Common.{[], ◌∷◌}
use Rattle.mar_model.specs.Repair.{parent_fetch}
use Rattle.mar_repair.proofs.Asks.{heard_one}
use Rattle.mar_repair.proofs.Rows.{did_ask, failed_ask}
use Rattle.mar_repair.proofs.asking.request.Goals as goal

pub returns-in-Ok : goal.returns-in-Ok
returns-in-Ok g c =
    let held = g.S.HoldsCache.held c.args.stores.now in
    let bytes = g.V.Commitment.Named.bytes in
    let call = parent_fetch (record { height = c.args.height; value = bytes c.args.commitment }) in
    let hears = heard_one bytes c.floor.result.now held.processed c.finalized_by_height-request.result c.args.commitment c.args.height _ _ c.floor.ensures.processed c.finalized_by_height-request.ensures c.requires.above c.in-Ok.ensures.ok in
    record { runs = λ life standing told sends answers. did_ask g.V.Variant.inner held life standing told told _ _ sends answers (call ∷ []) hears }

pub returns-in-Err : goal.returns-in-Err
returns-in-Err g c =
    let held = g.S.HoldsCache.held c.args.stores.now in
    let call = parent_fetch (record { height = c.args.height; value = g.V.Commitment.Named.bytes c.args.commitment }) in
    record { runs = λ life standing told sends answers. failed_ask g.V.Variant.inner held life standing told told _ _ sends answers (call ∷ []) c.in-Err.ensures.err }
