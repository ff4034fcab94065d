use Rattle.std.proofs.Common.{map}
use Rattle.mar_key.specs.Views.{call_of}
use Rattle.mar_repair.proofs.Asks.{heard_all}
use Rattle.mar_repair.proofs.Rows.{did_ask, failed_ask}
use Rattle.mar_repair.proofs.asking.request_all.Goals as goal

pub returns-in-Ok : goal.returns-in-Ok
returns-in-Ok g c =
    let held = g.S.HoldsCache.held c.args.stores.now in
    let bytes = g.V.Commitment.Named.bytes in
    let hears = heard_all bytes c.floor.result.now held.processed c.args.requests.now _ _ c.floor.ensures.processed c.requires.live c.in-Ok.ensures.ok in
    record { runs = λ life standing told sends answers. did_ask g.V.Variant.inner held life standing told told _ _ sends answers (map (call_of bytes) c.args.requests.now) hears }

pub returns-in-Err : goal.returns-in-Err
returns-in-Err g c =
    let held = g.S.HoldsCache.held c.args.stores.now in
    record { runs = λ life standing told sends answers. failed_ask g.V.Variant.inner held life standing told told _ _ sends answers (map (call_of g.V.Commitment.Named.bytes) c.args.requests.now) c.in-Err.ensures.err }
