use Rattle.std.proofs.Common.{arith}
use Rattle.mar_model.specs.Held.{nothing_written}
use Rattle.mar_model.specs.Scene.{windowed}
use Rattle.mar_model.proofs.Growing.{WithinWritten-refl}
use Rattle.mar_model.proofs.Handing.{HandsSoFar-first, HandsSoFar-more, Ran-all, Ran-ended, Ran-failed, Ran-still}
use Rattle.mar_model.proofs.StoreLosses.{Loses-nothing}
use Rattle.mar_actor.proofs.Raised.{read_over, unhanded}
use Rattle.mar_model.proofs.Running.{handed-done, handed-stopped}
use Rattle.mar_actor.proofs.dispatch.dispatch.Goals as goal

pub handing-init : goal.handing-init
handing-init g c = HandsSoFar-first _ _ (c.law.ensures.blocks c.requires.intact) (c.law.ensures.certs c.requires.intact)

pub returns-in-Err : goal.returns-in-Err
returns-in-Err g c =
    let grew = c.in-Err.ensures.goes_on (g.S.HoldsCache.held c.args.stores.now) nothing_written c.handing.invariant.grew (WithinWritten-refl nothing_written) in
    record { runs = λ standing asks sends answers start whole rest reached. handed-stopped _ (g.S.HoldsCache.held c.next_block.new.stores) _ c.handing.window standing asks sends answers _ (g.A.Reporter.told c.handing.application) g.V.Variant.inner start whole rest reached _ (Ran-failed (windowed (g.S.HoldsCache.held c.args.stores.now) c.args.window.now) (windowed (g.S.HoldsCache.held c.handing.stores) c.handing.window) (g.A.Reporter.told c.args.application.now) (g.A.Reporter.told c.handing.application) c.handing._handed c.handing.invariant _ grew c.in-Err.ensures.archive) }

pub returns-in-Ok-None : goal.returns-in-Ok-None
returns-in-Ok-None g c =
    let same = read_over c.handing.window (g.S.HoldsCache.held c.handing.stores) (g.S.HoldsCache.held c.next_block.new.stores) c.in-Ok-None.ensures.same in
    let grew = c.in-Ok-None.ensures.goes_on (g.S.HoldsCache.held c.args.stores.now) nothing_written c.handing.invariant.grew (WithinWritten-refl nothing_written) in
    record { runs = λ standing asks sends answers start whole rest reached. handed-done _ _ c.args.window.now c.handing.window standing asks sends answers _ (g.A.Reporter.told c.handing.application) g.V.Variant.inner start whole rest reached (Ran-still (windowed (g.S.HoldsCache.held c.args.stores.now) c.args.window.now) (windowed (g.S.HoldsCache.held c.handing.stores) c.handing.window) (g.A.Reporter.told c.args.application.now) (g.A.Reporter.told c.handing.application) c.handing._handed c.handing.invariant (windowed (g.S.HoldsCache.held c.next_block.new.stores) c.handing.window) same grew (rw c.in-Ok-None.field-0-is at c.in-Ok-None.ensures.none)) }

pub returns-in-Err-hand_over : goal.returns-in-Err-hand_over
returns-in-Err-hand_over g c =
    let same = read_over c.handing.window (g.S.HoldsCache.held c.handing.stores) (g.S.HoldsCache.held c.next_block.new.stores) c.in-Ok-Some.ensures.same in
    let grew = c.in-Ok-Some.ensures.goes_on (g.S.HoldsCache.held c.args.stores.now) nothing_written c.handing.invariant.grew (WithinWritten-refl nothing_written) in
    let kind = unhanded _ c.in-Err-hand_over.ensures.kind in
    record { runs = λ standing asks sends answers start whole rest reached. handed-stopped _ (g.S.HoldsCache.held c.next_block.new.stores) _ c.hand_over.new.window standing asks sends answers _ _ g.V.Variant.inner start whole rest reached _ (Ran-ended (windowed (g.S.HoldsCache.held c.args.stores.now) c.args.window.now) (windowed (g.S.HoldsCache.held c.handing.stores) c.handing.window) (g.A.Reporter.told c.args.application.now) (g.A.Reporter.told c.handing.application) c.handing._handed c.handing.invariant (windowed (g.S.HoldsCache.held c.next_block.new.stores) c.handing.window) same grew _ _ c.in-Err-hand_over.ensures.err (Loses-nothing _ _ _ grew _ kind.0) kind.1) }

pub returns : goal.returns
returns g c = record { runs = λ standing asks sends answers start whole rest reached. handed-done _ _ c.args.window.now c.handing.window standing asks sends answers _ (g.A.Reporter.told c.handing.application) g.V.Variant.inner start whole rest reached (Ran-all (windowed (g.S.HoldsCache.held c.args.stores.now) c.args.window.now) (windowed (g.S.HoldsCache.held c.handing.stores) c.handing.window) (g.A.Reporter.told c.args.application.now) (g.A.Reporter.told c.handing.application) c.handing._handed c.handing.invariant (rw (← c.window.view_is) (omega (arith, c.handing-test.false, c.capacity-handed-end.ensures)))) }

pub handing-preserved : goal.handing-preserved
handing-preserved g c =
    let same = read_over c.handing.window (g.S.HoldsCache.held c.handing.stores) (g.S.HoldsCache.held c.next_block.new.stores) c.in-Ok-Some.ensures.same in
    let grew = c.in-Ok-Some.ensures.goes_on (g.S.HoldsCache.held c.args.stores.now) nothing_written c.handing.invariant.grew (WithinWritten-refl nothing_written) in
    HandsSoFar-more (windowed (g.S.HoldsCache.held c.args.stores.now) c.args.window.now) (windowed (g.S.HoldsCache.held c.handing.stores) c.handing.window) (g.A.Reporter.told c.args.application.now) (g.A.Reporter.told c.handing.application) c.handing._handed c.handing.invariant (windowed (g.S.HoldsCache.held c.next_block.new.stores) c.handing.window) same grew _ _ _ (rw c.in-Ok-Some.field-0-is at c.in-Ok-Some.ensures.found) (c.in-Ok.ensures.same (g.S.HoldsCache.held c.next_block.new.stores)) c.in-Ok.ensures.ok
