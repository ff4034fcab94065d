use Rattle.std.proofs.Common.{arith}
use Rattle.std.proofs.lemmas.Result.{err_from_is_err_and}
use Rattle.mar_model.proofs.Planned.{replanned, store_plan-below, store_plan-last}
use Rattle.mar_model.proofs.Running.{Breaks-ended}
use Rattle.mar_actor.proofs.report.store_above.Goals as goal

pub returns-in_err-put_above : goal.returns-in_err-put_above
returns-in_err-put_above g c =
    let p = err_from_is_err_and c.from_residual.result c.from_residual.ensures.1 in
    let plan = store_plan-below (g.B.Finds.blocks c.args.buffer.now) (g.S.Finalization.AsFinalization.plain c.args.finalization.now) (g.V.Variant.plain c.args.block) (omega (arith, c.if-get.false, c.get.ensures.value, c.get.ensures.fits, c.height-height.ensures)) in
    rw (p.1, p.2) (record { runs = λ standing sends answers start whole rest reached. c.in_err-put_above.ensures.runs standing _ sends answers start whole _ (rw plan at reached) })

pub returns-then-get : goal.returns-then-get
returns-then-get g c =
    let plan = store_plan-last (g.B.Finds.blocks c.args.buffer.now) (g.S.Finalization.AsFinalization.plain c.args.finalization.now) (g.V.Variant.plain c.args.block) c.height-height.result c.height-height.ensures (omega (arith, c.if-get.true, c.get.ensures.value)) in
    record { runs = λ standing sends answers start whole rest reached. Breaks-ended g.V.Variant.inner start whole _ rest _ (replanned g.V.Variant.inner start whole rest _ _ _ plan reached) }

pub returns : goal.returns
returns g c =
    let plan = store_plan-below (g.B.Finds.blocks c.args.buffer.now) (g.S.Finalization.AsFinalization.plain c.args.finalization.now) (g.V.Variant.plain c.args.block) (omega (arith, c.if-get.false, c.get.ensures.value, c.get.ensures.fits, c.height-height.ensures)) in
    record { runs = λ standing sends answers start whole rest reached. c.fill_and_start.ensures.runs standing sends answers start whole rest (c.in_ok-put_above.ensures.runs standing _ sends answers start whole _ (replanned g.V.Variant.inner start whole rest _ _ _ plan reached)) }
