use Rattle.std.proofs.Common.{ap, sym, ◌∙◌}
use Rattle.std.proofs.lemmas.Result.{err_from_is_err_and}
use Rattle.mar_model.specs.Plans.{late_plan}
use Rattle.mar_model.proofs.Planned.{replanned}
use Rattle.mar_actor.proofs.report.late.Goals as goal

pub returns-in_err-put_late : goal.returns-in_err-put_late
returns-in_err-put_late g c =
    let p = err_from_is_err_and c.from_residual.result c.from_residual.ensures.1 in
    rw (p.1, p.2) (record { runs = λ standing asks sends answers start whole rest reached. c.in_err-put_late.ensures.runs c.requires.intact _ standing _ start whole _ reached })

pub returns-then-not-branch : goal.returns-then-not-branch
returns-then-not-branch g c =
    let f = g.S.Finalization.AsFinalization.plain c.args.finalization.now in
    let b = g.V.Variant.plain c.args.block.now in
    let plan = ap (λ lacking. late_plan lacking f b) (sym c.in_ok-put_late.ensures.lacked ∙ c.if-not-branch.true) in
    record { runs = λ standing asks sends answers start whole rest reached. c.in_ok-put_late.ensures.runs c.requires.intact _ standing _ start whole rest (replanned g.V.Variant.inner start whole rest _ _ _ plan reached) }

pub returns : goal.returns
returns g c =
    let f = g.S.Finalization.AsFinalization.plain c.args.finalization.now in
    let b = g.V.Variant.plain c.args.block.now in
    let plan = ap (λ lacking. late_plan lacking f b) (sym c.in_ok-put_late.ensures.lacked ∙ c.if-not-branch.false) in
    let told = rw (c.height-height.ensures, c.digest-digest.ensures, c.round.ensures) at c.report_tip.ensures.runs in
    record { runs = λ standing asks sends answers start whole rest reached. told _ standing asks sends answers start whole rest (c.in_ok-put_late.ensures.runs c.requires.intact _ standing _ start whole _ (replanned g.V.Variant.inner start whole rest _ _ _ plan reached)) }
