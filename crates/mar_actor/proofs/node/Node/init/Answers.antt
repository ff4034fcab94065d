use Rattle.std.proofs.Common.{inl, refl}
use Rattle.std.proofs.lemmas.Result.{err_from_is_err_and}
use Rattle.mar_model.specs.Faults.{want_of_memory}
use Rattle.mar_actor.specs.Views.{sizes_of}
use Rattle.mar_model.proofs.OpeningEvent.{cut_early}
use Rattle.mar_model.proofs.Reopenings.{LosesOpening-nothing}
use Rattle.mar_opening.proofs.Opened.{failed_by_value, failed_cause, failed_cut, fails_from, opened_begins, opened_finds, opened_fresh, opened_passed, opened_picked}
use Rattle.mar_actor.proofs.node.Node.init.Goals as goal

pub returns-in_default-clause-opens : goal.returns-in_default-clause-opens
returns-in_default-clause-opens g c = λ config chain set asks. cut_early config chain (g.S.Ruins.StoresRuin.left c.args.ruins) _ _ _ asks (LosesOpening-nothing (g.S.Ruins.StoresRuin.left c.args.ruins) want_of_memory tt) (inl tt)

pub returns-in_default-clause-cause : goal.returns-in_default-clause-cause
returns-in_default-clause-cause g c = (LosesOpening-nothing (g.S.Ruins.StoresRuin.left c.args.ruins) want_of_memory tt).cause

pub returns-in_default-clause-fails : goal.returns-in_default-clause-fails
returns-in_default-clause-fails g c = λ b is. inl (record { lost = LosesOpening-nothing (g.S.Ruins.StoresRuin.left c.args.ruins) want_of_memory tt; in_order = λ s t is behind. refl; usual = tt })

pub returns-in_err-stores-clause-fails : goal.returns-in_err-stores-clause-fails
returns-in_err-stores-clause-fails g c =
    let p = err_from_is_err_and c.from_residual.result c.from_residual.ensures.1 in
    rw (p.1, p.2) (fails_from _ (g.S.Ruins.StoresRuin.left c.args.ruins) _ _ _ (c.in-Ok.ensures.genesis g.V.Variant.plain) _ c.in_err-stores.ensures.fails)

pub returns-in_err-stores-clause-opens : goal.returns-in_err-stores-clause-opens
returns-in_err-stores-clause-opens g c =
    let p = err_from_is_err_and c.from_residual.result c.from_residual.ensures.1 in
    rw (p.1, p.2) (λ config chain set asks. failed_cut _ (g.S.Ruins.StoresRuin.left c.args.ruins) _ _ _ (c.in-Ok.ensures.genesis g.V.Variant.plain) config chain set.epochs_are asks _ c.in_err-stores.ensures.fails)

pub returns-in_err-stores-clause-by_value : goal.returns-in_err-stores-clause-by_value
returns-in_err-stores-clause-by_value g c =
    let p = err_from_is_err_and c.from_residual.result c.from_residual.ensures.1 in
    rw (p.1, p.2) (failed_by_value _ (g.S.Ruins.StoresRuin.left c.args.ruins) _ _ _ (c.in-Ok.ensures.genesis g.V.Variant.plain) _ c.in_err-stores.ensures.fails)

pub returns-in_err-stores-clause-cause : goal.returns-in_err-stores-clause-cause
returns-in_err-stores-clause-cause g c =
    let p = err_from_is_err_and c.from_residual.result c.from_residual.ensures.1 in
    rw (p.1, p.2) (failed_cause _ (g.S.Ruins.StoresRuin.left c.args.ruins) _ _ _ (c.in-Ok.ensures.genesis g.V.Variant.plain) _ c.in_err-stores.ensures.fails)

pub returns-clause-opens : goal.returns-clause-opens
returns-clause-opens g c =
    λ config chain set asks. opened_begins _ (g.S.Ruins.StoresRuin.left c.args.ruins) _ _ _ (c.in-Ok.ensures.genesis g.V.Variant.plain) c.args.config.provider c.args.config.epocher (sizes_of c.args.config) (g.S.HoldsCache.held c.in_ok-stores.stores.value) _ c.in_ok-stores.ensures.opens c.in-Ok.ensures.life config set.epochs_are set.capacity chain asks

pub returns-clause-finds : goal.returns-clause-finds
returns-clause-finds g c =
    λ config set. opened_finds _ (g.S.Ruins.StoresRuin.left c.args.ruins) _ _ _ (c.in-Ok.ensures.genesis g.V.Variant.plain) c.args.config.provider c.args.config.epocher (sizes_of c.args.config) (g.S.HoldsCache.held c.in_ok-stores.stores.value) _ c.in_ok-stores.ensures.opens c.in-Ok.ensures.life config set.epochs_are set.capacity

pub returns-clause-fresh : goal.returns-clause-fresh
returns-clause-fresh g c = opened_fresh _ (g.S.Ruins.StoresRuin.left c.args.ruins) _ _ _ (c.in-Ok.ensures.genesis g.V.Variant.plain) _ c.in_ok-stores.ensures.opens

pub returns-clause-picked : goal.returns-clause-picked
returns-clause-picked g c = opened_picked _ (g.S.Ruins.StoresRuin.left c.args.ruins) _ _ _ (c.in-Ok.ensures.genesis g.V.Variant.plain) _ c.in_ok-stores.ensures.opens

pub returns-clause-watches : goal.returns-clause-watches
returns-clause-watches g c = opened_passed _ (g.S.Ruins.StoresRuin.left c.args.ruins) _ _ _ (c.in-Ok.ensures.genesis g.V.Variant.plain) _ c.in_ok-stores.ensures.opens
