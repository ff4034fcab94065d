use Rattle.std.proofs.Common.{◌≡◌, ◌∙◌, inl, subst, sym}
use Rattle.std.proofs.lemmas.Result.{err_from_is_err_and}
use Rattle.mar_model.specs.Held.{ReopensAs, ended_on}
use Rattle.mar_model.specs.Views.{fault_of}
use Rattle.mar_opening.specs.Opened.{FailsToOpen}
use Rattle.mar_opening.proofs.Opened.{fails_unhoused}
use Rattle.mar_opening.proofs.open.open_stores.Goals as goal

pub returns-in_err-stores-clause-fails : goal.returns-in_err-stores-clause-fails
returns-in_err-stores-clause-fails g c =
    let p = err_from_is_err_and c.from_residual.result c.from_residual.ensures.1 in
    rw (p.1, p.2) (inl (record { lost = c.in_err-stores.ensures.lost; in_order = c.in_err-stores.ensures.in_order; usual = c.in_err-stores.ensures.usual }))

pub returns-in-Err-clause-fails : goal.returns-in-Err-clause-fails
returns-in-Err-clause-fails g c = rw (c.wreck-ruins.ensures, c.in-Err.ensures.value_returned) (fails_unhoused _ (g.S.Ruins.StoresRuin.left c.args.ruins) c.args.luck _ _ c.in_ok-stores.ensures.ok)

pub returns-in-Err-settle-clause-fails : goal.returns-in-Err-settle-clause-fails
returns-in-Err-settle-clause-fails g c =
    let is : c.deref_mut.result.now ≡ c.in_ok-stores.stores = c.deref_mut.ensures.value ∙ c.in-Ok.ensures.ok in
    let fails = c.in-Err-settle.ensures.fails (g.S.Ruins.StoresRuin.left c.args.ruins) c.args.luck (subst (λ s. ReopensAs (g.S.Ruins.StoresRuin.left c.args.ruins) c.args.luck (g.S.HoldsCache.held s)) (sym is) c.in_ok-stores.ensures.ok) in
    rw c.wreck-ruins-in-Err-settle.ensures (subst (λ s. FailsToOpen (g.E.Epocher.epochs c.args.epocher.now) (g.S.Ruins.StoresRuin.left c.args.ruins) c.args.luck (g.V.Variant.plain c.args.genesis.now) (ended_on (fault_of g.V.Commitment.Named.bytes c.in-Err-settle.fault) (g.S.HoldsCache.held s))) (sym c.into_inner.ensures) fails)
