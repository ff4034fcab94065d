use Rattle.std.proofs.Common.{ap, arith, sym, ◌≡◌, ◌∙◌}
use Rattle.mar_model.specs.Repair.{with_found}
use Rattle.mar_model.specs.Views.{fault_of}
use Rattle.mar_repair.proofs.Alone.{other_acts, other_found, own_acts, own_found}
use Rattle.mar_repair.proofs.Rows.{acts_as, none_as, when_ok}
use Rattle.mar_repair.proofs.newest.fill_at.Goals as goal

pub returns-then-own-get-clause-holds : goal.returns-then-own-get-clause-holds
returns-then-own-get-clause-holds g c =
    let own : (g.V.Variant.plain c.args.block).height ≡ c.args.height = omega (arith, c.if-own-get.true, c.get-own.ensures.value, c.height.ensures, c.get.ensures.value) in
    when_ok c.put_alone.result (λ holds. holds ∙ ap (with_found (g.S.HoldsCache.held c.args.stores.now).blocks.held) (sym (own_found (g.V.Variant.plain c.args.block) c.args.height own))) c.put_alone.ensures.holds

pub returns-then-own-get-clause-runs : goal.returns-then-own-get-clause-runs
returns-then-own-get-clause-runs g c =
    let own : (g.V.Variant.plain c.args.block).height ≡ c.args.height = omega (arith, c.if-own-get.true, c.get-own.ensures.value, c.height.ensures, c.get.ensures.value) in
    λ f life standing heard. let acts = own_acts f (g.V.Variant.plain c.args.block) c.args.height own in acts_as g.V.Variant.inner (fault_of g.V.Commitment.Named.bytes) _ _ _ _ c.put_alone.result (sym acts) (c.put_alone.ensures.runs life standing heard)

pub returns-else-own-get-clause-holds : goal.returns-else-own-get-clause-holds
returns-else-own-get-clause-holds g c =
    let other : (g.V.Variant.plain c.args.block).height ≡ c.args.height → ⊥ = λ own. c.if-own-get.false (omega (arith, own, c.get-own.ensures.value, c.height.ensures, c.get.ensures.value)) in
    ap (with_found (g.S.HoldsCache.held c.args.stores.now).blocks.held) (sym (other_found (g.V.Variant.plain c.args.block) c.args.height other))

pub returns-else-own-get-clause-runs : goal.returns-else-own-get-clause-runs
returns-else-own-get-clause-runs g c =
    let other : (g.V.Variant.plain c.args.block).height ≡ c.args.height → ⊥ = λ own. c.if-own-get.false (omega (arith, own, c.get-own.ensures.value, c.height.ensures, c.get.ensures.value)) in
    λ f life standing heard. let acts = other_acts f (g.V.Variant.plain c.args.block) c.args.height other in none_as g.V.Variant.inner _ _ (sym acts)
