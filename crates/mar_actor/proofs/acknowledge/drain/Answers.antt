use Rattle.std.proofs.Common.{ap, arith, length, refl, sym, ◌∙◌, ◌≡◌}
use Rattle.mar_model.specs.Views.{fault_of}
use Rattle.mar_model.proofs.Drawn.{drains, drains-not}
use Rattle.mar_actor.proofs.Drained.{DrainsSoFar-first, DrainsSoFar-more, drained_still, drains-all, drains-end}
use Rattle.mar_actor.proofs.acknowledge.drain.Goals as goal

pub entries-init : goal.entries-init
entries-init g c = DrainsSoFar-first g.V.Variant.inner _ (g.S.HoldsCache.held c.args.stores.now) c.args.window.now (g.R.Resolver.told c.args.resolver.now) c.requires.intact

pub drain_next-requires : goal.drain_next-requires
drain_next-requires g c = record { intact = c.entries.invariant.whole }

pub entries-preserved : goal.entries-preserved
entries-preserved g c = DrainsSoFar-more g.V.Variant.inner _ _ _ _ _ _ _ _ _ c.entries.invariant (fault_of g.V.Commitment.Named.bytes) _ _ _ _ c.in-Ok-true.ensures.drained c.in-Ok-true.field-0-test c.in-Ok-true.ensures.left c.in-Ok-true.ensures.whole c.in-Ok-true.ensures.runs

pub returns-in-Ok-false : goal.returns-in-Ok-false
returns-in-Ok-false g c =
    let so = c.entries.invariant in
    let still = sym c.in-Ok-false.ensures.drained ∙ c.in-Ok-false.field-0-test in
    record {
      drained = drained_still _ _ _ so.drained still;
      whole = c.in-Ok-false.ensures.whole;
      runs = λ standing told sends answers start plan rest reached. drains-not g.V.Variant.inner start plan _ _ rest still (c.in-Ok-false.ensures.runs standing told sends answers start plan _ (drains g.V.Variant.inner start plan _ _ rest (so.reached standing told sends answers start plan rest reached)));
    }

pub returns-in-Err : goal.returns-in-Err
returns-in-Err g c = record { drained = tt; whole = tt; runs = λ standing told sends answers start plan rest reached. c.in-Err.ensures.runs standing told sends answers start plan _ (drains g.V.Variant.inner start plan _ _ rest (c.entries.invariant.reached standing told sends answers start plan rest reached)) }

pub returns : goal.returns
returns g c =
    let ended : c.len-drained-end.result ≡ length c.args.window.now.out = rw (← c.window.view_is) c.len-drained-end.ensures in
    let all : c.entries._drained ≡ length c.args.window.now.out = omega (arith, c.entries-test.false, ended) in
    record { drained = drains-all g.V.Variant.inner _ _ _ _ _ _ _ _ _ c.entries.invariant all; whole = c.entries.invariant.whole; runs = drains-end g.V.Variant.inner _ _ _ _ _ _ _ _ _ c.entries.invariant all }
