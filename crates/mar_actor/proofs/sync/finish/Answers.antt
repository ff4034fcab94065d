use Rattle.std.proofs.Common.{subst, sym, true, false, ◌≡◌, ◌∙◌}
use Rattle.mar_model.specs.OpenSyncs.{is_cache_sync, waits_for}
use Rattle.mar_model.proofs.OpenSyncs.{IsFound-opened, NoneHas-unfound, open-found}
use Rattle.mar_model.proofs.Drawn.{finish-both, finish-kept, none-has}
use Rattle.mar_actor.proofs.sync.finish.Goals as goal

pub finish_kept-requires-clause-waits : goal.finish_kept-requires-clause-waits
finish_kept-requires-clause-waits g c = rw c.cache_syncs.ensures at (IsFound-opened (g.S.HoldsCache.covers c.args.stores.now) c.args.ticket c.cache_syncs.result.now c.in-Some.open (sym c.find.ensures ∙ c.in-Some.is)).0

pub returns-in-Some-clause-runs : goal.returns-in-Some-clause-runs
returns-in-Some-clause-runs g c =
    let is = rw c.cache_syncs.ensures at (open-found (g.S.HoldsCache.covers c.args.stores.now) c.args.ticket c.cache_syncs.result.now c.in-Some.open (sym c.find.ensures ∙ c.in-Some.is)) in
    λ standing asks sends start whole rest reached. c.finish_kept.ensures.runs _ standing _ asks sends start whole rest (finish-kept g.V.Variant.inner start whole _ rest (g.S.HoldsCache.held c.args.stores.now) c.args.ticket is reached)

pub returns-in-Some-clause-idle : goal.returns-in-Some-clause-idle
returns-in-Some-clause-idle g c other closed =
    let is : is_cache_sync (g.S.HoldsCache.held c.args.stores.now).cache.syncs c.args.ticket ≡ true = rw c.cache_syncs.ensures at (open-found (g.S.HoldsCache.covers c.args.stores.now) c.args.ticket c.cache_syncs.result.now c.in-Some.open (sym c.find.ensures ∙ c.in-Some.is)) in
    absurd (let both : true ≡ false = sym is ∙ closed in cc)

pub returns-in-None-clause-runs : goal.returns-in-None-clause-runs
returns-in-None-clause-runs g c =
    let is = none-has c.args.ticket (g.S.HoldsCache.held c.args.stores.now).cache.syncs (rw c.cache_syncs.ensures at (NoneHas-unfound (g.S.HoldsCache.covers c.args.stores.now) c.args.ticket c.cache_syncs.result.now (sym c.find.ensures ∙ c.in-None.is))) in
    λ standing asks sends start whole rest reached. c.finish_sync.ensures.runs standing asks sends _ start whole rest (finish-both g.V.Variant.inner start whole _ rest (g.S.HoldsCache.held c.args.stores.now) c.args.ticket is reached)
