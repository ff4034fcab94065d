use Rattle.std.proofs.Common.{[], ap, ◌∙◌, ◌∷◌}
use Rattle.mar_model.specs.Acts.{caches, load_cache, stores, sync_writes}
use Rattle.mar_model.specs.Plans.{newest_plan}
use Rattle.mar_model.specs.Ran.{dispatches, does, repairs}
use Rattle.mar_model.specs.Stored.{newest}
use Rattle.mar_model.proofs.Drawn.{regrouped}
use Rattle.mar_actor.proofs.start.start.Goals as goal

pub take_up-requires-clause-intact : goal.take_up-requires-clause-intact
take_up-requires-clause-intact g c = ap (λ h. h.intact) c.in-Ok.ensures.same ∙ c.requires.intact

pub returns-in-Err : goal.returns-in-Err
returns-in-Err g c = record { runs = λ standing sends answers start whole_plan rest reached. c.in-Err.ensures.runs standing _ sends answers start whole_plan _ (regrouped g.V.Variant.inner start whole_plan _ (newest_plan g.V.Variant.inner (newest (g.S.HoldsCache.held c.args.stores.now).certs.held)) (does (caches load_cache) ∷ repairs (g.B.Finds.blocks c.args.buffer.now) ∷ does (stores sync_writes) ∷ dispatches ∷ []) rest reached) }

pub returns : goal.returns
returns g c = record { runs = λ standing sends answers start whole_plan rest reached. c.take_up.ensures.runs standing sends answers start whole_plan rest (c.in-Ok.ensures.runs standing _ sends answers start whole_plan _ (regrouped g.V.Variant.inner start whole_plan _ (newest_plan g.V.Variant.inner (newest (g.S.HoldsCache.held c.args.stores.now).certs.held)) (does (caches load_cache) ∷ repairs (g.B.Finds.blocks c.args.buffer.now) ∷ does (stores sync_writes) ∷ dispatches ∷ []) rest reached)) }
