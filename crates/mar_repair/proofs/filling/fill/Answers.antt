use Rattle.std.proofs.Common.{ap, subst, sym, ◌∙◌}
use Rattle.mar_model.specs.Repair.{cached_for, fill_acts, with_fill}
use Rattle.mar_model.specs.Views.{fault_of}
use Rattle.mar_model.specs.Writing.{IsOrdered}
use Rattle.mar_repair.proofs.Found.{cached_small}
use Rattle.mar_repair.proofs.Rows.{failed_read, filled_behind, only_read, only_then, read_whole, when_ok}
use Rattle.mar_repair.proofs.filling.fill.Goals as goal

pub put_alone-requires-clause-intact : goal.put_alone-requires-clause-intact
put_alone-requires-clause-intact g c = read_whole (g.S.HoldsCache.held c.args.stores.now) (g.S.HoldsCache.held c.cached_finalization.new.self) c.in-Ok-None.ensures.same c.requires.intact

pub put_known-requires-clause-intact : goal.put_known-requires-clause-intact
put_known-requires-clause-intact g c = read_whole (g.S.HoldsCache.held c.args.stores.now) (g.S.HoldsCache.held c.cached_finalization.new.self) c.in-Ok-Some.ensures.same c.requires.intact

pub put_known-requires-clause-small : goal.put_known-requires-clause-small
put_known-requires-clause-small g c = cached_small g.V.Variant.inner _ _ _ (c.law.ensures.small_cached c.requires.intact) (sym (rw c.in-Ok-Some.field-0-is at c.in-Ok-Some.ensures.found))

pub put_known-requires-clause-ordered : goal.put_known-requires-clause-ordered
put_known-requires-clause-ordered g c = subst (λ h. IsOrdered h.writes) (sym c.in-Ok-Some.ensures.same) (c.law.ensures.lawful c.requires.intact).written.ordered

pub returns-in-Ok-None-clause-kept : goal.returns-in-Ok-None-clause-kept
returns-in-Ok-None-clause-kept g c = when_ok c.put_alone.result (only_then (g.S.HoldsCache.held c.args.stores.now) (g.S.HoldsCache.held c.cached_finalization.new.self) (g.S.HoldsCache.held c.put_alone.new.stores) (only_read (g.S.HoldsCache.held c.args.stores.now) (g.S.HoldsCache.held c.cached_finalization.new.self) c.in-Ok-None.ensures.same)) c.put_alone.ensures.kept

pub returns-in-Ok-None-clause-holds : goal.returns-in-Ok-None-clause-holds
returns-in-Ok-None-clause-holds g c = when_ok c.put_alone.result (λ holds. holds ∙ ap (λ h. with_fill h.blocks.held (g.V.Variant.plain c.args.block)) c.in-Ok-None.ensures.same) c.put_alone.ensures.holds

pub returns-in-Ok-None-clause-runs : goal.returns-in-Ok-None-clause-runs
returns-in-Ok-None-clause-runs g c =
    let found = rw (c.in-Ok-None.field-0-is, c.commitment.ensures) at c.in-Ok-None.ensures.found in
    λ life standing asks sends answers. filled_behind g.V.Variant.inner (fault_of g.V.Commitment.Named.bytes) _ _ _ standing _ (g.V.Variant.plain c.args.block) _ _ _ c.put_alone.result c.in-Ok-None.ensures.same c.in-Ok-None.ensures.goes_on found (c.put_alone.ensures.runs _ standing _)

pub returns-in-Ok-Some-clause-kept : goal.returns-in-Ok-Some-clause-kept
returns-in-Ok-Some-clause-kept g c = when_ok c.put_known.result (only_then (g.S.HoldsCache.held c.args.stores.now) (g.S.HoldsCache.held c.cached_finalization.new.self) (g.S.HoldsCache.held c.put_known.new.stores) (only_read (g.S.HoldsCache.held c.args.stores.now) (g.S.HoldsCache.held c.cached_finalization.new.self) c.in-Ok-Some.ensures.same)) c.put_known.ensures.kept

pub returns-in-Ok-Some-clause-holds : goal.returns-in-Ok-Some-clause-holds
returns-in-Ok-Some-clause-holds g c = when_ok c.put_known.result (λ holds. holds ∙ ap (λ h. with_fill h.blocks.held (g.V.Variant.plain c.args.block)) c.in-Ok-Some.ensures.same) c.put_known.ensures.holds

pub returns-in-Ok-Some-clause-runs : goal.returns-in-Ok-Some-clause-runs
returns-in-Ok-Some-clause-runs g c =
    let found = rw (c.in-Ok-Some.field-0-is, c.commitment.ensures) at c.in-Ok-Some.ensures.found in
    λ life standing asks sends answers. filled_behind g.V.Variant.inner (fault_of g.V.Commitment.Named.bytes) _ _ _ standing _ (g.V.Variant.plain c.args.block) _ _ _ c.put_known.result c.in-Ok-Some.ensures.same c.in-Ok-Some.ensures.goes_on found (c.put_known.ensures.runs life standing asks sends answers)

pub returns-in-Err-clause-runs : goal.returns-in-Err-clause-runs
returns-in-Err-clause-runs g c = λ life standing asks sends answers. failed_read g.V.Variant.inner (fill_acts (cached_for g.V.Variant.inner (g.S.HoldsCache.held c.args.stores.now).cache.kept.held (g.V.Variant.plain c.args.block).commitment) (g.V.Variant.plain c.args.block)) (g.S.HoldsCache.held c.args.stores.now) _ standing _ c.in-Err.ensures.goes_on c.in-Err.ensures.read
