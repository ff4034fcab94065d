use Rattle.std.proofs.Common.{sym, ◌∙◌}
use Rattle.std.proofs.lemmas.Result.{err_from_is_err_and}
use Rattle.mar_model.proofs.FoundBlocks.{found_small}
use Rattle.mar_model.specs.Views.{fault_of}
use Rattle.mar_model.proofs.Planned.{Does-behind, plan-above, plan-absent, plan-low}
use Rattle.mar_model.proofs.Doing.{read-failed}
use Rattle.mar_actor.proofs.report.take_cached.Goals as goal

pub returns-in_err-block_at_hand : goal.returns-in_err-block_at_hand
returns-in_err-block_at_hand g c =
    let p = err_from_is_err_and c.from_residual.result c.from_residual.ensures.1 in
    rw (p.1, p.2) (record { runs = λ standing sends answers start whole rest reached. read-failed g.V.Variant.inner start whole _ _ _ standing _ reached c.in_err-block_at_hand.ensures.goes_on c.in_err-block_at_hand.ensures.read })

pub returns-in-None : goal.returns-in-None
returns-in-None g c =
    let held = g.S.HoldsCache.held c.args.stores.now in
    let f = g.S.Finalization.AsFinalization.plain c.args.finalization.now in
    let same = c.in_ok-block_at_hand.ensures.same in
    let found = rw (c.in-None.is, c.payload.ensures) at c.in_ok-block_at_hand.ensures.found in
    record { runs = λ standing sends answers. Does-behind g.V.Variant.inner (fault_of g.V.Commitment.Named.bytes) _ _ held _ _ standing _ _ c.request.result (plan-absent (g.B.Finds.blocks c.args.buffer.now) held _ same f _ found) same c.in_ok-block_at_hand.ensures.goes_on (c.request.ensures.runs _ standing _ sends answers) }

pub store_above-requires-clause-small_block : goal.store_above-requires-clause-small_block
store_above-requires-clause-small_block g c = found_small g.V.Variant.inner (g.B.Finds.blocks c.args.buffer.now) (g.S.HoldsCache.held c.args.stores.now).cache.kept.held (g.S.HoldsCache.held c.args.stores.now).blocks.held (g.S.Finalization.AsFinalization.plain c.args.finalization.now).payload _ c.requires.small_buffer c.requires.small_cached c.requires.small_held (sym (rw (c.in-Some.is, c.payload.ensures) at c.in_ok-block_at_hand.ensures.found))

pub returns-then-is_above : goal.returns-then-is_above
returns-then-is_above g c =
    let held = g.S.HoldsCache.held c.args.stores.now in
    let f = g.S.Finalization.AsFinalization.plain c.args.finalization.now in
    let same = c.in_ok-block_at_hand.ensures.same in
    let found = rw (c.in-Some.is, c.payload.ensures) at c.in_ok-block_at_hand.ensures.found in
    record { runs = λ standing sends answers. Does-behind g.V.Variant.inner (fault_of g.V.Commitment.Named.bytes) _ _ held _ _ standing _ _ c.store_above.result (plan-above (g.B.Finds.blocks c.args.buffer.now) held _ same f _ _ found (sym c.is_above.ensures ∙ c.if-is_above.true)) same c.in_ok-block_at_hand.ensures.goes_on (c.store_above.ensures.runs standing sends answers) }

pub returns-else-is_above : goal.returns-else-is_above
returns-else-is_above g c =
    let held = g.S.HoldsCache.held c.args.stores.now in
    let f = g.S.Finalization.AsFinalization.plain c.args.finalization.now in
    let same = c.in_ok-block_at_hand.ensures.same in
    let found = rw (c.in-Some.is, c.payload.ensures) at c.in_ok-block_at_hand.ensures.found in
    record { runs = λ standing sends answers. Does-behind g.V.Variant.inner (fault_of g.V.Commitment.Named.bytes) _ _ held _ _ standing _ _ c.take_note.result (plan-low (g.B.Finds.blocks c.args.buffer.now) held _ same f _ _ found (sym c.is_above.ensures ∙ c.if-is_above.false)) same c.in_ok-block_at_hand.ensures.goes_on (c.take_note.ensures.runs standing sends answers) }
