use Rattle.std.proofs.Common.{None, Some, ap, subst, sym, ◌<◌, ◌∙◌}
use Rattle.mar_key.specs.Processed.{height_of}
use Rattle.mar_model.specs.Moves.{at_height}
use Rattle.mar_model.specs.Repair.{certified_acts, look_up, of_height, search_of, with_found}
use Rattle.mar_model.specs.Views.{fault_of}
use Rattle.mar_model.proofs.FoundBlocks.{found_small}
use Rattle.mar_repair.proofs.Rows.{acts_behind, always, failed_read, only_read, only_then, read_whole, when_ok}
use Rattle.mar_repair.proofs.newest.fill_certified.Goals as goal

pub request-requires : goal.request-requires
request-requires g c = record { above = subst (λ h. height_of h.processed < c.args.height) (sym c.in-Ok-None.ensures.same) c.requires.above }

pub fill_at-requires-clause-intact : goal.fill_at-requires-clause-intact
fill_at-requires-clause-intact g c = read_whole (g.S.HoldsCache.held c.args.stores.now) (g.S.HoldsCache.held c.block_at_hand.new.stores) c.in-Ok-Some.ensures.same c.requires.intact

pub fill_at-requires-clause-small_block : goal.fill_at-requires-clause-small_block
fill_at-requires-clause-small_block g c =
    let old = g.S.HoldsCache.held c.args.stores.now in
    found_small g.V.Variant.inner (g.B.Finds.blocks c.args.buffer.now) old.cache.kept.held old.blocks.held (g.V.Commitment.Named.bytes c.payload-commitment.result) (g.V.Variant.plain c.in-Ok-Some.block) c.requires.small_buffer (c.law.ensures.small_cached c.requires.intact) (c.law.ensures.small c.requires.intact) (sym (rw c.in-Ok-Some.field-0-is at c.in-Ok-Some.ensures.found))

pub returns-in-Ok-None-clause-kept : goal.returns-in-Ok-None-clause-kept
returns-in-Ok-None-clause-kept g c = always c.request.result (only_read (g.S.HoldsCache.held c.args.stores.now) (g.S.HoldsCache.held c.block_at_hand.new.stores) c.in-Ok-None.ensures.same)

pub returns-in-Ok-None-clause-holds : goal.returns-in-Ok-None-clause-holds
returns-in-Ok-None-clause-holds g c =
    let old = g.S.HoldsCache.held c.args.stores.now in
    let found = rw (c.in-Ok-None.field-0-is, c.payload-commitment.ensures) at c.in-Ok-None.ensures.found in
    always c.request.result (ap (λ h. h.blocks.held) c.in-Ok-None.ensures.same ∙ ap (λ o. with_found old.blocks.held (of_height c.args.height o)) found)

pub returns-in-Ok-None-clause-runs : goal.returns-in-Ok-None-clause-runs
returns-in-Ok-None-clause-runs g c =
    let old = g.S.HoldsCache.held c.args.stores.now in
    let one = g.S.HoldsCache.held c.block_at_hand.new.stores in
    let x = at_height c.args.height (g.S.Finalization.AsFinalization.plain c.args.finalization.now) in
    let found = rw (c.in-Ok-None.field-0-is, c.payload-commitment.ensures) at c.in-Ok-None.ensures.found in
    let runs = rw c.payload-commitment.ensures at c.request.ensures.runs in
    λ life standing told sends answers. acts_behind g.V.Variant.inner (fault_of g.V.Commitment.Named.bytes) old one _ standing _ _ _ _ c.request.result c.in-Ok-None.ensures.same c.in-Ok-None.ensures.goes_on (ap (certified_acts x) found) (runs _ standing told sends answers)

pub returns-in-Ok-Some-clause-kept : goal.returns-in-Ok-Some-clause-kept
returns-in-Ok-Some-clause-kept g c =
    let old = g.S.HoldsCache.held c.args.stores.now in
    let one = g.S.HoldsCache.held c.block_at_hand.new.stores in
    when_ok c.fill_at.result (only_then old one (g.S.HoldsCache.held c.fill_at.new.stores) (only_read old one c.in-Ok-Some.ensures.same)) c.fill_at.ensures.kept

pub returns-in-Ok-Some-clause-holds : goal.returns-in-Ok-Some-clause-holds
returns-in-Ok-Some-clause-holds g c =
    let old = g.S.HoldsCache.held c.args.stores.now in
    let found = rw (c.in-Ok-Some.field-0-is, c.payload-commitment.ensures) at c.in-Ok-Some.ensures.found in
    when_ok c.fill_at.result (λ holds. holds ∙ (ap (λ h. with_found h.blocks.held (of_height c.args.height (Some (g.V.Variant.plain c.in-Ok-Some.block)))) c.in-Ok-Some.ensures.same ∙ ap (λ o. with_found old.blocks.held (of_height c.args.height o)) found)) c.fill_at.ensures.holds

pub returns-in-Ok-Some-clause-runs : goal.returns-in-Ok-Some-clause-runs
returns-in-Ok-Some-clause-runs g c =
    let old = g.S.HoldsCache.held c.args.stores.now in
    let one = g.S.HoldsCache.held c.block_at_hand.new.stores in
    let x = at_height c.args.height (g.S.Finalization.AsFinalization.plain c.args.finalization.now) in
    let found = rw (c.in-Ok-Some.field-0-is, c.payload-commitment.ensures) at c.in-Ok-Some.ensures.found in
    λ life standing told sends answers. acts_behind g.V.Variant.inner (fault_of g.V.Commitment.Named.bytes) old one _ standing _ _ _ _ c.fill_at.result c.in-Ok-Some.ensures.same c.in-Ok-Some.ensures.goes_on (ap (certified_acts x) found) (c.fill_at.ensures.runs x.value life standing _)

pub returns-in-Err-clause-runs : goal.returns-in-Err-clause-runs
returns-in-Err-clause-runs g c =
    let old = g.S.HoldsCache.held c.args.stores.now in
    let f = g.S.Finalization.AsFinalization.plain c.args.finalization.now in
    let acts = certified_acts (at_height c.args.height f) (look_up (search_of g.V.Variant.inner (g.B.Finds.blocks c.args.buffer.now) old) old.blocks.held f.payload) in
    λ life standing told sends answers. failed_read g.V.Variant.inner acts old _ standing _ c.in-Err.ensures.goes_on c.in-Err.ensures.read
