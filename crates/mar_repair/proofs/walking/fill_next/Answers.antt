use Rattle.std.proofs.Common.{false, sym, true, ◌≡◌}
use Rattle.mar_model.specs.Views.{fault_of}
use Rattle.mar_repair.proofs.Found.{fill_small}
use Rattle.mar_repair.proofs.Rows.{only_read, only_then, read_whole, when_ok}
use Rattle.mar_repair.proofs.Steps.{ends_by, ends_unfound, falls_by, stops_unread, walks_by, walks_read}
use Rattle.mar_repair.proofs.walking.fill_next.Goals as goal

pub fill_found-requires-clause-intact : goal.fill_found-requires-clause-intact
fill_found-requires-clause-intact g c = read_whole (g.S.HoldsCache.held c.args.stores.now) (g.S.HoldsCache.held c.next_fill.new.stores) c.in-Ok-Some.ensures.same c.requires.intact

pub fill_found-requires-clause-small_block : goal.fill_found-requires-clause-small_block
fill_found-requires-clause-small_block g c = fill_small g.V.Variant.inner (g.B.Finds.blocks c.args.buffer.now) (g.S.HoldsCache.held c.args.stores.now) (g.V.Variant.plain c.in-Ok-Some.block) c.requires.small_buffer (c.law.ensures.small_cached c.requires.intact) (c.law.ensures.small c.requires.intact) (sym (rw c.in-Ok-Some.field-0-is at c.in-Ok-Some.ensures.found))

pub returns-in-Ok-None-clause-kept : goal.returns-in-Ok-None-clause-kept
returns-in-Ok-None-clause-kept g c = only_read (g.S.HoldsCache.held c.args.stores.now) (g.S.HoldsCache.held c.next_fill.new.stores) c.in-Ok-None.ensures.same

pub returns-in-Ok-None-clause-ends : goal.returns-in-Ok-None-clause-ends
returns-in-Ok-None-clause-ends g c = λ none. ends_unfound g.V.Variant.inner (g.B.Finds.blocks c.args.buffer.now) (g.S.HoldsCache.held c.args.stores.now) (g.S.HoldsCache.held c.next_fill.new.stores) c.in-Ok-None.ensures.same (rw c.in-Ok-None.field-0-is at c.in-Ok-None.ensures.found)

pub returns-in-Ok-None-clause-falls : goal.returns-in-Ok-None-clause-falls
returns-in-Ok-None-clause-falls g c = λ is. absurd (let no : false ≡ true = is in cc)

pub returns-in-Ok-None-clause-runs : goal.returns-in-Ok-None-clause-runs
returns-in-Ok-None-clause-runs g c = λ life standing asks sends answers. walks_read g.V.Variant.inner (g.B.Finds.blocks c.args.buffer.now) (g.S.HoldsCache.held c.args.stores.now) (g.S.HoldsCache.held c.next_fill.new.stores) _ standing _ c.in-Ok-None.ensures.same c.in-Ok-None.ensures.goes_on

pub returns-in-Ok-Some-clause-kept : goal.returns-in-Ok-Some-clause-kept
returns-in-Ok-Some-clause-kept g c = when_ok c.fill_found.result (only_then (g.S.HoldsCache.held c.args.stores.now) (g.S.HoldsCache.held c.next_fill.new.stores) (g.S.HoldsCache.held c.fill_found.new.stores) (only_read (g.S.HoldsCache.held c.args.stores.now) (g.S.HoldsCache.held c.next_fill.new.stores) c.in-Ok-Some.ensures.same)) c.fill_found.ensures.kept

pub returns-in-Ok-Some-clause-ends : goal.returns-in-Ok-Some-clause-ends
returns-in-Ok-Some-clause-ends g c = ends_by g.V.Variant.inner (g.B.Finds.blocks c.args.buffer.now) (g.S.HoldsCache.held c.args.stores.now) (g.S.HoldsCache.held c.next_fill.new.stores) c.in-Ok-Some.ensures.same (g.V.Variant.plain c.in-Ok-Some.block) (rw c.in-Ok-Some.field-0-is at c.in-Ok-Some.ensures.found) (g.S.HoldsCache.held c.fill_found.new.stores) c.fill_found.result c.fill_found.ensures.holds c.fill_found.ensures.has

pub returns-in-Ok-Some-clause-falls : goal.returns-in-Ok-Some-clause-falls
returns-in-Ok-Some-clause-falls g c = falls_by g.V.Variant.inner (g.B.Finds.blocks c.args.buffer.now) (g.S.HoldsCache.held c.args.stores.now) (g.S.HoldsCache.held c.next_fill.new.stores) c.in-Ok-Some.ensures.same (g.V.Variant.plain c.in-Ok-Some.block) (rw c.in-Ok-Some.field-0-is at c.in-Ok-Some.ensures.found) (g.S.HoldsCache.held c.fill_found.new.stores) c.fill_found.result c.fill_found.ensures.holds c.fill_found.ensures.has _ c.fill_found.ensures.below (rw c.in-Ok-Some.field-0-is at c.in-Ok-Some.ensures.missing)

pub returns-in-Ok-Some-clause-runs : goal.returns-in-Ok-Some-clause-runs
returns-in-Ok-Some-clause-runs g c = λ life standing asks sends answers. walks_by g.V.Variant.inner (g.B.Finds.blocks c.args.buffer.now) (g.S.HoldsCache.held c.args.stores.now) (g.S.HoldsCache.held c.next_fill.new.stores) c.in-Ok-Some.ensures.same (g.V.Variant.plain c.in-Ok-Some.block) (rw c.in-Ok-Some.field-0-is at c.in-Ok-Some.ensures.found) _ standing _ c.in-Ok-Some.ensures.goes_on (fault_of g.V.Commitment.Named.bytes) _ c.fill_found.result c.fill_found.ensures.holds (c.fill_found.ensures.runs life standing asks sends answers)

pub returns-in-Err-clause-runs : goal.returns-in-Err-clause-runs
returns-in-Err-clause-runs g c = λ life standing asks sends answers. stops_unread g.V.Variant.inner (g.B.Finds.blocks c.args.buffer.now) _ _ standing _ c.in-Err.ensures.goes_on c.in-Err.ensures.read
