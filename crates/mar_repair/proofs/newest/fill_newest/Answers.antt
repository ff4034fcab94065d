use Rattle.std.proofs.Common.{subst, sym, ◌<◌}
use Rattle.mar_key.specs.Processed.{height_of}
use Rattle.mar_model.specs.Moves.{at_height}
use Rattle.mar_model.specs.Repair.{alone_in, newest_acts, search_of}
use Rattle.mar_model.specs.Views.{fault_of}
use Rattle.mar_repair.proofs.Alone.{acts_none, acts_some, start_none, start_some}
use Rattle.mar_repair.proofs.Rows.{acts_behind, failed_read, none_behind, only_read, only_then, read_whole, when_ok}
use Rattle.mar_repair.proofs.newest.fill_newest.Goals as goal

pub fill_certified-requires-clause-intact : goal.fill_certified-requires-clause-intact
fill_certified-requires-clause-intact g c = read_whole (g.S.HoldsCache.held c.args.stores.now) (g.S.HoldsCache.held c.certified_alone.new.stores) c.in-Ok-Some.ensures.same c.requires.intact

pub fill_certified-requires-clause-above : goal.fill_certified-requires-clause-above
fill_certified-requires-clause-above g c = subst (λ h. height_of h.processed < c.in-Ok-Some.height) (sym c.in-Ok-Some.ensures.same) (rw c.in-Ok-Some.field-0-is at c.in-Ok-Some.ensures.above)

pub returns-in-Ok-None-clause-kept : goal.returns-in-Ok-None-clause-kept
returns-in-Ok-None-clause-kept g c = only_read (g.S.HoldsCache.held c.args.stores.now) (g.S.HoldsCache.held c.certified_alone.new.stores) c.in-Ok-None.ensures.same

pub returns-in-Ok-None-clause-holds : goal.returns-in-Ok-None-clause-holds
returns-in-Ok-None-clause-holds g c = start_none g.V.Variant.inner (g.B.Finds.blocks c.args.buffer.now) (g.S.HoldsCache.held c.args.stores.now) (g.S.HoldsCache.held c.certified_alone.new.stores) c.in-Ok-None.ensures.same (rw c.in-Ok-None.field-0-is at c.in-Ok-None.ensures.found)

pub returns-in-Ok-None-clause-runs : goal.returns-in-Ok-None-clause-runs
returns-in-Ok-None-clause-runs g c =
    let old = g.S.HoldsCache.held c.args.stores.now in
    let one = g.S.HoldsCache.held c.certified_alone.new.stores in
    let acts = newest_acts (search_of g.V.Variant.inner (g.B.Finds.blocks c.args.buffer.now) old) old.blocks.held (alone_in old) in
    λ life standing told sends answers. none_behind g.V.Variant.inner old one _ standing _ acts c.in-Ok-None.ensures.same c.in-Ok-None.ensures.goes_on (acts_none g.V.Variant.inner (g.B.Finds.blocks c.args.buffer.now) old (rw c.in-Ok-None.field-0-is at c.in-Ok-None.ensures.found))

pub returns-in-Ok-Some-clause-kept : goal.returns-in-Ok-Some-clause-kept
returns-in-Ok-Some-clause-kept g c =
    let old = g.S.HoldsCache.held c.args.stores.now in
    let one = g.S.HoldsCache.held c.certified_alone.new.stores in
    when_ok c.fill_certified.result (only_then old one (g.S.HoldsCache.held c.fill_certified.new.stores) (only_read old one c.in-Ok-Some.ensures.same)) c.fill_certified.ensures.kept

pub returns-in-Ok-Some-clause-holds : goal.returns-in-Ok-Some-clause-holds
returns-in-Ok-Some-clause-holds g c =
    let old = g.S.HoldsCache.held c.args.stores.now in
    let one = g.S.HoldsCache.held c.certified_alone.new.stores in
    let x = at_height c.in-Ok-Some.height (g.S.Finalization.AsFinalization.plain c.in-Ok-Some.finalization) in
    when_ok c.fill_certified.result (start_some g.V.Variant.inner (g.B.Finds.blocks c.args.buffer.now) old one c.in-Ok-Some.ensures.same x (g.S.HoldsCache.held c.fill_certified.new.stores).blocks.held (rw c.in-Ok-Some.field-0-is at c.in-Ok-Some.ensures.found)) c.fill_certified.ensures.holds

pub returns-in-Ok-Some-clause-runs : goal.returns-in-Ok-Some-clause-runs
returns-in-Ok-Some-clause-runs g c =
    let old = g.S.HoldsCache.held c.args.stores.now in
    let one = g.S.HoldsCache.held c.certified_alone.new.stores in
    let x = at_height c.in-Ok-Some.height (g.S.Finalization.AsFinalization.plain c.in-Ok-Some.finalization) in
    let acts = acts_some g.V.Variant.inner (g.B.Finds.blocks c.args.buffer.now) old one c.in-Ok-Some.ensures.same x (rw c.in-Ok-Some.field-0-is at c.in-Ok-Some.ensures.found) in
    λ life standing told sends answers. acts_behind g.V.Variant.inner (fault_of g.V.Commitment.Named.bytes) old one _ standing _ _ _ _ c.fill_certified.result c.in-Ok-Some.ensures.same c.in-Ok-Some.ensures.goes_on acts (c.fill_certified.ensures.runs life standing told sends answers)

pub returns-in-Err-clause-runs : goal.returns-in-Err-clause-runs
returns-in-Err-clause-runs g c =
    let old = g.S.HoldsCache.held c.args.stores.now in
    let acts = newest_acts (search_of g.V.Variant.inner (g.B.Finds.blocks c.args.buffer.now) old) old.blocks.held (alone_in old) in
    λ life standing told sends answers. failed_read g.V.Variant.inner acts old _ standing _ c.in-Err.ensures.goes_on c.in-Err.ensures.read
