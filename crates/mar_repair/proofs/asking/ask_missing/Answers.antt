use Rattle.std.proofs.Common.{ap, map, rules, subst, sym, ◌≡◌, ◌∙◌}
use Rattle.std.specs.List.{AllByRecursion}
use Rattle.mar_key.specs.Processed.{height_of}
use Rattle.mar_key.specs.Views.{call_of}
use Rattle.mar_model.specs.Repair.{gap_acts, search_of}
use Rattle.mar_repair.specs.Open.{IsOpen}
use Rattle.mar_model.specs.Views.{fault_of}
use Rattle.mar_repair.proofs.Rows.{asked_behind, failed_read, still_open}
use Rattle.mar_repair.proofs.asking.ask_missing.Goals as goal

pub request_all-requires : goal.request_all-requires
request_all-requires g c =
    let one = g.S.HoldsCache.held c.gap_requests.new.stores in
    let same : c.as_slice.result.now ≡ c.in-Ok.requests.items = search rules in
    record { live = subst (AllByRecursion (IsOpen (height_of one.processed))) (sym same) (still_open (g.S.HoldsCache.held c.args.stores.now) one c.in-Ok.requests.items c.in-Ok.ensures.same c.in-Ok.ensures.live) }

pub returns-in-Ok-clause-runs : goal.returns-in-Ok-clause-runs
returns-in-Ok-clause-runs g c =
    let old = g.S.HoldsCache.held c.args.stores.now in
    let one = g.S.HoldsCache.held c.gap_requests.new.stores in
    let same : c.as_slice.result.now ≡ c.in-Ok.requests.items = search rules in
    let are = ap (map (call_of g.V.Commitment.Named.bytes)) same ∙ c.in-Ok.ensures.are in
    λ life standing told sends answers. asked_behind g.V.Variant.inner (fault_of g.V.Commitment.Named.bytes) old one life standing _ _ _ _ c.request_all.result c.in-Ok.ensures.same c.in-Ok.ensures.goes_on are (c.request_all.ensures.runs life standing told sends answers)

pub returns-in-Err-clause-runs : goal.returns-in-Err-clause-runs
returns-in-Err-clause-runs g c =
    let old = g.S.HoldsCache.held c.args.stores.now in
    let acts = gap_acts (search_of g.V.Variant.inner (g.B.Finds.blocks c.args.buffer.now) old) c.args.most old.blocks.held in
    λ life standing told sends answers. failed_read g.V.Variant.inner acts old life standing _ c.in-Err.ensures.goes_on c.in-Err.ensures.read
