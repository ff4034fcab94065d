use Rattle.std.proofs.Common.{ap, ◌∙◌}
use Rattle.mar_model.specs.Promise.{heard_with}
use Rattle.mar_model.specs.Views.{fault_of}
use Rattle.mar_repair.specs.Walk.{at_tip}
use Rattle.mar_repair.proofs.Passes.{breaks_pass, broke_first, broke_walk, does_pass}
use Rattle.mar_repair.proofs.Rows.{still_whole, when_ok}
use Rattle.mar_repair.proofs.pass.repair.Goals as goal

pub fill_gaps-walked-requires-clause-intact : goal.fill_gaps-walked-requires-clause-intact
fill_gaps-walked-requires-clause-intact g c = still_whole (g.S.HoldsCache.held c.args.stores.now) (g.S.HoldsCache.held c.fill_newest.new.stores) c.in-Ok.ensures.kept c.requires.intact

pub ask_missing-requires : goal.ask_missing-requires
ask_missing-requires g c =
    let old = g.S.HoldsCache.held c.args.stores.now in
    let mid = g.S.HoldsCache.held c.fill_newest.new.stores in
    let one = g.S.HoldsCache.held c.fill_gaps-walked.new.stores in
    record { intact = still_whole mid one c.in-Ok-walked.ensures.kept (still_whole old mid c.in-Ok.ensures.kept c.requires.intact) }

pub returns-clause-whole : goal.returns-clause-whole
returns-clause-whole g c =
    let old = g.S.HoldsCache.held c.args.stores.now in
    let mid = g.S.HoldsCache.held c.fill_newest.new.stores in
    let one = g.S.HoldsCache.held c.fill_gaps-walked.new.stores in
    let whole = still_whole mid one c.in-Ok-walked.ensures.kept (still_whole old mid c.in-Ok.ensures.kept c.requires.intact) in
    when_ok c.ask_missing.result (λ same. ap (λ h. h.intact) same ∙ whole) c.ask_missing.ensures.same

pub returns-clause-runs : goal.returns-clause-runs
returns-clause-runs g c =
    let old = g.S.HoldsCache.held c.args.stores.now in
    let mid = g.S.HoldsCache.held c.fill_newest.new.stores in
    let one = g.S.HoldsCache.held c.fill_gaps-walked.new.stores in
    let new = g.S.HoldsCache.held c.ask_missing.new.stores in
    λ life standing sends answers is.
    let s = at_tip old life (g.T.Tips.last c.args.tips.now) standing (heard_with (g.T.Tips.told c.args.tips.now) (g.R.Resolver.told c.args.resolver.now) sends answers) in
    let m = at_tip mid life (g.T.Tips.last c.args.tips.now) standing (heard_with (g.T.Tips.told c.args.tips.now) (g.R.Resolver.told c.fill_newest.new.resolver) sends answers) in
    let n = at_tip one life (g.T.Tips.last c.fill_gaps-walked.new.tips) standing (heard_with (g.T.Tips.told c.fill_gaps-walked.new.tips) (g.R.Resolver.told c.fill_newest.new.resolver) sends answers) in
    let t = at_tip new life (g.T.Tips.last c.fill_gaps-walked.new.tips) standing (heard_with (g.T.Tips.told c.fill_gaps-walked.new.tips) (g.R.Resolver.told c.ask_missing.new.resolver) sends answers) in
    does_pass g.V.Variant.inner (g.B.Finds.blocks c.args.buffer.now) s m (c.in-Ok.ensures.runs (record life { tip = g.T.Tips.last c.args.tips.now }) standing (g.T.Tips.told c.args.tips.now) sends answers) c.in-Ok.ensures.kept c.in-Ok.ensures.holds n
    (c.in-Ok-walked.ensures.runs life standing (g.R.Resolver.told c.fill_newest.new.resolver) sends answers) c.in-Ok-walked.ensures.kept c.in-Ok-walked.ensures.ends c.args.max_repair is
    (fault_of g.V.Commitment.Named.bytes) t c.ask_missing.result (c.ask_missing.ensures.runs (record life { tip = g.T.Tips.last c.fill_gaps-walked.new.tips }) standing (g.T.Tips.told c.fill_gaps-walked.new.tips) sends answers)

pub returns-in-Err-clause-runs : goal.returns-in-Err-clause-runs
returns-in-Err-clause-runs g c =
    let old = g.S.HoldsCache.held c.args.stores.now in
    λ life standing sends answers is start whole rest reached.
    let s = at_tip old life (g.T.Tips.last c.args.tips.now) standing (heard_with (g.T.Tips.told c.args.tips.now) (g.R.Resolver.told c.args.resolver.now) sends answers) in
    breaks_pass g.V.Variant.inner (g.B.Finds.blocks c.args.buffer.now) s start whole rest (broke_first g.V.Variant.inner (g.B.Finds.blocks c.args.buffer.now) s (c.in-Err.ensures.runs (record life { tip = g.T.Tips.last c.args.tips.now }) standing (g.T.Tips.told c.args.tips.now) sends answers)) reached

pub returns-in-Err-walked-clause-runs : goal.returns-in-Err-walked-clause-runs
returns-in-Err-walked-clause-runs g c =
    let old = g.S.HoldsCache.held c.args.stores.now in
    let mid = g.S.HoldsCache.held c.fill_newest.new.stores in
    λ life standing sends answers is start whole rest reached.
    let s = at_tip old life (g.T.Tips.last c.args.tips.now) standing (heard_with (g.T.Tips.told c.args.tips.now) (g.R.Resolver.told c.args.resolver.now) sends answers) in
    let m = at_tip mid life (g.T.Tips.last c.args.tips.now) standing (heard_with (g.T.Tips.told c.args.tips.now) (g.R.Resolver.told c.fill_newest.new.resolver) sends answers) in
    breaks_pass g.V.Variant.inner (g.B.Finds.blocks c.args.buffer.now) s start whole rest
    (broke_walk g.V.Variant.inner (g.B.Finds.blocks c.args.buffer.now) s m (c.in-Ok.ensures.runs (record life { tip = g.T.Tips.last c.args.tips.now }) standing (g.T.Tips.told c.args.tips.now) sends answers) c.in-Ok.ensures.kept c.in-Ok.ensures.holds (c.in-Err-walked.ensures.runs life standing (g.R.Resolver.told c.fill_newest.new.resolver) sends answers)) reached
