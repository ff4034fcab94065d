use Rattle.std.proofs.Common.{false, refl, rules, subst, true, ◌≡◌, ◌∙◌}
use Rattle.mar_model.specs.Repair.{EndsFills}
use Rattle.mar_repair.proofs.Rows.{only_then, same_search, still_whole}
use Rattle.mar_repair.proofs.Steps.{stops_then, walks_first, walks_then}
use Rattle.mar_repair.proofs.walking.fill_gaps.Goals as goal

pub walk-init : goal.walk-init
walk-init g c = record {
  intact = c.requires.intact;
  lent = refl;
  kept = refl;
  walked = λ life standing asks sends answers. walks_first g.V.Variant.inner (g.B.Finds.blocks c.args.buffer.now) _;
}

pub walk-preserved : goal.walk-preserved
walk-preserved g c = record {
  intact = still_whole (g.S.HoldsCache.held c.walk.stores) (g.S.HoldsCache.held c.fill_next.new.stores) c.in-Ok-true.ensures.kept c.walk.invariant.intact;
  lent = c.fill_next.ensures.lent ∙ c.walk.invariant.lent;
  kept = only_then (g.S.HoldsCache.held c.args.stores.now) (g.S.HoldsCache.held c.walk.stores) (g.S.HoldsCache.held c.fill_next.new.stores) c.walk.invariant.kept c.in-Ok-true.ensures.kept;
  walked = λ life standing asks sends answers. walks_then g.V.Variant.inner (g.B.Finds.blocks c.args.buffer.now) _ _ c.walk.invariant.kept (c.walk.invariant.walked life standing asks sends answers) _ (c.in-Ok-true.ensures.runs life standing asks sends answers);
}

pub returns-in-Ok-false-clause-kept : goal.returns-in-Ok-false-clause-kept
returns-in-Ok-false-clause-kept g c = only_then (g.S.HoldsCache.held c.args.stores.now) (g.S.HoldsCache.held c.walk.stores) (g.S.HoldsCache.held c.fill_next.new.stores) c.walk.invariant.kept c.in-Ok-false.ensures.kept

pub returns-in-Ok-false-clause-ends : goal.returns-in-Ok-false-clause-ends
returns-in-Ok-false-clause-ends g c =
    let is : c.in-Ok-false.field-0 ≡ false = search rules in
    subst (λ s. EndsFills s (g.S.HoldsCache.held c.fill_next.new.stores).blocks.held) (same_search g.V.Variant.inner (g.B.Finds.blocks c.args.buffer.now) (g.S.HoldsCache.held c.args.stores.now) (g.S.HoldsCache.held c.walk.stores) c.walk.invariant.kept) (c.in-Ok-false.ensures.ends is)

pub returns-in-Ok-false-clause-runs : goal.returns-in-Ok-false-clause-runs
returns-in-Ok-false-clause-runs g c = λ life standing asks sends answers. walks_then g.V.Variant.inner (g.B.Finds.blocks c.args.buffer.now) _ _ c.walk.invariant.kept (c.walk.invariant.walked life standing asks sends answers) _ (c.in-Ok-false.ensures.runs life standing asks sends answers)

pub returns-in-Err-clause-runs : goal.returns-in-Err-clause-runs
returns-in-Err-clause-runs g c = λ life standing asks sends answers. stops_then g.V.Variant.inner (g.B.Finds.blocks c.args.buffer.now) _ _ c.walk.invariant.kept (c.walk.invariant.walked life standing asks sends answers) (c.in-Err.ensures.runs life standing asks sends answers)

pub walk-smaller : goal.walk-smaller
walk-smaller g c =
    let is : c.in-Ok-true.field-0 ≡ true = search rules in
    c.in-Ok-true.ensures.falls is

pub returns-in-Ok-false-clause-lent : goal.returns-in-Ok-false-clause-lent
returns-in-Ok-false-clause-lent g c = c.fill_next.ensures.lent ∙ c.walk.invariant.lent

pub returns-in-Err-clause-lent : goal.returns-in-Err-clause-lent
returns-in-Err-clause-lent g c = c.fill_next.ensures.lent ∙ c.walk.invariant.lent
