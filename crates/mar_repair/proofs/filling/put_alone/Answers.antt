use Rattle.std.proofs.Common.{ap, ◌∙◌}
use Rattle.mar_model.specs.Acts.{store_block}
use Rattle.mar_model.specs.Views.{fault_of}
use Rattle.mar_model.proofs.Doing.{law_behind}
use Rattle.mar_repair.proofs.Rows.{acts_stored, only_block, put_block_alone, when_ok}
use Rattle.mar_repair.proofs.filling.put_alone.Goals as goal

pub returns-clause-kept : goal.returns-clause-kept
returns-clause-kept g c = when_ok c.put_block-put.result (only_block (g.S.HoldsCache.held c.args.stores.now) (g.S.HoldsCache.held c.put_block-put.new.self) (g.V.Variant.plain c.args.block).height) c.put_block-put.ensures.same

pub returns-clause-runs : goal.returns-clause-runs
returns-clause-runs g c =
    let e = c.put_block-put.ensures in
    let r = c.put_block-put.result in
    λ life standing heard. acts_stored g.V.Variant.inner (fault_of g.V.Commitment.Named.bytes) _ _ life standing heard (store_block (g.V.Variant.plain c.args.block)) r (put_block_alone _ _ _ r e.ok e.same) (law_behind _ r (when_ok r (λ same. ap (λ h. h.intact) same ∙ c.requires.intact) e.same) c.law.ensures.lawful) e.goes_on e.archive
