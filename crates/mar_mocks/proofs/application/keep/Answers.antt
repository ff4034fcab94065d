use Rattle.std.proofs.Common.{sym, ◌∙◌}
use Rattle.std.specs.BTreeMap.{get}
use Rattle.std.specs.Ordering.{nat_cmp}
use Rattle.mar_mocks.proofs.Told.{blocks_stay, blocks_told, tip_stays, tip_told}
use Rattle.mar_mocks.proofs.application.keep.Goals as goal

pub returns-in-Tip-clause-tip : goal.returns-in-Tip-clause-tip
returns-in-Tip-clause-tip g c = λ reports before. rw c.in-Tip.is (sym (tip_told reports _ _ _))

pub returns-in-Tip-clause-blocks : goal.returns-in-Tip-clause-blocks
returns-in-Tip-clause-blocks g c = λ reports before h. rw c.in-Tip.is (before h ∙ sym (blocks_stay h reports _ _ _))

pub returns-in_ok-keep_block-in-Block-clause-tip : goal.returns-in_ok-keep_block-in-Block-clause-tip
returns-in_ok-keep_block-in-Block-clause-tip g c = λ reports before. rw c.in-Block.is (before ∙ sym (tip_stays reports _ _))

pub returns-in_ok-keep_block-in-Block-clause-blocks : goal.returns-in_ok-keep_block-in-Block-clause-blocks
returns-in_ok-keep_block-in-Block-clause-blocks g c = λ reports before. rw c.in-Block.is (
    blocks_told g.V.Variant.plain (get nat_cmp c.args.blocks.now) (get nat_cmp c.keep_block.new.blocks) reports _ _
    c.in_ok-keep_block-in-Block.ensures.at c.in_ok-keep_block-in-Block.ensures.others before)
