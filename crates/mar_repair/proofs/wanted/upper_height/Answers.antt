use Rattle.std.proofs.Common.{None, ap, arith, subst, ◌-◌, ◌^◌, ◌≡◌, ◌∙◌}
use Rattle.mar_key.specs.Processed.{height_of}
use Rattle.mar_store.specs.Changes.{heights}
use Rattle.mar_store.specs.Gaps.{next_start}
use Rattle.mar_store.specs.Ranges.{ranges}
use Rattle.mar_repair.proofs.Tops.{next_after}
use Rattle.mar_repair.proofs.wanted.upper_height.Goals as goal

pub returns-in-None : goal.returns-in-None
returns-in-None g c =
    let held = g.S.HoldsCache.held c.args.stores.now in
    let processed = c.get-processed.ensures.value ∙ (c.processed_height.ensures ∙ ap height_of c.floor.ensures.processed) in
    λ whole. next_after (ranges (heights held.blocks.held)) (2 ^ 64 - 1) (height_of held.processed) c.new-from.result None
    (rw c.in-None.is at c.next_gap.ensures.start ∙ ap (λ rs. next_start rs c.new-from.result) (c.blocks_held.ensures whole))
    (omega (arith, processed, c.new-from.ensures, c.saturating_add.ensures)) (omega (arith, processed, c.get-processed.ensures.fits)) tt

pub returns-in-Some : goal.returns-in-Some
returns-in-Some g c =
    let held = g.S.HoldsCache.held c.args.stores.now in
    let processed = c.get-processed.ensures.value ∙ (c.processed_height.ensures ∙ ap height_of c.floor.ensures.processed) in
    λ whole. rw c.get.ensures.value (next_after (ranges (heights held.blocks.held)) (2 ^ 64 - 1) (height_of held.processed) c.new-from.result _
    (rw c.in-Some.is at c.next_gap.ensures.start ∙ ap (λ rs. next_start rs c.new-from.result) (c.blocks_held.ensures whole))
    (omega (arith, processed, c.new-from.ensures, c.saturating_add.ensures)) (omega (arith, processed, c.get-processed.ensures.fits)) (omega (arith, c.get.ensures.value, c.get.ensures.fits)))
