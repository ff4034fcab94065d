use Rattle.std.proofs.Common.{[], ap, arith, rules, sym, ◌+◌, ◌≡◌, ◌∙◌}
use Rattle.mar_key.specs.Processed.{height_of}
use Rattle.mar_store.specs.Changes.{heights}
use Rattle.mar_store.specs.Ranges.{ranges}
use Rattle.mar_repair.proofs.Tops.{nothing_missing, start_after}
use Rattle.mar_repair.proofs.asking.missing_heights.Goals as goal

pub returns-in-None : goal.returns-in-None
returns-in-None g c =
    let held = g.S.HoldsCache.held c.args.stores.now in
    λ whole. let none : c.new.result.items ≡ [] = search rules in none ∙ nothing_missing (ranges (heights held.blocks.held)) (height_of held.processed + 1) c.args.most (rw c.in-None.is at c.upper_height.ensures whole)

pub returns-in-Some : goal.returns-in-Some
returns-in-Some g c =
    let held = g.S.HoldsCache.held c.args.stores.now in
    let processed = c.get-processed.ensures.value ∙ (c.processed_height.ensures ∙ ap height_of c.floor.ensures.processed) in
    λ whole.
    let above = start_after (ranges (heights held.blocks.held)) (height_of held.processed + 1) c.in-Some._upper (sym (rw c.in-Some.is at c.upper_height.ensures whole)) in
    let from : c.new-from.result ≡ height_of held.processed + 1 = omega (arith, above, processed, c.new-from.ensures, c.saturating_add.ensures) in
    rw (← from, ← (c.blocks_held.ensures whole)) c.missing_items.ensures
