use Rattle.std.proofs.Common.{ap, arith, sym, ◌+◌, ◌∙◌}
use Rattle.std.proofs.lemmas.Result.{err_from_is_err_and}
use Rattle.mar_key.specs.Processed.{height_of}
use Rattle.mar_store.specs.Changes.{heights}
use Rattle.mar_store.specs.Kept.{has_height}
use Rattle.mar_store.specs.Ranges.{ranges}
use Rattle.mar_repair.proofs.Tops.{gap_below, start_after}
use Rattle.mar_repair.proofs.wanted.wanted_parent.Goals as goal

pub returns-in_err-block-clause-goes_on : goal.returns-in_err-block-clause-goes_on
returns-in_err-block-clause-goes_on g c =
    let p = err_from_is_err_and c.from_residual.result c.from_residual.ensures.1 in
    rw (p.1, p.2) c.in_err-block.ensures.goes_on

pub returns-clause-above : goal.returns-clause-above
returns-clause-above g c =
    let held = g.S.HoldsCache.held c.args.stores.now in
    let above = start_after (ranges (heights held.blocks.held)) (height_of held.processed + 1) c.in-Some.upper (sym (rw c.in-Some.is at c.upper_height.ensures c.requires.intact)) in
    omega (arith, above, c.new-height.ensures, c.saturating_sub.ensures)

pub returns-clause-missing : goal.returns-clause-missing
returns-clause-missing g c =
    let held = g.S.HoldsCache.held c.args.stores.now in
    ap (has_height held.blocks.held) (c.new-height.ensures ∙ c.saturating_sub.ensures) ∙ gap_below held.blocks.held (height_of held.processed + 1) c.in-Some.upper (sym (rw c.in-Some.is at c.upper_height.ensures c.requires.intact))
