use Rattle.std.proofs.Common.{arith, inr}
use Rattle.mar_follower.proofs.Fronts.{no_blocks, no_count, no_finalization, no_others, no_top, takes_segment}
use Rattle.mar_follower.proofs.Judged.{right_by}
use Rattle.mar_follower.proofs.reading.read.Goals as goal

pub returns-in-Err-clause-err : goal.returns-in-Err-clause-err
returns-in-Err-clause-err g c = right_by c.in-Err.ensures.err (no_finalization _ _)

pub returns-in-Err-read_count-clause-err : goal.returns-in-Err-read_count-clause-err
returns-in-Err-read_count-clause-err g c = right_by c.in-Err-read_count.ensures.err (no_count _ _ _ _ c.in-Ok.ensures.is c.in-Ok.ensures.taken)

pub returns-then-count-eq0-clause-err : goal.returns-then-count-eq0-clause-err
returns-then-count-eq0-clause-err g c = inr (no_blocks _ _ _ _ c.in-Ok.ensures.is c.in-Ok.ensures.taken _ _ c.in-Ok-read_count.ensures.ok.taken c.if-count-eq0.true)

pub returns-in-Err-read_block-clause-err : goal.returns-in-Err-read_block-clause-err
returns-in-Err-read_block-clause-err g c = right_by c.in-Err-read_block.ensures.err (no_top _ _ _ _ c.in-Ok.ensures.is c.in-Ok.ensures.taken _ _ c.in-Ok-read_count.ensures.ok.taken)

pub returns-in-Ok-read_blocks-clause-ok : goal.returns-in-Ok-read_blocks-clause-ok
returns-in-Ok-read_blocks-clause-ok g c =
    takes_segment _ _ _ _ c.in-Ok.ensures.is c.in-Ok.ensures.taken c.in-Ok-read_count.count _ c.in-Ok-read_count.ensures.ok.taken
    _ _ c.in-Ok-read_block.ensures.is c.in-Ok-read_block.ensures.taken _ _ (omega arith) c.if-count-eq0.false c.in-Ok-read_blocks.ensures.ok

pub returns-in-Err-read_blocks-clause-err : goal.returns-in-Err-read_blocks-clause-err
returns-in-Err-read_blocks-clause-err g c =
    right_by c.in-Err-read_blocks.ensures.err (no_others _ _ _ _ c.in-Ok.ensures.is c.in-Ok.ensures.taken _ _ c.in-Ok-read_count.ensures.ok.taken
    _ _ c.in-Ok-read_block.ensures.is c.in-Ok-read_block.ensures.taken)
