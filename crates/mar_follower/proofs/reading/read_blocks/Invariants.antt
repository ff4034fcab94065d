use Rattle.mar_follower.specs.Plain.{plain_blocks}
use Rattle.mar_follower.specs.Reading.{TakesBlocks}
use Rattle.mar_follower.proofs.reading.read_blocks.Given as goal

abbrev pub invariant-reading : goal.invariant-reading
invariant-reading g l = TakesBlocks l.counter (plain_blocks l.blocks.items) (g.B.Buf.unread l.initial.buf) (g.B.Buf.unread l.buf)
