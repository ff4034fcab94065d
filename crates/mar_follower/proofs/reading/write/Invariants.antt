use Rattle.std.proofs.Common.{◌≡◌, ◌++◌, drop}
use Rattle.mar_follower.specs.Plain.{plain_blocks, plain_segment}
use Rattle.mar_follower.specs.Reading.{blocks_bytes}
use Rattle.mar_follower.specs.Segments.{segment_bytes}
use Rattle.mar_follower.proofs.reading.write.Given as goal

abbrev pub invariant-others : goal.invariant-others
invariant-others g l = g.B.BufMut.written l.buf ++ blocks_bytes (plain_blocks (drop l.block-index l.block-items)) ≡ g.B.BufMut.written l.fn.buf ++ segment_bytes (plain_segment l.segment)
