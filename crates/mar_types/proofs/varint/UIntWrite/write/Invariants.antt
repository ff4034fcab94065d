use Rattle.mar_types.proofs.VarintSteps.{IsPartWritten}
use Rattle.mar_types.proofs.varint.UIntWrite.write.Given as goal

abbrev pub invariant-bytes : goal.invariant-bytes
invariant-bytes g l =
    IsPartWritten l.initial.value l.value (g.B.BufMut.written l.initial.buf) (g.B.BufMut.written l.buf) (g.B.BufMut.spare l.initial.buf) (g.B.BufMut.spare l.buf)

abbrev pub decreases-bytes : goal.decreases-bytes
decreases-bytes g l = l.value
