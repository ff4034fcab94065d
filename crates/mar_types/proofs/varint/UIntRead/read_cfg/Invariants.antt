use Rattle.mar_types.proofs.VarintSteps.{IsPartRead}
use Rattle.mar_types.proofs.varint.UIntRead.read_cfg.Given as goal

abbrev pub invariant-bytes : goal.invariant-bytes
invariant-bytes g l = IsPartRead l.place l.value l.weight (g.B.Buf.unread l.initial.buf) (g.B.Buf.unread l.buf)
