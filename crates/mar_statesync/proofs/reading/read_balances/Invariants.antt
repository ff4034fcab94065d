use Rattle.std.proofs.Common.{◌≡◌, ◌++◌, length, take}
use Rattle.std.specs.List.{flat_map}
use Rattle.mar_types.specs.Varint.{varint}
use Rattle.mar_statesync.proofs.reading.read_balances.Given as goal

abbrev pub invariant-loop-account : goal.invariant-loop-account
invariant-loop-account g l = record {
  sixteen : length l.balances ≡ 16;
  taken : g.B.Buf.unread l.initial.buf ≡ flat_map varint (take l.account l.balances) ++ g.B.Buf.unread l.buf;
}
