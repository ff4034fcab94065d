use Rattle.std.proofs.Common.{◌≡◌, ◌++◌, drop}
use Rattle.std.specs.List.{flat_map}
use Rattle.mar_types.specs.Varint.{varint}
use Rattle.mar_statesync.proofs.writing.write_balances.Given as goal

abbrev pub invariant-balances : goal.invariant-balances
invariant-balances g l = g.B.BufMut.written l.buf ++ flat_map varint (drop l.balance-index l.balances) ≡ g.B.BufMut.written l.fn.buf ++ flat_map varint l.balances
