use Rattle.std.proofs.Common.{arith}
use Rattle.mar_ledger.proofs.PutKeys.{room_for}
use Rattle.mar_ledger.proofs.writing.put_balances.Goals as goal

pub put-requires : goal.put-requires
put-requires g c = record { room = room_for c.loop-account.account (g.M.Meta.changed c.loop-account.meta) (omega (arith, c.loop-account.invariant.few)) }
