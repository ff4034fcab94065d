use Rattle.std.proofs.Common.{arith}
use Rattle.mar_ledger.proofs.PutKeys.{changed_more, room_for}
use Rattle.mar_ledger.proofs.writing.put_all.Goals as goal

pub put-requires : goal.put-requires
put-requires g c = record { room = room_for 16 (g.M.Meta.changed c.in_ok-meta.meta) (omega (arith, c.in_ok-meta.ensures.few)) }

pub put-requires-2 : goal.put-requires-2
put-requires-2 g c = record { room = room_for 17 _ (changed_more 16 16 _ _ c.in_ok-meta.ensures.few c.in_ok-meta-2.ensures.changes) }
