use Rattle.mar_model.proofs.Keys.{epoch_changed, room_for}
use Rattle.mar_model.proofs.stream.put_cutoff.Goals as goal

pub put-requires : goal.put-requires
put-requires g c = record { room = room_for 0xFE _ c.requires.keys }

pub put-requires-in-Round : goal.put-requires-in-Round
put-requires-in-Round g c = record { room = room_for 0xFD (g.M.Meta.changed c.in_ok-meta-in-Round.meta) (rw c.in_ok-meta-in-Round.ensures.changes (epoch_changed _ c.requires.keys)) }

pub put-requires-in-Epoch : goal.put-requires-in-Epoch
put-requires-in-Epoch g c = record { room = room_for 0xFE _ c.requires.keys }

pub remove-requires : goal.remove-requires
remove-requires g c = record { room = room_for 0xFD (g.M.Meta.changed c.in_ok-meta-in-Epoch.meta) (rw c.in_ok-meta-in-Epoch.ensures.changes (epoch_changed _ c.requires.keys)) }
