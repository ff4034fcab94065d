use Rattle.std.proofs.Common.{length, map, ◌≡◌}
use Rattle.mar_key.specs.Places.{next_kept}
use Rattle.mar_key.specs.PeerQueue.{is_open}
use Rattle.mar_key.specs.Received.{received}
use Rattle.mar_key.proofs.pending.next_open.Given as goal

-- what comes next is what came next at the start
abbrev pub invariant-loop-message : goal.invariant-loop-message
invariant-loop-message g l = next_kept (is_open l.closed.keys) (map (received g.D.Named.bytes) l.others.items) ≡ next_kept (is_open l.closed.keys) (map (received g.D.Named.bytes) l.initial.others.items)

abbrev pub decreases-loop-message : goal.decreases-loop-message
decreases-loop-message g l = length l.others.items
