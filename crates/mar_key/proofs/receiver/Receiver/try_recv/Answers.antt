use Rattle.std.proofs.Common.{ap, sym, ◌∙◌}
use Rattle.mar_key.specs.PeerQueue.{peer_taken}
use Rattle.mar_key.specs.Received.{received}
use Rattle.mar_key.proofs.PeerTakes.{took}
use Rattle.mar_key.proofs.receiver.Receiver.try_recv.Goals as goal

pub returns : goal.returns
returns g c = ap peer_taken (sym c.self.view_is) ∙ (rw c.take.ensures.capacity (took (received g.D.Named.bytes) _ _ _ _ _ _ c.take.ensures.taken))
