use Rattle.std.proofs.Common.{length, map, min, vec_capacity, vec_len, ◌+◌, ◌-◌, ◌≡◌, ◌≤◌}
use Rattle.mar_key.specs.PeerQueue.{after_peer_take}
use Rattle.mar_key.specs.Received.{received}
use Rattle.mar_key.proofs.PeerTakes.{behind}
use Rattle.mar_key.proofs.receiver.Receiver.take.Given as goal

-- what was taken, and what is still to be taken, are together what the definitions take; there is room for all of it
abbrev pub invariant-loop-self : goal.invariant-loop-self
invariant-loop-self g l = record {
  taken : after_peer_take l.most l.initial.self ≡ behind (map (received g.D.Named.bytes) l.messages.items) (after_peer_take (l.most - vec_len l.messages) l.self);
  queued : vec_len l.messages + (length l.self.ready + length l.self.overflow) ≤ length l.initial.self.ready + length l.initial.self.overflow;
  room : min l.most (length l.initial.self.ready + length l.initial.self.overflow) ≤ vec_capacity l.messages;
}

abbrev pub decreases-loop-self : goal.decreases-loop-self
decreases-loop-self g l = l.most - vec_len l.messages
