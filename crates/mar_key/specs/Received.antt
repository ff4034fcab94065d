-- What peers send and ask for, as the definitions see it.
use Rattle.std.specs.Prelude.{List, map, ℕ}
use Rattle.mar_key.specs.PeerQueue.{PeerMessage, deliver, produce}
use Rattle.mar_key.specs.Views.{annotation_of, key_of}
use Rattle.mar_key.specs.declared.pending.Message.{Message}
use Rattle.mar_key.specs.declared.pending.Message.TheVariants.{Deliver, Produce}

-- a message, by the bytes of a commitment
abbrev pub received : {D : Type 0} → (D → List ℕ) → Message D → PeerMessage
received bytes (Deliver t delivery value) = deliver t (key_of bytes delivery.key) value (map annotation_of delivery.annotations.items)
received bytes (Produce t k) = produce t (key_of bytes k)
