-- Calls over the stores of a life, one after another.
use Rattle.std.proofs.Common.{◌≡◌, ◌⊎◌, inl, inr, ap, subst, sym}
use Rattle.mar_model.specs.Faults.{Fault, ack_kind, ticket_limit, want_of_memory}
use Rattle.mar_model.specs.Held.{Held, IsArchiveFault, IsNoStores}
use Rattle.mar_model.specs.Moves.{IsRead}
use Rattle.mar_model.specs.Scene.{Window, windowed}

-- THE RULES END THE LIFE

-- no store's fault, and one by which handing over may end
pub unhanded : {T : Type 0} (fault : Fault) → (fault ≡ want_of_memory) ⊎ ((fault ≡ ticket_limit ack_kind) × T) → IsNoStores fault × (IsArchiveFault fault ⊎ ((fault ≡ ticket_limit ack_kind) × T))
unhanded fault (inl memory) = (subst IsNoStores (sym memory) tt, inl (subst IsArchiveFault (sym memory) tt))
unhanded fault (inr (limit, last)) = (subst IsNoStores (sym limit) tt, inr (limit, last))

-- the same window over stores that were read
pub read_over : (w : Window) (h k : Held) → k ≡ record h { watches = k.watches } → IsRead (windowed h w) (windowed k w)
read_over w h k is = ap (λ x. windowed x w) is
