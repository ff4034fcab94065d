-- Syncs of the cache that are open: what calls leave of them.
use Rattle.std.specs.Prelude.{Bool, Contains, List, None, Option, [], false, filter, if◌then◌else◌, map, not, ℕ, ⊤, ◌==◌, ◌∷◌, ◌≡◌}
use Rattle.std.specs.List.{AllByRecursion, list_any}
use Rattle.mar_model.specs.Cached.{Cached}
use Rattle.mar_model.specs.Node.{CacheSync}
use Rattle.mar_model.specs.declared.open_tickets.OpenTicket.{OpenTicket}
use Rattle.mar_model.specs.declared.started.CacheTicket.{CacheTicket}

-- A sync is still open: under its ticket, for whom it was, and over what it covered, but for what the test passes. It may
-- cover more than it did.
pub record IsStillOpen (gone : Cached → Bool) (old new : CacheSync) : Type 0 where
  pub ticket : new.ticket ≡ old.ticket
  pub answer : new.answer ≡ old.answer
  pub covers : (x : Cached) → Contains old.entries x → gone x ≡ false → Contains new.entries x

-- and so are all of them, in their order
abbrev pub AreStillOpen : (Cached → Bool) → List CacheSync → List CacheSync → Type 0
AreStillOpen gone [] [] = ⊤
AreStillOpen gone [] (t ∷ new) = ⊥
AreStillOpen gone (s ∷ old) [] = ⊥
AreStillOpen gone (s ∷ old) (t ∷ new) = IsStillOpen gone s t × AreStillOpen gone old new

-- none of them has this ticket
abbrev pub NoneHas : ℕ → List CacheSync → Type 0
NoneHas t syncs = AllByRecursion (λ s. (s.ticket == t) ≡ false) syncs

-- those of other tickets
abbrev pub without_ticket : ℕ → List CacheSync → List CacheSync
without_ticket t syncs = filter (λ s. not (s.ticket == t)) syncs

-- the sync of this ticket is open
abbrev pub is_cache_sync : List CacheSync → ℕ → Bool
is_cache_sync syncs t = list_any (λ s. s.ticket == t) syncs

-- what the sync of a ticket covers: nothing where it isn't open
abbrev pub covered_by : ℕ → List CacheSync → List Cached
covered_by t [] = []
covered_by t (s ∷ syncs) = if s.ticket == t then s.entries else covered_by t syncs

-- who waits for it
abbrev pub waits_for : ℕ → List CacheSync → Option ℕ
waits_for t [] = None
waits_for t (s ∷ syncs) = if s.ticket == t then s.answer else waits_for t syncs

-- an open sync, by what the cache's tickets cover
abbrev pub sync_of : (CacheTicket → List Cached) → OpenTicket → CacheSync
sync_of covers o = record { ticket = o.number; entries = covers o.sync; answer = o.answer }

abbrev pub syncs_by : (CacheTicket → List Cached) → List OpenTicket → List CacheSync
syncs_by covers tickets = map (sync_of covers) tickets
