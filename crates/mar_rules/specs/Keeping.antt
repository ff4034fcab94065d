-- What starts of syncs come to as they are taken in for a caller.
use Rattle.std.specs.Prelude.{Bool, List, None, Option, Some, if◌then◌else◌, true, ℕ, ◌-◌, ◌<◌, ◌^◌, ◌≡◌, ◌≤◌, ◌⊎◌}
use Rattle.mar_types.specs.Round.{Round}
use Rattle.mar_cert.specs.Block.{Block}
use Rattle.mar_model.specs.Cache.{notarized_where}
use Rattle.mar_model.specs.CacheCalls.{GivesTicket, KeepsTickets, is_of_archive, none_goes}
use Rattle.mar_model.specs.Cached.{Cached}
use Rattle.mar_model.specs.Faults.{Fault, sync_kind, ticket_limit, want_of_memory}
use Rattle.mar_model.specs.Held.{Held}
use Rattle.mar_model.specs.Moves.{PutsAll, is_verified_in, with_cache_sync}
use Rattle.mar_model.specs.OpenSyncs.{AreStillOpen}
use Rattle.mar_model.specs.declared.CacheTicket.{CacheTicket}
use Rattle.mar_model.specs.declared.Section.{Section}
use Rattle.mar_model.specs.declared.Section.TheVariants.{Notarized, Verified}
use Rattle.mar_model.specs.declared.Started.{Started}
use Rattle.mar_model.specs.declared.Started.TheVariants.{Ready, Ticket}

-- the stores with the sync that was started, where one was
abbrev pub opened_for : (CacheTicket → List Cached) → Started → Option ℕ → Held → Held
opened_for covers Ready answer h = h
opened_for covers (Ticket t) answer h = with_cache_sync (covers t) answer h

-- the ticket that it is open under
abbrev pub ticket_for : Started → Held → Option ℕ
ticket_for Ready h = None
ticket_for (Ticket t) h = Some h.writes.next_sync

-- the syncs of two archives as one, where both were started
abbrev pub joined_of : Started → Started → Started
joined_of Ready others = Ready
joined_of (Ticket t) Ready = Ticket t
joined_of (Ticket t) (Ticket u) = Ticket (record { epoch = t.epoch; first = t.first; second = Some u.first })

-- why a sync that was started isn't open: memory ran out, or there is no ticket for it
abbrev pub IsUntaken : Started → Held → Fault → Type 0
IsUntaken started h fault = (fault ≡ want_of_memory) ⊎ ((fault ≡ ticket_limit sync_kind) × (h.writes.next_sync ≡ 2 ^ 64 - 1) × (started ≡ Ready → ⊥))

-- the archive that holds a certified block
abbrev pub block_section : Bool → Section
block_section is_verified = if is_verified then Verified else Notarized

-- A certified block stands in the cache, and a sync of its archive was started, unless its epoch is below the lowest.
pub record PutsCertified (r : Round) (b : Block) (started : Started) (old new : Held) (covers now : CacheTicket → List Cached) : Type 0 where
  pub below : r.epoch < old.lowest → (started ≡ Ready) × (new.cache.kept ≡ old.cache.kept)
  pub done : old.cache.loaded ≡ true → old.lowest ≤ r.epoch → PutsAll (notarized_where (is_verified_in old r b) r b) old.cache.kept new.cache.kept
      × GivesTicket now r.epoch (is_of_archive r.epoch (block_section (is_verified_in old r b))) new.cache.kept.held started
  pub loaded : new.cache.loaded ≡ old.cache.loaded
  pub still_open : AreStillOpen none_goes old.cache.syncs new.cache.syncs
  pub tickets : KeepsTickets none_goes covers now
  pub same : new ≡ record old { cache = new.cache; watches = new.watches }
