-- The open syncs of the cache: that their numbers are their own, and what is left of them as one finishes.
use Rattle.std.proofs.Common.{◌≡◌, ◌==◌, ◌<◌, ◌≤◌, ◌+◌, map, ◌++◌, ◌⊎◌, ⊎_elim, ℕ, List, [], ◌∷◌, Bool, true, false, cond, not, Option, Some, None, Contains, Result, filter, find, refl, sym, ap, subst, ◌∙◌, arith, ne_eqb}
use Rattle.std.proofs.lemmas.Bool.{or_from, or_parts}
use Rattle.std.proofs.lemmas.List.{map-append}
use Rattle.std.proofs.lemmas.List.Elements.{Contains-append_left}
use Rattle.std.proofs.lemmas.List.Folds.{list_any-append}
use Rattle.std.proofs.lemmas.Option.{none-some}
use Rattle.std.specs.List.{AllByRecursion, list_any}
use Rattle.std.specs.Prelude.{OnErr, OnOk}
use Rattle.mar_types.specs.Round.{Round}
use Rattle.mar_cert.specs.Block.{Block}
use Rattle.mar_cert.specs.Finalization.{Finalization}
use Rattle.mar_key.specs.Cutoff.{Cutoff}
use Rattle.mar_key.specs.Processed.{Processed}
use Rattle.mar_store.specs.Kept.{At, Kept}
use Rattle.mar_store.specs.Watch.{Watch}
use Rattle.mar_model.specs.CacheCalls.{IsNestedCache, KeepsTickets, none_goes}
use Rattle.mar_model.specs.Cached.{Cached}
use Rattle.mar_model.specs.Held.{HaveOwnTickets}
use Rattle.mar_model.specs.Metadata.{Pair}
use Rattle.mar_model.specs.Moves.{with_cache_sync}
use Rattle.mar_model.specs.OpenSyncs.{AreStillOpen, covered_by, sync_of, syncs_by, without_ticket}
use Rattle.mar_model.specs.Pool.{Pool, Pooled, pool_deferred, pool_ticketed, writing_of}
use Rattle.mar_model.specs.Writing.{IsOrdered, OpenSync, Writing, is_open_sync, total_writes, with_all_covered, with_finished, with_started, without_sync}
use Rattle.mar_model.specs.declared.CacheTicket.{CacheTicket}
use Rattle.mar_model.specs.declared.OpenTicket.{OpenTicket}
use Rattle.mar_model.specs.declared.Place.{Place}
use Rattle.mar_model.specs.declared.Place.TheVariants.{Away, Lost, Open}
use Rattle.mar_model.proofs.OpenSyncs.{AreStillOpen-kept, NoneHas-unfound, covered-none, numbers-are, syncs-without}
use Rattle.mar_store.specs.Gaps.{AscendAbove}
use Rattle.mar_life.proofs.Placed.{either}
use Rattle.mar_life.proofs.Reading.{life}
use Rattle.mar_life.specs.Caching.{FinishesInLife, LifeEntries, with_syncs}
use Rattle.mar_life.specs.Pooling.{AwaitsIn, OwnNumbers}

-- NUMBERS OF THEIR OWN

-- a number that was given out, and that no open sync of both archives has
abbrev IsOwn : Writing → ℕ → Type 0
IsOwn w n = (n < w.next_sync) × (is_open_sync w.syncs n ≡ false)

-- each has one
abbrev AreOwn : Writing → List OpenTicket → Type 0
AreOwn w = AllByRecursion (λ o. IsOwn w o.number)

-- what keeps each such number keeps all
own_so : (old new : Writing) → ((n : ℕ) → IsOwn old n → IsOwn new n) → (tickets : List OpenTicket) → OwnNumbers old tickets → OwnNumbers new tickets
own_so old new keeps tickets own = record { own = each tickets own.own; ascend = own.ascend }
  where
    each : (others : List OpenTicket) → AreOwn old others → AreOwn new others
    each [] own = tt
    each (o ∷ others) own = (keeps o.number own.0, each others own.1)

-- so the syncs have tickets of their own, whatever they cover
pub own_tickets : (w : Writing) (covers : CacheTicket → List Cached) (tickets : List OpenTicket) → OwnNumbers w tickets → HaveOwnTickets w (syncs_by covers tickets)
own_tickets w covers tickets own = record { own = each tickets own.own; ascend = subst (AscendAbove 0) (numbers-are covers tickets) own.ascend }
  where
    each : (others : List OpenTicket) → AreOwn w others → AllByRecursion (λ s. (s.ticket < w.next_sync) × (is_open_sync w.syncs s.ticket ≡ false)) (syncs_by covers others)
    each [] own = tt
    each (o ∷ others) own = (own.0, each others own.1)

-- a sync of both archives was started
own_started : (w : Writing) (n : ℕ) → IsOwn w n → IsOwn (with_started w) n
own_started w n own = (
  let below = own.0 in omega (arith, below),
  list_any-append (λ s. s.ticket == n) w.syncs (record { ticket = w.next_sync; position = total_writes w } ∷ []) ∙ rw (own.1, ne_eqb w.next_sync n (λ is. let below = own.0 in omega (arith, below, is))) refl,
)

-- one of them has finished
unopened : (t n : ℕ) (syncs : List OpenSync) → is_open_sync syncs n ≡ false → is_open_sync (without_sync t syncs) n ≡ false
unopened t n [] none = refl
unopened t n (s ∷ syncs) none = let both = or_parts (s.ticket == n) (is_open_sync syncs n) none in by (s.ticket == t) both.0 (unopened t n syncs both.1)
  where
    by : (b : Bool) → (s.ticket == n) ≡ false → is_open_sync (without_sync t syncs) n ≡ false → list_any (λ r. r.ticket == n) (cond (not b) (s ∷ without_sync t syncs) (without_sync t syncs)) ≡ false
    by true first others = others
    by false first others = or_from (s.ticket == n) (is_open_sync (without_sync t syncs) n) first others

-- a call of the archives, which starts a sync or finishes one, or fails
pub own_after_start : {X C : Type 0} (r : Result X C) (old new : Pool) (tickets : List OpenTicket) → OnOk r (writing_of new ≡ with_started (writing_of old)) → OnErr r (new ≡ old) → OwnNumbers (writing_of old) tickets → OwnNumbers (writing_of new) tickets
own_after_start r old new tickets started same own = either r started same
    (λ is. subst (λ w. OwnNumbers w tickets) (sym is) (own_so (writing_of old) (with_started (writing_of old)) (own_started (writing_of old)) tickets own))
    (λ is. subst (λ p. OwnNumbers (writing_of p) tickets) (sym is) own)

pub own_after_finish : {X C : Type 0} (t : ℕ) (r : Result X C) (old new : Pool) (tickets : List OpenTicket) → OnOk r (writing_of new ≡ with_finished t (writing_of old)) → OnErr r (new ≡ old) → OwnNumbers (writing_of old) tickets → OwnNumbers (writing_of new) tickets
own_after_finish t r old new tickets finished same own = either r finished same
    (λ is. subst (λ w. OwnNumbers w tickets) (sym is) (own_so (writing_of old) (with_finished t (writing_of old)) (λ n has. (has.0, unopened t n _ has.1)) tickets own))
    (λ is. subst (λ p. OwnNumbers (writing_of p) tickets) (sym is) own)

-- a sync of both archives that covers all writes, or that fails
pub own_after_sync : {X C : Type 0} (r : Result X C) (old new : Pool) (tickets : List OpenTicket) → OnOk r (writing_of new ≡ with_all_covered (writing_of old)) → OnErr r (new ≡ old) → OwnNumbers (writing_of old) tickets → OwnNumbers (writing_of new) tickets
own_after_sync r old new tickets covered same own = either r covered same
    (λ is. subst (λ w. OwnNumbers w tickets) (sym is) (own_so (writing_of old) (with_all_covered (writing_of old)) (λ n has. has) tickets own))
    (λ is. subst (λ p. OwnNumbers (writing_of p) tickets) (sym is) own)

-- a write was deferred, or none was
pub own_after_write : (old new : Pool) (height : ℕ) (tickets : List OpenTicket) → (new ≡ old) ⊎ (new ≡ pool_deferred height old) → OwnNumbers (writing_of old) tickets → OwnNumbers (writing_of new) tickets
own_after_write old new height tickets deferred own = ⊎_elim (λ is. subst (λ p. OwnNumbers (writing_of p) tickets) (sym is) own) (λ is. subst (λ p. OwnNumbers (writing_of p) tickets) (sym is) (own_so (writing_of old) (writing_of (pool_deferred height old)) (λ n has. has) tickets own)) deferred

-- OPENED

-- no sync of both archives has the next ticket
next_unopened : (next : ℕ) (syncs : List OpenSync) → AllByRecursion (λ s. s.ticket < next) syncs → is_open_sync syncs next ≡ false
next_unopened next [] below = refl
next_unopened next (s ∷ syncs) below = or_from (s.ticket == next) (is_open_sync syncs next) (ne_eqb s.ticket next (λ is. let less = below.0 in omega (arith, less, is))) (next_unopened next syncs below.1)

own_last : (w : Writing) (tickets : List OpenTicket) (o : OpenTicket) → AreOwn w tickets → IsOwn w o.number → AreOwn w (tickets ++ o ∷ [])
own_last w [] o own has = (has, tt)
own_last w (t ∷ tickets) o own has = (own.0, own_last w tickets o own.1 has)

-- which is later than those that were given out
ascend_last : (w : Writing) (low : ℕ) (tickets : List OpenTicket) (o : OpenTicket) → AreOwn w tickets → w.next_sync ≤ o.number → low ≤ o.number → AscendAbove low (map (λ p. p.number) tickets) → AscendAbove low (map (λ p. p.number) (tickets ++ o ∷ []))
ascend_last w low [] o own next above ascend = (above, tt)
ascend_last w low (t ∷ tickets) o own next above ascend = (ascend.0, ascend_last w (t.number + 1) tickets o own.1 next (let given : t.number < w.next_sync = own.0.0 in omega (arith, given, next)) ascend.1)

-- a sync of the cache is open under that
pub own_opened : (pool : Pool) (tickets : List OpenTicket) (o : OpenTicket) → o.number ≡ pool.next_sync → IsOrdered (writing_of pool) → OwnNumbers (writing_of pool) tickets → OwnNumbers (writing_of (pool_ticketed pool)) (tickets ++ o ∷ [])
own_opened pool tickets o is ordered own = record {
  own = own_last (writing_of (pool_ticketed pool)) tickets o
      (own_so (writing_of pool) (writing_of (pool_ticketed pool)) (λ n has. (let below = has.0 in omega (arith, below), has.1)) tickets own).own
      (subst (IsOwn (writing_of (pool_ticketed pool))) (sym is) (omega arith, next_unopened pool.next_sync (writing_of pool).syncs ordered.below));
  ascend = ascend_last (writing_of pool) 0 tickets o own.own (omega (arith, is)) (omega arith) own.ascend;
}

-- what the archives keep for the open syncs they keep still
waits_ticketed : {T S W : Type 0} (stored : S → Kept (At T)) (number : S → ℕ) (covers : S → ℕ → List (At T)) (ticket_of : Pooled → ℕ) (place : Place S W) (pool : Pool) → AwaitsIn ticket_of stored number covers place pool → AwaitsIn ticket_of stored number covers place (pool_ticketed pool)
waits_ticketed stored number covers ticket_of (Open s) pool waits = record { written = waits.written; given = waits.given; covered = waits.covered }
waits_ticketed stored number covers ticket_of (Lost w) pool waits = tt
waits_ticketed stored number covers ticket_of Away pool waits = absurd waits

pub waits_opened : {T S W X C : Type 0} (E : Type 0) (r : Result X C) (stored : S → Kept (At T)) (number : S → ℕ) (covers : S → ℕ → List (At T)) (ticket_of : Pooled → ℕ) (place : Place S W) (old new : Pool) → OnOk r (new ≡ pool_ticketed old) → OnErr r (E × (new ≡ old)) → AwaitsIn ticket_of stored number covers place old → AwaitsIn ticket_of stored number covers place new
waits_opened E r stored number covers ticket_of place old new ticketed same waits = either r ticketed same
    (λ is. subst (AwaitsIn ticket_of stored number covers place) (sym is) (waits_ticketed stored number covers ticket_of place old waits))
    (λ is. subst (AwaitsIn ticket_of stored number covers place) (sym is.1) waits)

-- it is open behind the others
syncs_opened : (covers : CacheTicket → List Cached) (tickets now : List OpenTicket) (o : OpenTicket) → now ≡ tickets ++ o ∷ [] → syncs_by covers now ≡ syncs_by covers tickets ++ sync_of covers o ∷ []
syncs_opened covers tickets now o is = ap (syncs_by covers) is ∙ map-append (sync_of covers) tickets (o ∷ [])

-- which changes nothing else but the ticket of the next one
pub cache_opened : {blocks : Kept (At Block)} {certs : Kept (At Finalization)} {of_blocks of_certs meta w : Watch} {processed : Option Processed} {cutoff : Cutoff} {witnessed : Round} {pairs : List Pair} {lowest : ℕ} {lowests : List ℕ} {intact : Bool} (e : LifeEntries) (covers : CacheTicket → List Cached) (tickets now : List OpenTicket) (pool later : Pool) (sync : CacheTicket) (answer : Option ℕ) → now ≡ tickets ++ record { number = pool.next_sync; sync = sync; answer = answer } ∷ [] → later ≡ pool_ticketed pool
    → life blocks of_blocks certs of_certs processed cutoff witnessed pairs (with_syncs e covers now) lowest lowests (writing_of later) meta w intact
    ≡ with_cache_sync (covers sync) answer (life blocks of_blocks certs of_certs processed cutoff witnessed pairs (with_syncs e covers tickets) lowest lowests (writing_of pool) meta w intact)
cache_opened e covers tickets now pool later sync answer opened ticketed = rw (syncs_opened covers tickets now _ opened, ticketed) refl

-- FINISHED

-- from a lower number on
ascend_lower : (low high : ℕ) (xs : List ℕ) → low ≤ high → AscendAbove high xs → AscendAbove low xs
ascend_lower low high [] below ascend = tt
ascend_lower low high (x ∷ xs) below ascend = (let above : high ≤ x = ascend.0 in omega arith, ascend.1)

-- one that is open no longer takes no number from another
own_without : (w : Writing) (t : ℕ) (tickets : List OpenTicket) → OwnNumbers w tickets → OwnNumbers w (filter (λ o. not (o.number == t)) tickets)
own_without w t tickets own = record { own = each tickets own.own; ascend = ascend_without 0 tickets own.ascend }
  where
    others : List OpenTicket → List OpenTicket
    others = filter (λ p. not (p.number == t))

    each : (ts : List OpenTicket) → AreOwn w ts → AreOwn w (others ts)
    each [] own = tt
    each (o ∷ ts) own = by (o.number == t) (each ts own.1)
      where
        by : (b : Bool) → AreOwn w (others ts) → AreOwn w (cond (not b) (o ∷ others ts) (others ts))
        by true rest = rest
        by false rest = (own.0, rest)

    ascend_without : (low : ℕ) (ts : List OpenTicket) → AscendAbove low (map (λ p. p.number) ts) → AscendAbove low (map (λ p. p.number) (others ts))
    ascend_without low [] ascend = tt
    ascend_without low (o ∷ ts) ascend = by (o.number == t) (ascend_without (o.number + 1) ts ascend.1)
      where
        by : (b : Bool) → AscendAbove (o.number + 1) (map (λ p. p.number) (others ts)) → AscendAbove low (map (λ p. p.number) (cond (not b) (o ∷ others ts) (others ts)))
        by true rest = ascend_lower low (o.number + 1) (map (λ p. p.number) (others ts)) (let above : low ≤ o.number = ascend.0 in omega (arith, above)) rest
        by false rest = (ascend.0, rest)

pub own_closed : {X C : Type 0} (t : ℕ) (r : Result X C) (w : Writing) (old new : List OpenTicket) → OnOk r (new ≡ filter (λ o. not (o.number == t)) old) → OnErr r (new ≡ old) → OwnNumbers w old → OwnNumbers w new
own_closed t r w old new closed same own = either r closed same (λ is. subst (OwnNumbers w) (sym is) (own_without w t old own)) (λ is. subst (OwnNumbers w) (sym is) own)

-- the others are open still
pub still_closed : (t : ℕ) (covers now : CacheTicket → List Cached) (old new : List OpenTicket) → KeepsTickets none_goes covers now → new ≡ filter (λ o. not (o.number == t)) old → AreStillOpen none_goes (without_ticket t (syncs_by covers old)) (syncs_by now new)
still_closed t covers now old new keeps is = subst (λ ss. AreStillOpen none_goes ss (syncs_by now new)) (ap (syncs_by covers) is ∙ syncs-without covers t old) (AreStillOpen-kept none_goes covers now keeps new)

-- where none is open under a ticket none is taken out
pub none_closed : (t : ℕ) (tickets : List OpenTicket) → find (λ o. o.number == t) tickets ≡ None → tickets ≡ filter (λ o. not (o.number == t)) tickets
none_closed t [] none = refl
none_closed t (o ∷ tickets) none = by (o.number == t) (find (λ p. p.number == t) tickets) (filter (λ p. not (p.number == t)) tickets) (none_closed t tickets) none
  where
    by : (b : Bool) (found : Option OpenTicket) (left : List OpenTicket) → (found ≡ None → tickets ≡ left) → cond b (Some o) found ≡ None → o ∷ tickets ≡ cond (not b) (o ∷ left) left
    by true found left leads is = absurd (none-some _ (sym is))
    by false found left leads is = ap (λ os. o ∷ os) (leads is)

-- and nothing finishes
pub none_finishes : (t : ℕ) (covers : CacheTicket → List Cached) (tickets : List OpenTicket) (e : LifeEntries) (lowest : ℕ) (loaded : Bool) → find (λ o. o.number == t) tickets ≡ None → IsNestedCache e.kept lowest loaded → FinishesInLife (covered_by t (syncs_by covers tickets)) e e covers covers
none_finishes t covers tickets e lowest loaded none nested = subst (λ entries. FinishesInLife entries e e covers covers) (sym (covered-none t (syncs_by covers tickets) (NoneHas-unfound covers t tickets none))) (record {
  finishes = record { held = refl; sure = λ x has. has; finished = λ x has. absurd (none_in x has); may = λ x has. has };
  leaves = record { stays = λ x has stays. has; held = λ x has stays. nested.held_may x has; within = λ x has. Contains-append_left e.kept.may [] x has };
  loaded = refl;
  fresh = refl;
  tickets = λ k x has stays. has;
})
  where
    none_in : (x : Cached) → Contains [] x → ⊥
    none_in x (k, lt, is) = omega (arith, lt)
