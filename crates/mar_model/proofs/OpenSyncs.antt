-- Open syncs of the cache: what calls leave of them, and that each has a ticket of its own.
use Rattle.std.proofs.Common.{◌≡◌, ◌==◌, ℕ, List, [], ◌∷◌, Bool, true, false, cond, not, Option, Some, None, find, filter, refl, ap, ◌∙◌, ◌||◌, map}
use Rattle.std.specs.List.{list_any}
use Rattle.mar_model.specs.CacheCalls.{KeepsTickets}
use Rattle.mar_model.specs.Cached.{Cached}
use Rattle.mar_model.specs.Node.{CacheSync}
use Rattle.mar_model.specs.OpenSyncs.{AreStillOpen, NoneHas, covered_by, is_cache_sync, sync_of, syncs_by, waits_for, without_ticket}
use Rattle.mar_model.specs.declared.open_tickets.OpenTicket.{OpenTicket}
use Rattle.mar_model.specs.declared.started.CacheTicket.{CacheTicket}

-- STILL OPEN

pub AreStillOpen-refl : (gone : Cached → Bool) (syncs : List CacheSync) → AreStillOpen gone syncs syncs
AreStillOpen-refl gone [] = tt
AreStillOpen-refl gone (s ∷ syncs) = (record { ticket = refl; answer = refl; covers = λ x has stays. has }, AreStillOpen-refl gone syncs)

-- where more may go
pub AreStillOpen-more : (gone more : Cached → Bool) → ((x : Cached) → more x ≡ false → gone x ≡ false) → (old new : List CacheSync) → AreStillOpen gone old new → AreStillOpen more old new
AreStillOpen-more gone more fewer [] [] opened = tt
AreStillOpen-more gone more fewer [] (t ∷ new) opened = absurd opened
AreStillOpen-more gone more fewer (s ∷ old) [] opened = absurd opened
AreStillOpen-more gone more fewer (s ∷ old) (t ∷ new) opened = (record { ticket = opened.0.ticket; answer = opened.0.answer; covers = λ x has stays. opened.0.covers x has (fewer x stays) }, AreStillOpen-more gone more fewer old new opened.1)

-- one call after another
pub AreStillOpen-then : (gone later all : Cached → Bool) → ((x : Cached) → all x ≡ false → gone x ≡ false) → ((x : Cached) → all x ≡ false → later x ≡ false) → (a b c : List CacheSync) → AreStillOpen gone a b → AreStillOpen later b c → AreStillOpen all a c
AreStillOpen-then gone later all first second [] [] [] one two = tt
AreStillOpen-then gone later all first second [] [] (u ∷ c) one two = absurd two
AreStillOpen-then gone later all first second [] (t ∷ b) c one two = absurd one
AreStillOpen-then gone later all first second (s ∷ a) [] c one two = absurd one
AreStillOpen-then gone later all first second (s ∷ a) (t ∷ b) [] one two = absurd two
AreStillOpen-then gone later all first second (s ∷ a) (t ∷ b) (u ∷ c) one two = (
  record {
    ticket = two.0.ticket ∙ one.0.ticket;
    answer = two.0.answer ∙ one.0.answer;
    covers = λ x has stays. two.0.covers x (one.0.covers x has (first x stays)) (second x stays);
  },
  AreStillOpen-then gone later all first second a b c one.1 two.1,
)

-- what the cache's tickets cover stays, so they stay opened
pub AreStillOpen-kept : (gone : Cached → Bool) (covers now : CacheTicket → List Cached) → KeepsTickets gone covers now → (tickets : List OpenTicket) → AreStillOpen gone (syncs_by covers tickets) (syncs_by now tickets)
AreStillOpen-kept gone covers now keeps [] = tt
AreStillOpen-kept gone covers now keeps (o ∷ tickets) = (record { ticket = refl; answer = refl; covers = keeps o.sync }, AreStillOpen-kept gone covers now keeps tickets)

-- TICKETS OF THEIR OWN

pub without-none : (t : ℕ) (syncs : List CacheSync) → NoneHas t syncs → without_ticket t syncs ≡ syncs
without-none t [] none = refl
without-none t (s ∷ syncs) none = ap (λ c. cond (not c) (s ∷ without_ticket t syncs) (without_ticket t syncs)) none.0 ∙ ap (λ ss. s ∷ ss) (without-none t syncs none.1)

pub covered-none : (t : ℕ) (syncs : List CacheSync) → NoneHas t syncs → covered_by t syncs ≡ []
covered-none t [] none = refl
covered-none t (s ∷ syncs) none = ap (λ c. cond c s.entries (covered_by t syncs)) none.0 ∙ covered-none t syncs none.1

pub waits-none : (t : ℕ) (syncs : List CacheSync) → NoneHas t syncs → waits_for t syncs ≡ None
waits-none t [] none = refl
waits-none t (s ∷ syncs) none = ap (λ c. cond c s.answer (waits_for t syncs)) none.0 ∙ waits-none t syncs none.1

-- FOUND AMONG THE TICKETS

pub syncs-without : (covers : CacheTicket → List Cached) (t : ℕ) (tickets : List OpenTicket) → syncs_by covers (filter (λ o. not (o.number == t)) tickets) ≡ without_ticket t (syncs_by covers tickets)
syncs-without covers t [] = refl
syncs-without covers t (o ∷ tickets) = by (o.number == t) (syncs-without covers t tickets)
  where
    by : (c : Bool) → syncs_by covers (filter (λ p. not (p.number == t)) tickets) ≡ without_ticket t (syncs_by covers tickets) → syncs_by covers (cond (not c) (o ∷ filter (λ p. not (p.number == t)) tickets) (filter (λ p. not (p.number == t)) tickets)) ≡ cond (not c) (sync_of covers o ∷ without_ticket t (syncs_by covers tickets)) (without_ticket t (syncs_by covers tickets))
    by true rest = rest
    by false rest = ap (λ ss. sync_of covers o ∷ ss) rest

-- the sync of a ticket that is found
pub IsFound-opened : (covers : CacheTicket → List Cached) (t : ℕ) (tickets : List OpenTicket) (o : OpenTicket) → find (λ p. p.number == t) tickets ≡ Some o → (waits_for t (syncs_by covers tickets) ≡ o.answer) × (covered_by t (syncs_by covers tickets) ≡ covers o.sync)
IsFound-opened covers t [] o found = absurd cc
IsFound-opened covers t (p ∷ tickets) o found = by (p.number == t) found (IsFound-opened covers t tickets o)
  where
    inside : ◌≡◌ {A = Option OpenTicket} (Some p) (Some o) → p ≡ o
    inside is = cc

    by : (c : Bool) → cond c (Some p) (find (λ q. q.number == t) tickets) ≡ Some o → (find (λ q. q.number == t) tickets ≡ Some o → (waits_for t (syncs_by covers tickets) ≡ o.answer) × (covered_by t (syncs_by covers tickets) ≡ covers o.sync)) → (cond c p.answer (waits_for t (syncs_by covers tickets)) ≡ o.answer) × (cond c (covers p.sync) (covered_by t (syncs_by covers tickets)) ≡ covers o.sync)
    by true is rest = (ap (λ q. q.answer) (inside is), ap (λ q. covers q.sync) (inside is))
    by false is rest = rest is

-- nothing is found of a ticket that none has
pub NoneHas-unfound : (covers : CacheTicket → List Cached) (t : ℕ) (tickets : List OpenTicket) → find (λ p. p.number == t) tickets ≡ None → NoneHas t (syncs_by covers tickets)
NoneHas-unfound covers t [] found = tt
NoneHas-unfound covers t (p ∷ tickets) found = by (p.number == t) refl found (NoneHas-unfound covers t tickets)
  where
    by : (c : Bool) → (p.number == t) ≡ c → cond c (Some p) (find (λ q. q.number == t) tickets) ≡ None → (find (λ q. q.number == t) tickets ≡ None → NoneHas t (syncs_by covers tickets)) → ((p.number == t) ≡ false) × NoneHas t (syncs_by covers tickets)
    by true is none rest = absurd cc
    by false is none rest = (is, rest none)

-- it is open
pub open-found : (covers : CacheTicket → List Cached) (t : ℕ) (tickets : List OpenTicket) (o : OpenTicket) → find (λ p. p.number == t) tickets ≡ Some o → is_cache_sync (syncs_by covers tickets) t ≡ true
open-found covers t [] o found = absurd cc
open-found covers t (p ∷ tickets) o found = by (p.number == t) found (open-found covers t tickets o)
  where
    by : (c : Bool) → cond c (Some p) (find (λ q. q.number == t) tickets) ≡ Some o → (find (λ q. q.number == t) tickets ≡ Some o → is_cache_sync (syncs_by covers tickets) t ≡ true) → (c || is_cache_sync (syncs_by covers tickets) t) ≡ true
    by true is rest = refl
    by false is rest = rest is

pub open-listed : (covers : CacheTicket → List Cached) (t : ℕ) (tickets : List OpenTicket) → list_any (λ o. o.number == t) tickets ≡ is_cache_sync (syncs_by covers tickets) t
open-listed covers t [] = refl
open-listed covers t (o ∷ tickets) = ap (λ c. (o.number == t) || c) (open-listed covers t tickets)

-- the tickets are those of the syncs
pub numbers-are : (covers : CacheTicket → List Cached) (tickets : List OpenTicket) → map (λ o. o.number) tickets ≡ map (λ s. s.ticket) (syncs_by covers tickets)
numbers-are covers [] = refl
numbers-are covers (o ∷ tickets) = ap (λ ns. o.number ∷ ns) (numbers-are covers tickets)
