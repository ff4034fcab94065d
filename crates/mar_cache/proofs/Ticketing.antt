-- What tickets cover, from one call to the next.
use Rattle.std.proofs.Common.{◌≡◌, ◌⊎◌, inl, inr, ◌≤◌, ◌==◌, ◌&&◌, ◌<◌, nat_le, nat_lt, not, ℕ, List, [], ◌∷◌, Bool, true, false, IsTrue, Contains, Option, Some, None, cond, filter, refl, ap, sym, subst, arith, ◌∙◌}
use Rattle.std.specs.Prelude.{⊤}
use Rattle.std.specs.List.{AllByRecursion}
use Rattle.std.proofs.lemmas.Bool.{cases_eq, eq-eqb, eqb-true, le-leb, leb-true, ltb-false, ltb-true}
use Rattle.std.proofs.lemmas.List.Elements.{Contains-append_cases, Contains-append_left, Contains-append_right}
use Rattle.mar_store.specs.Changes.{Within}
use Rattle.mar_store.specs.Tickets.{last_number}
use Rattle.mar_model.specs.Cache.{same_archive}
use Rattle.mar_model.specs.CacheCalls.{GivesTicket, KeepsTickets, StartsSync, is_of_archive, is_ready}
use Rattle.mar_model.specs.Cached.{Cached, certified_entry, epoch_of, finalization_entry, notarization_entry, notarized_entry, verified_entry}
use Rattle.mar_model.specs.Sections.{is_in, section_of}
use Rattle.mar_model.specs.declared.CacheTicket.{CacheTicket}
use Rattle.mar_model.specs.declared.Section.{Section}
use Rattle.mar_model.specs.declared.SectionSync.{SectionSync}
use Rattle.mar_model.specs.declared.Started.{Started}
use Rattle.mar_model.specs.declared.Started.TheVariants.{Ready, Ticket}
use Rattle.mar_epochs.specs.EpochArchives.{Book, CoversAllLast, is_kept, puts_of}
use Rattle.mar_epochs.specs.EpochStates.{ChangesEpoch, EpochState, EpochStates, IsNestedEpoch, OpensEpoch, held_in, is_opened, opened, shut}
use Rattle.mar_epochs.specs.declared.Change.{Change}
use Rattle.mar_epochs.proofs.Filtering.{filter_agree}
use Rattle.mar_cache.specs.AsOne.{covered_part, covered_with, covers_of, kept_of}
use Rattle.mar_cache.specs.Bounds.{Bounds}
use Rattle.mar_cache.specs.Calls.{IsPut}
use Rattle.mar_cache.specs.Nested.{in_nothing}
use Rattle.mar_cache.specs.Shelved.{AllChanges, GrowsEpoch, IsStarted, LieWithin, OpensOrStays, ThinsEpoch}
use Rattle.mar_cache.proofs.Shelving.{changes_grows, filter_contains, grows_itself, grows_then, held_kept}
use Rattle.mar_model.proofs.EntryLists.{filter_passed, filtered}
use Rattle.mar_cache.proofs.StateLosses.{held_of_archive}
use Rattle.mar_cache.proofs.StatePuts.{still_open}

-- what each ticket covers of an epoch stays, but for what the test passes
abbrev pub TicketsStay : (Cached → Bool) → EpochState → EpochState → Type 0
TicketsStay gone t u = (p : SectionSync) (x : Cached) → Contains (covered_part t p) x → gone x ≡ false → Contains (covered_part u p) x

pub tickets_over : (gone : Cached → Bool) (old new : EpochStates) → ((k : ℕ) → TicketsStay gone (old k) (new k)) → KeepsTickets gone (covers_of old) (covers_of new)
tickets_over gone old new each t x has stays = by t.first t.second has
  where
    by : (p : SectionSync) (o : Option SectionSync) → Contains (covered_with (old t.epoch) p o) x → Contains (covered_with (new t.epoch) p o) x
    by p None has' = each t.epoch p x has' stays
    by p (Some q) has' = elim (Contains-append_cases (covered_part (old t.epoch) p) (covered_part (old t.epoch) q) x has') [
      | inl first ↦ Contains-append_left (covered_part (new t.epoch) p) (covered_part (new t.epoch) q) x (each t.epoch p x first stays)
      | inr second ↦ Contains-append_right (covered_part (new t.epoch) p) (covered_part (new t.epoch) q) x (each t.epoch q x second stays)
    ]

pub stay_as : (gone : Cached → Bool) (t u : EpochState) → u ≡ t → TicketsStay gone t u
stay_as gone t u same = subst (TicketsStay gone t) (sym same) (λ p x has stays. has)

pub stay_then : (gone : Cached → Bool) (t u v : EpochState) → TicketsStay gone t u → TicketsStay gone u v → TicketsStay gone t v
stay_then gone t u v first second p x has stays = second p x (first p x has stays) stays

pub stay_opened : (gone : Cached → Bool) (t u : EpochState) → OpensEpoch t u → TicketsStay gone t u
stay_opened gone (opened b) u is = stay_as gone (opened b) u is
stay_opened gone (shut l) u opens = λ p x has stays. in_nothing x has

pub stay_or_opened : (gone : Cached → Bool) (t u : EpochState) → OpensOrStays t u → TicketsStay gone t u
stay_or_opened gone t u (inl same) = stay_as gone t u same
stay_or_opened gone t u (inr opens) = stay_opened gone t u opens

-- the last number covers all that an archive of an open epoch holds
abbrev pub CoversLast : EpochState → Type 0
CoversLast (opened b) = CoversAllLast b
CoversLast (shut l) = ⊤

pub nested_last : (t : EpochState) → IsNestedEpoch t → CoversLast t
nested_last (opened b) nested = nested.last
nested_last (shut l) nested = tt

pub changed_last : {E : Type 0} (plain : E → Cached) (change : Change E) (t u : EpochState) → ChangesEpoch plain change t u → CoversLast u
changed_last plain change (opened b) u (c, does, is) = subst CoversLast (sym is) does.last
changed_last plain change (shut l) u is = subst CoversLast (sym is) tt

pub stay_changed : {E : Type 0} (plain : E → Cached) (change : Change E) (gone : Cached → Bool) (t u : EpochState) → CoversLast t → ((x : Cached) → gone x ≡ false → IsTrue (is_kept change x)) → ChangesEpoch plain change t u → TicketsStay gone t u
stay_changed plain change gone (opened b) u last fewer (c, does, is) = subst (TicketsStay gone (opened b)) (sym is) (λ p x has stays. by p x stays (nat_le p.number b.number) refl has)
  where
    at_last : (s : Section) (x : Cached) → gone x ≡ false → Contains (b.covers s last_number) x → Contains (c.covers s last_number) x
    at_last s x stays has =
        let (held, passes) = filtered (is_in s) b.kept.held x (subst (λ ys. Contains ys x) (last s) has) in
        let still : Contains c.kept.held x = subst (λ ys. Contains ys x) (sym does.held) (held_kept plain change b.kept.held x held (fewer x stays)) in
        subst (λ ys. Contains ys x) (sym (does.last s)) (filter_passed (is_in s) c.kept.held x still passes)

    kept : (s : Section) (n : ℕ) (x : Cached) → gone x ≡ false → n ≤ b.number → (n ≡ last_number) ⊎ (n ≡ last_number → ⊥) → Contains (b.covers s n) x → Contains (c.covers s n) x
    kept s n x stays below (inl same) has = subst (λ m. Contains (c.covers s m) x) (sym same) (at_last s x stays (subst (λ m. Contains (b.covers s m) x) same has))
    kept s n x stays below (inr other) has = subst (λ ys. Contains ys x) (sym (does.covers s n below other)) (filter_contains (is_kept change) (b.covers s n) x has (fewer x stays))

    by : (p : SectionSync) (x : Cached) → gone x ≡ false → (q : Bool) → nat_le p.number b.number ≡ q → Contains (cond q (b.covers p.section p.number) []) x → Contains (covered_part (opened c) p) x
    by p x stays false is' has = in_nothing x has
    by p x stays true is' has =
        let below = leb-true p.number b.number is' in
        subst (λ q. Contains (cond q (c.covers p.section p.number) []) x) (sym (le-leb p.number c.number (omega (arith, below, does.number)))) (kept p.section p.number x stays below (cases_eq p.number last_number) has)
stay_changed plain change gone (shut l) u last fewer is = λ p x has stays. in_nothing x has

-- changes that keep what the test doesn't pass, and put no more than this
abbrev pub Keeping : {E : Type 0} → (E → Cached) → List Cached → (Cached → Bool) → Change E → Type 0
Keeping plain put gone change = Within (puts_of plain change) put × ((x : Cached) → gone x ≡ false → IsTrue (is_kept change x))

pub stay_all : {E : Type 0} (plain : E → Cached) (put : List Cached) (gone : Cached → Bool) (changes : List (Change E)) (t u : EpochState) → CoversLast t → AllByRecursion (Keeping plain put gone) changes → AllChanges plain changes t u → TicketsStay gone t u
stay_all plain put gone [] t u last all same = stay_as gone t u same
stay_all plain put gone (change ∷ changes) t u last all (v, does, rest) = stay_then gone t v u (stay_changed plain change gone t v last all.0.1 does) (stay_all plain put gone changes v u (changed_last plain change t v does) all.1 rest)

pub grow_all : {E : Type 0} (plain : E → Cached) (put : List Cached) (gone : Cached → Bool) (changes : List (Change E)) (t u : EpochState) → AllByRecursion (Keeping plain put gone) changes → AllChanges plain changes t u → GrowsEpoch put gone t u
grow_all plain put gone [] t u all same = subst (GrowsEpoch put gone t) (sym same) (grows_itself put gone t)
grow_all plain put gone (change ∷ changes) t u all (v, does, rest) = grows_then put gone t v u (changes_grows plain change put gone t v all.0.0 all.0.1 does) (grow_all plain put gone changes v u all.1 rest)

-- where an epoch is opened first
pub stay_opened_all : {E : Type 0} (plain : E → Cached) (put : List Cached) (gone : Cached → Bool) (changes : List (Change E)) (t u v : EpochState) → CoversLast t → OpensEpoch t u → AllByRecursion (Keeping plain put gone) changes → AllChanges plain changes u v → TicketsStay gone t v
stay_opened_all plain put gone changes (opened b) u v last is all does = stay_all plain put gone changes (opened b) v last all (subst (λ w. AllChanges plain changes w v) is does)
stay_opened_all plain put gone changes (shut l) u v last opens all does = λ p x has stays. in_nothing x has

-- where what passes the test may be gone
pub stay_thinned : (test : Cached → Bool) (t u : EpochState) → CoversLast t → CoversLast u → ThinsEpoch test t u → TicketsStay test t u
stay_thinned test (opened b) (opened c) last last_after thins p x has stays = by (nat_le p.number b.number) refl has
  where
    at_last : (s : Section) → Contains (b.covers s last_number) x → Contains (c.covers s last_number) x
    at_last s there =
        let (held, passes) = filtered (is_in s) b.kept.held x (subst (λ ys. Contains ys x) (last s) there) in
        subst (λ ys. Contains ys x) (sym (last_after s)) (filter_passed (is_in s) c.kept.held x (thins.grows.held x held stays) passes)

    kept : (s : Section) (n : ℕ) → n ≤ b.number → (n ≡ last_number) ⊎ (n ≡ last_number → ⊥) → Contains (b.covers s n) x → Contains (c.covers s n) x
    kept s n below (inl same) there = subst (λ m. Contains (c.covers s m) x) (sym same) (at_last s (subst (λ m. Contains (b.covers s m) x) same there))
    kept s n below (inr other) there = thins.tickets.1 s n below other x there stays

    by : (q : Bool) → nat_le p.number b.number ≡ q → Contains (cond q (b.covers p.section p.number) []) x → Contains (covered_part (opened c) p) x
    by false is there = in_nothing x there
    by true is there =
        let below = leb-true p.number b.number is in
        subst (λ q. Contains (cond q (c.covers p.section p.number) []) x) (sym (le-leb p.number c.number (omega (arith, below, thins.tickets.0)))) (kept p.section p.number below (cases_eq p.number last_number) there)
stay_thinned test (opened b) (shut l) last last_after thins p x has stays = absurd thins.tickets
stay_thinned test (shut l) u last last_after thins p x has stays = in_nothing x has

-- what tickets cover of an epoch is held there
pub covered_held : (t : EpochState) (p : SectionSync) → IsNestedEpoch t → Within (covered_part t p) (held_in t)
covered_held (opened b) p nested x has = by (nat_le p.number b.number) has
  where
    by : (q : Bool) → Contains (cond q (b.covers p.section p.number) []) x → Contains b.kept.held x
    by true has' = nested.covered p.section p.number x has'
    by false has' = in_nothing x has'
covered_held (shut l) p nested x has = in_nothing x has

-- A START OF A SYNC

module _ (e : ℕ) (s : Section) (states : EpochStates) (b : Bounds) (lie : LieWithin states b) where
  ticket_covers : (c : Book) → states e ≡ opened c → (t : CacheTicket) → t.epoch ≡ e → t.first.section ≡ s → t.first.number ≤ c.number → c.covers s t.first.number ≡ filter (is_in s) c.kept.held → t.second ≡ None → covers_of states t ≡ filter (is_of_archive e s) (kept_of states b.highest).held
  ticket_covers c is t at section below covered none = ap (λ k. covered_with (states k) t.first t.second) at ∙ ap (λ u. covered_with u t.first t.second) is ∙ ap (λ o. covered_with (opened c) t.first o) none
      ∙ ap (λ q. cond q (c.covers t.first.section t.first.number) []) (le-leb t.first.number c.number below) ∙ ap (λ z. c.covers z t.first.number) section ∙ covered
      ∙ sym (held_of_archive e s states b lie ∙ ap (λ u. filter (is_in s) (held_in u)) is)

  none_of : (u : EpochState) → states e ≡ u → held_in u ≡ [] → (x : Cached) → Contains (kept_of states b.highest).held x → is_of_archive e s x ≡ false
  none_of u is none x has = by (is_of_archive e s x) refl
    where
      by : (c : Bool) → is_of_archive e s x ≡ c → is_of_archive e s x ≡ false
      by false is' = is'
      by true is' = in_nothing x (subst (λ ys. Contains ys x) (held_of_archive e s states b lie ∙ ap (λ v. filter (is_in s) (held_in v)) is ∙ ap (filter (is_in s)) none) (filter_passed (is_of_archive e s) (kept_of states b.highest).held x has is'))

  pub starts : (u : EpochState) → states e ≡ u → (started : Started) → IsStarted u e s started → StartsSync (covers_of states) e (is_of_archive e s) (kept_of states b.highest).held started
  starts (opened c) is (Ticket t) (at, section, below, covered, none) = (at, none, ticket_covers c is t at section below covered none)
  starts (opened c) is Ready given = absurd given
  starts (shut l) is (Ticket t) given = absurd given
  starts (shut l) is Ready given = none_of (shut l) is refl

  gives_here : (u : EpochState) → states e ≡ u → is_opened u ≡ true → (started : Started) → IsStarted u e s started → GivesTicket (covers_of states) e (is_of_archive e s) (kept_of states b.highest).held started
  gives_here (opened c) is open_now (Ticket t) (at, section, below, covered, none) = (at, none, ticket_covers c is t at section below covered none)
  gives_here (opened c) is open_now Ready given = absurd given
  gives_here (shut l) is open_now started given = absurd cc

and_true : (a : Bool) → (a && true) ≡ a
and_true true = refl
and_true false = refl

and_false : (a : Bool) → (a && false) ≡ false
and_false true = refl
and_false false = refl

equal_back : (a b : ℕ) → (a == b) ≡ (b == a)
equal_back a b = by (a == b) refl (b == a) refl
  where
    by : (p : Bool) → (a == b) ≡ p → (q : Bool) → (b == a) ≡ q → p ≡ q
    by true is true is' = refl
    by false is false is' = refl
    by true is false is' = sym (eq-eqb b a (sym (eqb-true a b is))) ∙ is'
    by false is true is' = sym is ∙ eq-eqb a b (sym (eqb-true b a is'))

-- the archive of an entry
archive_is : (x y : Cached) → is_of_archive (epoch_of x) (section_of x) y ≡ same_archive x y
archive_is (finalization_entry f) (finalization_entry g) = and_true (g.round.epoch == f.round.epoch) ∙ equal_back g.round.epoch f.round.epoch
archive_is (notarization_entry f) (notarization_entry g) = and_true (g.round.epoch == f.round.epoch) ∙ equal_back g.round.epoch f.round.epoch
archive_is (notarized_entry r a) (notarized_entry s b) = and_true (s.epoch == r.epoch) ∙ equal_back s.epoch r.epoch
archive_is (verified_entry r a) (verified_entry s b) = and_true (s.epoch == r.epoch) ∙ equal_back s.epoch r.epoch
archive_is (certified_entry d a) (certified_entry e b) = and_true (e == d) ∙ equal_back e d
archive_is x y = and_false (epoch_of y == epoch_of x)

pub gives : (x : Cached) (states : EpochStates) (b : Bounds) → LieWithin states b → is_opened (states (epoch_of x)) ≡ true → (started : Started) → IsStarted (states (epoch_of x)) (epoch_of x) (section_of x) started → GivesTicket (covers_of states) (epoch_of x) (same_archive x) (kept_of states b.highest).held started
gives x states b lie open_now started given = by started (gives_here (epoch_of x) (section_of x) states b lie (states (epoch_of x)) refl open_now started given)
  where
    by : (r : Started) → GivesTicket (covers_of states) (epoch_of x) (is_of_archive (epoch_of x) (section_of x)) (kept_of states b.highest).held r → GivesTicket (covers_of states) (epoch_of x) (same_archive x) (kept_of states b.highest).held r
    by (Ticket t) (at, none, covered) = (at, none, covered ∙ filter_agree (is_of_archive (epoch_of x) (section_of x)) (same_archive x) (archive_is x) (kept_of states b.highest).held)
    by Ready given' = absurd given'

-- WHETHER THERE IS NOTHING TO WAIT FOR

pub ready_as : (t : EpochState) (e : ℕ) (s : Section) (started : Started) → IsStarted t e s started → is_ready started ≡ not (is_opened t)
ready_as (opened c) e s (Ticket t) given = refl
ready_as (opened c) e s Ready given = absurd given
ready_as (shut l) e s (Ticket t) given = absurd given
ready_as (shut l) e s Ready given = refl

-- a put answers so just where its epoch is below the lowest
pub ready_below : (x : Cached) (old new : EpochStates) (lowest : ℕ) (s : Section) (started : Started) → (epoch_of x < lowest → started ≡ Ready) → (lowest ≤ epoch_of x → IsPut x old new × IsStarted (new (epoch_of x)) (epoch_of x) s started) → is_ready started ≡ nat_lt (epoch_of x) lowest
ready_below x old new lowest s started ready done = by (nat_lt (epoch_of x) lowest) refl
  where
    by : (c : Bool) → nat_lt (epoch_of x) lowest ≡ c → is_ready started ≡ c
    by true is = ap is_ready (ready (ltb-true (epoch_of x) lowest is))
    by false is =
        let (put, given) = done (ltb-false (epoch_of x) lowest is) in
        ready_as (new (epoch_of x)) (epoch_of x) s started given ∙ ap not (ap is_opened put.done.2 ∙ still_open x (old (epoch_of x)) put.mid put.done.0 put.opens put.done.1)
