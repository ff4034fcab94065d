-- What calls of archives in their places come to: what they keep for the open syncs, and what is left where one failed.
use Rattle.std.proofs.Common.{◌≡◌, ◌⊎◌, inl, inr, ⊎_elim, ℕ, Some, Ok, Err, Result, List, [], ◌∷◌, ◌++◌, ◌+◌, length, Bool, true, false, ◌&&◌, if◌then◌else◌, Contains, refl, sym, ◌∙◌, ap, subst, ◌≤◌, append-nil, arith}
use Rattle.std.proofs.lemmas.List.Elements.{Contains-append_cases, Contains-append_left, Contains-append_right}
use Rattle.std.specs.List.{AllByRecursion}
use Rattle.std.specs.Prelude.{IfErr, IfOk, MatchResult, OnErr, OnOk}
use Rattle.mar_cert.specs.Block.{Block}
use Rattle.mar_store.specs.Changes.{IsNested, KeepsValues, Left, Puts, Syncs}
use Rattle.mar_store.specs.Kept.{At, Kept, value_at}
use Rattle.mar_store.specs.Tickets.{last_number}
use Rattle.mar_store.specs.Watch.{Watch}
use Rattle.mar_model.specs.Faults.{Fault, StoreName, store_fault, want_of_memory}
use Rattle.mar_model.specs.Held.{IsArchiveFault, IsReadFault, IsUsual, MakesSure, Passes}
use Rattle.mar_model.specs.Moves.{StoresValue}
use Rattle.mar_model.specs.Places.{is_open, is_there, kept_at, watch_at}
use Rattle.mar_model.specs.Pool.{Pool, Pooled, pool_cleared, pool_deferred, pool_finished, pool_started, pooled_at, writing_of}
use Rattle.mar_model.specs.Staged.{Staged, is_taken_in, staged_where}
use Rattle.mar_model.specs.Stored.{at_own_height}
use Rattle.mar_model.specs.Writing.{IsLastWrite, IsOrdered}
use Rattle.mar_model.specs.declared.Place.{Place}
use Rattle.mar_model.specs.declared.Place.TheVariants.{Away, Lost, Open}
use Rattle.mar_model.proofs.Growing.{MakesSure-finished, MakesSure-same, MakesSure-synced}
use Rattle.mar_model.proofs.Passing.{Breaks-then, Passes-refl, Passes-then}
use Rattle.mar_life.proofs.Awaiting.{AreHeld-kept, AreHeld-staged, AwaitsSyncs-deferred, AwaitsSyncs-finished, AwaitsSyncs-put, AwaitsSyncs-same, AwaitsSyncs-started, AwaitsSyncs-sure, AwaitsSyncs-surer, given, held_by_put}
use Rattle.mar_life.specs.Pooling.{AreHeldIn, AwaitsIn, FailsIn, FinishesIn, HoldsIn, IsFaultOf, IsGivenIn, IsLeftIn, IsReadIn, StartsIn, StaysIn, SurerIn}

-- a fault of an archive is one of those that an archive's call has
pub archive_fault : (s : StoreName) (before now : Watch) (fault : Fault) → IsArchiveFault (store_fault s) → IsFaultOf s before fault now → IsArchiveFault fault
archive_fault s before now fault of_store (inl how) = subst IsArchiveFault (sym how.0) of_store
archive_fault s before now fault of_store (inr how) = subst IsArchiveFault (sym how.0) tt

-- and one of a store that is read one of those that a read has
pub read_fault : (s : StoreName) (before now : Watch) (fault : Fault) → IsReadFault (store_fault s) → IsFaultOf s before fault now → IsReadFault fault
read_fault s before now fault of_store (inl how) = subst IsReadFault (sym how.0) of_store
read_fault s before now fault of_store (inr how) = subst IsReadFault (sym how.0) tt

pub usual_fault : (s : StoreName) (before now : Watch) (fault : Fault) → IsFaultOf s before fault now → IsUsual fault
usual_fault s before now fault (inl how) = subst IsUsual (sym how.0) tt
usual_fault s before now fault (inr how) = subst IsUsual (sym how.0) tt

-- where there was no store to call nothing changed
pub left_alone : {S W : Type 0} (old new : Place S W) → new ≡ old → is_open old ≡ false → IsLeftIn old new
left_alone (Open s) new same not_open = absurd cc
left_alone (Lost w) new same not_open = subst (IsLeftIn (Lost w)) (sym same) tt
left_alone Away new same not_open = tt

pub fails_alone : {S T W : Type 0} (s : StoreName) (stored : S → Kept (At T)) (left : W → Left (At T)) (watch : S → Watch) (watch_left : W → Watch) (put : List (At T)) (old new : Place S W) → new ≡ old → FailsIn s stored left watch watch_left put old new want_of_memory
fails_alone s stored left watch watch_left put old new same = subst (λ n. FailsIn s stored left watch watch_left put old n want_of_memory) (sym same) (record {
  fails = record { sure = refl; may_kept = λ x has. has; may = λ x has. Contains-append_left _ put x has };
  cause = inr (refl, Passes-refl (watch_at watch watch_left old));
})

-- nothing changed of what is kept, and memory ran out
pub fails_same : {S T W : Type 0} (s : StoreName) (stored : S → Kept (At T)) (left : W → Left (At T)) (watch : S → Watch) (watch_left : W → Watch) (put : List (At T)) (old new : Place S W) → kept_at stored left new ≡ kept_at stored left old → Passes (watch_at watch watch_left old) (watch_at watch watch_left new) → FailsIn s stored left watch watch_left put old new want_of_memory
fails_same s stored left watch watch_left put old new same passed = record {
  fails = rw same (record { sure = refl; may_kept = λ x has. has; may = λ x has. Contains-append_left _ put x has });
  cause = inr (refl, passed);
}

-- a value was put, and then a call failed that was to write nothing
pub fails_then : {S T W : Type 0} (s : StoreName) (stored : S → Kept (At T)) (left : W → Left (At T)) (watch : S → Watch) (watch_left : W → Watch) {ignored : Bool} (x : At T) (old mid new : Place S W) (fault : Fault) → Puts ignored (kept_at stored left old) x (kept_at stored left mid) → Passes (watch_at watch watch_left old) (watch_at watch watch_left mid) → FailsIn s stored left watch watch_left [] mid new fault → FailsIn s stored left watch watch_left (x ∷ []) old new fault
fails_then s stored left watch watch_left x old mid new fault puts passed failed = record {
  fails = record {
    sure = failed.fails.sure ∙ puts.sure;
    may_kept = λ y has. failed.fails.may_kept y (puts.may_kept y has);
    may = λ y has. puts.may y (subst (λ xs. Contains xs y) (append-nil (kept_at stored left mid).may) (failed.fails.may y has));
  };
  cause = ⊎_elim (λ how. inl (how.0, Breaks-then _ _ _ passed how.1)) (λ how. inr (how.0, Passes-then _ _ _ passed how.1)) failed.cause;
}

-- a value was put, and then memory ran out
pub fails_behind : {S T W : Type 0} (s : StoreName) (stored : S → Kept (At T)) (left : W → Left (At T)) (watch : S → Watch) (watch_left : W → Watch) {ignored : Bool} (x : At T) (old new : Place S W) → Puts ignored (kept_at stored left old) x (kept_at stored left new) → Passes (watch_at watch watch_left old) (watch_at watch watch_left new) → FailsIn s stored left watch watch_left (x ∷ []) old new want_of_memory
fails_behind s stored left watch watch_left x old new puts passed = record { fails = record { sure = puts.sure; may_kept = puts.may_kept; may = puts.may }; cause = inr (refl, passed) }

-- by what a call answered
pub either : {T E A B C : Type 0} (r : Result T E) → OnOk r A → OnErr r B → (A → C) → (B → C) → C
either (Ok x) done failed f g = f done
either (Err e) done failed f g = g failed

pub by_answer : {T E P A : Type 0} {Q F : E → Type 0} (r : Result T E) → OnOk r A → IfErr r F → (A → P) → ((e : E) → F e → Q e) → MatchResult r (λ _. P) Q
by_answer (Ok x) done failed f g = f done
by_answer (Err e) done failed f g = g e failed

pub done_so : {T E A B : Type 0} (r : Result T E) → OnOk r A → (A → B) → OnOk r B
done_so (Ok x) done f = f done
done_so (Err e) done f = tt

pub left_so : {T E A B : Type 0} (r : Result T E) → OnErr r A → (A → B) → OnErr r B
left_so (Ok x) left f = tt
left_so (Err e) left f = f left

pub failed_so : {T E : Type 0} {A B : E → Type 0} (r : Result T E) → IfErr r A → ((e : E) → A e → B e) → IfErr r B
failed_so (Ok x) failed f = tt
failed_so (Err e) failed f = f e failed

pub both_done : {T E : Type 0} (A B : Type 0) (r : Result T E) → OnOk r A → OnOk r B → OnOk r (A × B)
both_done A B (Ok x) a b = (a, b)
both_done A B (Err e) a b = tt

pub always_done : {T E A : Type 0} (r : Result T E) → A → OnOk r A
always_done (Ok x) a = a
always_done (Err e) a = tt

pub found_so : {T E : Type 0} {A B : T → Type 0} (r : Result T E) → IfOk r A → ((x : T) → A x → B x) → IfOk r B
found_so (Ok x) found f = f x found
found_so (Err e) found f = tt

pub both_found : {T E : Type 0} (A B : T → Type 0) (r : Result T E) → IfOk r A → IfOk r B → IfOk r (λ x. A x × B x)
both_found A B (Ok x) a b = (a, b)
both_found A B (Err e) a b = tt

pub found_with_done : {T E : Type 0} (A : T → Type 0) (B : Type 0) (r : Result T E) → IfOk r A → OnOk r B → IfOk r (λ x. A x × B)
found_with_done A B (Ok x) a b = (a, b)
found_with_done A B (Err e) a b = tt

pub found_is_done : {T E B : Type 0} {A : T → Type 0} (r : Result T E) → IfOk r A → ((x : T) → A x → B) → OnOk r B
found_is_done (Ok x) found f = f x found
found_is_done (Err e) found f = tt

-- what is true of each answer is true where there is one
pub each_done : {E : Type 0} (A : Type 0) (r : Result Bool E) → IfOk r (λ b. (b ≡ true → A) × (b ≡ false → A)) → OnOk r A
each_done A (Ok true) f = f.0 refl
each_done A (Ok false) f = f.1 refl
each_done A (Err e) f = tt

-- what was intact is, where both archives are still there
pub still_intact : (b b' c c' p : Bool) → b' ≡ b → c' ≡ c → (b && (c && p)) ≡ true → (b' && (c' && p)) ≡ true
still_intact b b' c c' p blocks certs was = rw (blocks, certs) was

-- A value that is stored was put, and then a sync made all sure.
module _ {T : Type 0} {ignored : Bool} {old : Kept (At T)} {x : At T} {new : Kept (At T)} (stores : StoresValue ignored old x new) where
  abbrev pub between : Kept (At T)
  between = record { held = new.held; sure = old.sure; may = old.may ++ x ∷ [] }

  pub stored_puts : Puts ignored old x between
  stored_puts = record { held = stores.held; sure = refl; may_kept = λ y has. Contains-append_left old.may (x ∷ []) y has; may = λ y has. has }

  -- what was held before is held
  pub held_by_store : KeepsValues old.held new.held
  held_by_store = held_by_put ignored old x between stored_puts

  pub stored_nested : IsNested old → IsNested new → IsNested between
  stored_nested before after = record {
    once = after.once;
    sure_once = before.sure_once;
    sure_held = λ h v is. held_by_put ignored old x between stored_puts h v (before.sure_held h v is);
    held_may = λ y has. by ignored stores.held y has;
  }
    where
      by : (b : Bool) → new.held ≡ (if b then old.held else old.held ++ x ∷ []) → (y : At T) → Contains new.held y → Contains (old.may ++ x ∷ []) y
      by true is y has = Contains-append_left old.may (x ∷ []) y (before.held_may y (subst (λ xs. Contains xs y) is has))
      by false is y has = ⊎_elim (λ at_old. Contains-append_left old.may (x ∷ []) y (before.held_may y at_old)) (λ is_x. Contains-append_right old.may (x ∷ []) y is_x) (Contains-append_cases old.held (x ∷ []) y (subst (λ xs. Contains xs y) is has))

  pub stored_surer : IsNested old → IsNested new → MakesSure between new
  stored_surer before after = MakesSure-synced between new (stored_nested before after) (record { held = refl; sure = stores.sure; may = stores.may })

module _ {T S W : Type 0} (stored : S → Kept (At T)) (number : S → ℕ) (covers : S → ℕ → List (At T)) where
  -- what is true of a store that is there before and after is true of its place
  pub in_place : (P : Place S W → Place S W → Type 0) → ((s t : S) → StaysIn {W = W} stored number covers (Open s) (Open t) → P (Open s) (Open t)) → (old new : Place S W) → StaysIn stored number covers old new → P old new
  in_place P both (Open s) (Open t) stays = both s t stays
  in_place P both (Open s) (Lost w) stays = absurd stays
  in_place P both (Open s) Away stays = absurd stays
  in_place P both (Lost v) new stays = absurd stays
  in_place P both Away new stays = absurd stays

  -- what is true of a store that is lost is true where it was there, or lost before
  at_loss : (P : Place S W → Type 0) → ((w : W) → P (Lost w)) → (old new : Place S W) → (is_there old ≡ true) → IsLeftIn old new → P new
  at_loss P lost (Open s) (Lost w) there left = lost w
  at_loss P lost (Open s) (Open t) there left = absurd left
  at_loss P lost (Open s) Away there left = absurd left
  at_loss P lost (Lost v) (Lost w) there left = lost w
  at_loss P lost (Lost v) (Open t) there left = absurd left
  at_loss P lost (Lost v) Away there left = absurd left
  at_loss P lost Away new there left = absurd cc

  pub open_in : (old new : Place S W) → StaysIn stored number covers old new → is_open new ≡ is_open old
  open_in old new stays = in_place (λ o n. is_open n ≡ is_open o) (λ s t stays. refl) old new stays

  -- two calls, of which neither took a ticket back
  pub stays_then : (old mid new : Place S W) → StaysIn stored number covers old mid → StaysIn stored number covers mid new → StaysIn stored number covers old new
  stays_then (Open s) (Open t) (Open u) first second = record {
    more = omega (arith, first.more, second.more);
    keeps = λ k made below. second.keeps k (omega (arith, made, first.more)) below ∙ first.keeps k made below;
    last = second.last;
  }
  stays_then (Open s) (Open t) (Lost w) first second = absurd second
  stays_then (Open s) (Open t) Away first second = absurd second
  stays_then (Open s) (Lost w) new first second = absurd first
  stays_then (Open s) Away new first second = absurd first
  stays_then (Lost v) mid new first second = absurd first
  stays_then Away mid new first second = absurd first

  -- one went well, and the other failed
  pub left_then : (old mid new : Place S W) → StaysIn stored number covers old mid → IsLeftIn mid new → IsLeftIn old new
  left_then (Open s) (Open t) (Lost w) stays left = tt
  left_then (Open s) (Open t) (Open u) stays left = absurd left
  left_then (Open s) (Open t) Away stays left = absurd left
  left_then (Open s) (Lost w) new stays left = absurd stays
  left_then (Open s) Away new stays left = absurd stays
  left_then (Lost v) mid new stays left = absurd stays
  left_then Away mid new stays left = absurd stays

  module _ (left : W → Left (At T)) where
    pub nested_in : ((s : S) → IsNested (stored s)) → (old new : Place S W) → StaysIn stored number covers old new → IsNested (kept_at stored left new)
    nested_in law old new stays = in_place (λ o n. IsNested (kept_at stored left n)) (λ s t stays. law t) old new stays

    pub nested_before : ((s : S) → IsNested (stored s)) → (old new : Place S W) → StaysIn stored number covers old new → IsNested (kept_at stored left old)
    nested_before law old new stays = in_place (λ o n. IsNested (kept_at stored left o)) (λ s t stays. law s) old new stays

    pub same_in : (ticket : ℕ) (old new : Place S W) → StaysIn stored number covers old new → StartsIn stored number covers ticket old new → kept_at stored left new ≡ kept_at stored left old
    same_in ticket old new stays = in_place (λ o n. StartsIn stored number covers ticket o n → kept_at stored left n ≡ kept_at stored left o) (λ s t stays starts. starts.0) old new stays

    pub started_in : (ticket : ℕ) (old new : Place S W) → StaysIn stored number covers old new → StartsIn stored number covers ticket old new → MakesSure (kept_at stored left old) (kept_at stored left new)
    started_in ticket old new stays starts = MakesSure-same (kept_at stored left old) (kept_at stored left new) (same_in ticket old new stays starts)

    pub finished_in : (ticket : ℕ) (old new : Place S W) → StaysIn stored number covers old new → FinishesIn stored covers ticket old new → MakesSure (kept_at stored left old) (kept_at stored left new)
    finished_in ticket old new stays = in_place (λ o n. FinishesIn stored covers ticket o n → MakesSure (kept_at stored left o) (kept_at stored left n)) (λ s t stays finishes. MakesSure-finished (covers s ticket) (stored s) (stored t) finishes) old new stays

    -- such a sync of a store that keeps what every store keeps
    module _ (watch : S → Watch) (watch_left : W → Watch) (law : (s : S) → IsNested (stored s)) (ticket : ℕ) (old new : Place S W) (stays : StaysIn stored number covers old new) (passed : Passes (watch_at watch watch_left old) (watch_at watch watch_left new)) where
      pub started_surer : StartsIn stored number covers ticket old new → SurerIn stored left watch watch_left old new
      started_surer starts = record { surer = started_in ticket old new stays starts; nested = nested_in law old new stays; still = open_in old new stays; passed = passed }

      pub finished_surer : FinishesIn stored covers ticket old new → SurerIn stored left watch watch_left old new
      finished_surer finishes = record { surer = finished_in ticket old new stays finishes; nested = nested_in law old new stays; still = open_in old new stays; passed = passed }

    -- a sync that was waited for
    module _ (law : (s : S) → IsNested (stored s)) (old new : Place S W) (stays : StaysIn stored number covers old new) (syncs : Syncs (kept_at stored left old) (kept_at stored left new)) where
      pub synced_in : MakesSure (kept_at stored left old) (kept_at stored left new)
      synced_in = MakesSure-synced (kept_at stored left old) (kept_at stored left new) (nested_before law old new stays) syncs

      pub synced_surer : (watch : S → Watch) (watch_left : W → Watch) → Passes (watch_at watch watch_left old) (watch_at watch watch_left new) → SurerIn stored left watch watch_left old new
      synced_surer watch watch_left passed = record { surer = synced_in; nested = nested_in law old new stays; still = open_in old new stays; passed = passed }

    -- a read changes nothing of what is kept
    pub read_same : (old new : Place S W) → IsReadIn stored number covers left old new → kept_at stored left new ≡ kept_at stored left old
    read_same (Open s) (Open t) read = read.0
    read_same (Open s) (Lost w) read = absurd read
    read_same (Open s) Away read = absurd read
    read_same (Lost v) (Lost w) read = ap (λ l. record { held = []; sure = l.sure; may = l.may }) read
    read_same (Lost v) (Open t) read = absurd read
    read_same (Lost v) Away read = absurd read
    read_same Away Away read = refl
    read_same Away (Open t) read = absurd read
    read_same Away (Lost w) read = absurd read

    pub read_open : (old new : Place S W) → IsReadIn stored number covers left old new → is_open new ≡ is_open old
    read_open (Open s) (Open t) read = refl
    read_open (Open s) (Lost w) read = absurd read
    read_open (Open s) Away read = absurd read
    read_open (Lost v) (Lost w) read = refl
    read_open (Lost v) (Open t) read = absurd read
    read_open (Lost v) Away read = absurd read
    read_open Away Away read = refl
    read_open Away (Open t) read = absurd read
    read_open Away (Lost w) read = absurd read

  -- WHAT WAITS FOR A SYNC

  module _ (ticket_of : Pooled → ℕ) where
    pub waits_there : (place : Place S W) (pool : Pool) → AwaitsIn ticket_of stored number covers place pool → is_there place ≡ true
    waits_there (Open s) pool waits = refl
    waits_there (Lost w) pool waits = refl
    waits_there Away pool waits = absurd waits

    -- of what is lost nothing is to keep
    pub waits_left : (old new : Place S W) (pool later : Pool) → IsLeftIn old new → AwaitsIn ticket_of stored number covers old pool → AwaitsIn ticket_of stored number covers new later
    waits_left old new pool later left waits = at_loss (λ n. AwaitsIn ticket_of stored number covers n later) (λ w. tt) old new (waits_there old pool waits) left

    pub waits_given : (place : Place S W) (pool : Pool) (ticket : ℕ) (p : Pooled) → Some p ≡ pooled_at pool.pooled ticket → AwaitsIn ticket_of stored number covers place pool → IsGivenIn number (ticket_of p) place
    waits_given (Open s) pool ticket p found waits = given ticket_of waits ticket p found
    waits_given (Lost w) pool ticket p found waits = tt
    waits_given Away pool ticket p found waits = absurd waits

    -- one more write
    pub waits_deferred : (place : Place S W) (pool later : Pool) (height : ℕ) → AwaitsIn ticket_of stored number covers place pool → later ≡ pool_deferred height pool → AwaitsIn ticket_of stored number covers place later
    waits_deferred place pool later height waits deferred = subst (AwaitsIn ticket_of stored number covers place) (sym deferred) (by place waits)
      where
        by : (p : Place S W) → AwaitsIn ticket_of stored number covers p pool → AwaitsIn ticket_of stored number covers p (pool_deferred height pool)
        by (Open s) waits = AwaitsSyncs-deferred ticket_of (stored s) (number s) (covers s) pool waits height
        by (Lost w) lost = tt
        by Away away = away

    -- the store was read, or a call of it was armed
    pub waits_read : (left : W → Left (At T)) (old new : Place S W) (pool : Pool) → IsReadIn stored number covers left old new → AwaitsIn ticket_of stored number covers old pool → AwaitsIn ticket_of stored number covers new pool
    waits_read left (Open s) (Open t) pool read waits = AwaitsSyncs-same ticket_of (stored s) (number s) (covers s) pool waits (stored t) (number t) (covers t) read.0 read.1.more read.1.keeps read.1.last
    waits_read left (Open s) (Lost w) pool read waits = absurd read
    waits_read left (Open s) Away pool read waits = absurd read
    waits_read left (Lost v) (Lost w) pool read waits = tt
    waits_read left (Lost v) (Open t) pool read waits = absurd read
    waits_read left (Lost v) Away pool read waits = absurd read
    waits_read left Away new pool read waits = absurd waits

    module _ (left : W → Left (At T)) (old new : Place S W) (pool : Pool) (waits : AwaitsIn ticket_of stored number covers old pool) (stays : StaysIn stored number covers old new) where
      pub waits_surer : MakesSure (kept_at stored left old) (kept_at stored left new) → AwaitsIn ticket_of stored number covers new pool
      waits_surer surer = in_place (λ o n. MakesSure (kept_at stored left o) (kept_at stored left n) → AwaitsIn ticket_of stored number covers o pool → AwaitsIn ticket_of stored number covers n pool)
          (λ s t stays surer waits. AwaitsSyncs-surer ticket_of (stored s) (number s) (covers s) pool waits (stored t) (number t) (covers t) surer.held surer.sure stays.more stays.keeps stays.last) old new stays surer waits

      pub waits_put : {ignored : Bool} {height : ℕ} {value : T} → Puts ignored (kept_at stored left old) (record { height = height; value = value }) (kept_at stored left new) → IsLastWrite height (writing_of pool) → AwaitsIn ticket_of stored number covers new pool
      waits_put {ignored = ignored} {height = height} {value = value} puts write = in_place (λ o n. Puts ignored (kept_at stored left o) (record { height = height; value = value }) (kept_at stored left n) → AwaitsIn ticket_of stored number covers o pool → AwaitsIn ticket_of stored number covers n pool)
          (λ s t stays puts waits. AwaitsSyncs-put ticket_of (stored s) (number s) (covers s) pool waits ignored height value (stored t) (number t) (covers t) write puts stays.more stays.keeps stays.last) old new stays puts waits

      -- a value was put, whose write is one more
      pub waits_written : {ignored : Bool} {height : ℕ} {value : T} {later : Pool} → Puts ignored (kept_at stored left old) (record { height = height; value = value }) (kept_at stored left new) → IsOrdered (writing_of pool) → later ≡ pool_deferred height pool → AwaitsIn ticket_of stored number covers new later
      waits_written {ignored = ignored} {height = height} {value = value} {later = later} puts ordered deferred = subst (AwaitsIn ticket_of stored number covers new) (sym deferred) (in_place (λ o n. Puts ignored (kept_at stored left o) (record { height = height; value = value }) (kept_at stored left n) → AwaitsIn ticket_of stored number covers o pool → AwaitsIn ticket_of stored number covers n (pool_deferred height pool))
          (λ s t stays puts waits. AwaitsSyncs-put ticket_of (stored s) (number s) (covers s) (pool_deferred height pool) (AwaitsSyncs-deferred ticket_of (stored s) (number s) (covers s) pool waits height) ignored height value (stored t) (number t) (covers t) (record { before = writing_of pool; ordered = ordered; is = refl }) puts stays.more stays.keeps stays.last) old new stays puts waits)

      -- a value was put, and then a sync made all sure
      pub waits_stored : {ignored : Bool} {x : At T} → StoresValue ignored (kept_at stored left old) x (kept_at stored left new) → AwaitsIn ticket_of stored number covers new pool
      waits_stored {ignored = ignored} {x = x} stores = in_place (λ o n. StoresValue ignored (kept_at stored left o) x (kept_at stored left n) → AwaitsIn ticket_of stored number covers o pool → AwaitsIn ticket_of stored number covers n pool)
          (λ s t stays stores waits. AwaitsSyncs-sure ticket_of (stored s) (number s) (covers s) pool waits (stored t) (number t) (covers t) pool.covered pool.uncovered stores.sure stays.more) old new stays stores waits

      -- a sync made all sure, and then no write waits
      pub waits_cleared : {later : Pool} → Syncs (kept_at stored left old) (kept_at stored left new) → later ≡ pool_cleared pool → AwaitsIn ticket_of stored number covers new later
      waits_cleared {later = later} syncs cleared = subst (AwaitsIn ticket_of stored number covers new) (sym cleared) (in_place (λ o n. Syncs (kept_at stored left o) (kept_at stored left n) → AwaitsIn ticket_of stored number covers o pool → AwaitsIn ticket_of stored number covers n (pool_cleared pool))
          (λ s t stays syncs waits. AwaitsSyncs-sure ticket_of (stored s) (number s) (covers s) pool waits (stored t) (number t) (covers t) (pool_cleared pool).covered (pool_cleared pool).uncovered (syncs.sure ∙ sym syncs.held) stays.more) old new stays syncs waits)

      -- a sync of both archives was started, with these tickets
      pub waits_started : (blocks certs ticket : ℕ) {later : Pool} → ticket ≡ ticket_of (record { sync = record { ticket = pool.next_sync; position = pool.covered + length pool.uncovered }; blocks = blocks; certs = certs }) → StartsIn stored number covers ticket old new → ticket ≤ last_number → later ≡ pool_started blocks certs pool → AwaitsIn ticket_of stored number covers new later
      waits_started blocks certs ticket {later = later} is starts fits started = subst (AwaitsIn ticket_of stored number covers new) (sym started) (in_place (λ o n. StartsIn stored number covers ticket o n → AwaitsIn ticket_of stored number covers o pool → AwaitsIn ticket_of stored number covers n (pool_started blocks certs pool))
          (λ s t stays starts waits. AwaitsSyncs-started ticket_of (stored t) (number t) (covers t) pool (AwaitsSyncs-same ticket_of (stored s) (number s) (covers s) pool waits (stored t) (number t) (covers t) starts.0 stays.more stays.keeps stays.last) blocks certs (subst (λ k. k ≤ number t) is starts.1) (subst (λ k. k ≤ last_number) is fits) (subst (λ k. covers t k ≡ (stored t).held) is (starts.2 ∙ sym (ap (λ k. k.held) starts.0)))) old new stays starts waits)

      -- a sync has finished in the store, and then in the pool
      pub waits_finished : (ticket : ℕ) (p : Pooled) {later : Pool} → Some p ≡ pooled_at pool.pooled ticket → FinishesIn stored covers (ticket_of p) old new → later ≡ pool_finished ticket pool → AwaitsIn ticket_of stored number covers new later
      waits_finished ticket p {later = later} found finishes finished = subst (AwaitsIn ticket_of stored number covers new) (sym finished) (in_place (λ o n. FinishesIn stored covers (ticket_of p) o n → AwaitsIn ticket_of stored number covers o pool → AwaitsIn ticket_of stored number covers n (pool_finished ticket pool))
          (λ s t stays finishes waits. AwaitsSyncs-finished ticket_of (stored s) (number s) (covers s) pool waits ticket p (stored t) (number t) (covers t) (sym found) finishes stays.more stays.keeps stays.last) old new stays finishes waits)

    -- a value was put, or the call failed
    module _ {X C : Type 0} (r : Result X C) (left : W → Left (At T)) (old new : Place S W) (pool : Pool) (waits : AwaitsIn ticket_of stored number covers old pool) (stays : OnOk r (StaysIn stored number covers old new)) (gone : OnErr r (IsLeftIn old new)) where
      pub waits_put_so : (ignored : Bool) {height : ℕ} (value : T) → OnOk r (Puts ignored (kept_at stored left old) (record { height = height; value = value }) (kept_at stored left new)) → IsLastWrite height (writing_of pool) → AwaitsIn ticket_of stored number covers new pool
      waits_put_so ignored value puts write = either r (both_done _ _ r stays puts) gone (λ ok. waits_put left old new pool waits ok.0 ok.1 write) (λ lost. waits_left old new pool pool lost waits)

      -- and made durable at once
      pub waits_stored_so : (ignored : Bool) (x : At T) → OnOk r (StoresValue ignored (kept_at stored left old) x (kept_at stored left new)) → AwaitsIn ticket_of stored number covers new pool
      waits_stored_so ignored x stores = either r (both_done _ _ r stays stores) gone (λ ok. waits_stored left old new pool waits ok.0 ok.1) (λ lost. waits_left old new pool pool lost waits)

  -- WHAT IS HELD

  -- it stays held in a call that took nothing out
  pub holds_in : (left : W → Left (At T)) (old new : Place S W) → StaysIn stored number covers old new → KeepsValues (kept_at stored left old).held (kept_at stored left new).held → HoldsIn stored old new
  holds_in left old new stays keeps = in_place (λ o n. KeepsValues (kept_at stored left o).held (kept_at stored left n).held → HoldsIn stored o n) (λ s t stays keeps. keeps) old new stays keeps

  -- and where a sync made more sure
  pub holds_surer : (left : W → Left (At T)) (old new : Place S W) → StaysIn stored number covers old new → MakesSure (kept_at stored left old) (kept_at stored left new) → HoldsIn stored old new
  holds_surer left old new stays surer = holds_in left old new stays (subst (KeepsValues (kept_at stored left old).held) (sym surer.held) (λ h v is. is))

  pub holds_left : (old new : Place S W) → is_there old ≡ true → IsLeftIn old new → HoldsIn stored old new
  holds_left old new there left = at_loss (λ n. HoldsIn stored old n) (λ w. lost old w) old new there left
    where
      lost : (o : Place S W) (w : W) → HoldsIn stored o (Lost w)
      lost (Open s) w = tt
      lost (Lost v) w = tt
      lost Away w = tt

  pub holds_same : (old new : Place S W) → new ≡ old → HoldsIn stored old new
  holds_same old new same = subst (HoldsIn stored old) (sym same) (refl_in old)
    where
      refl_in : (o : Place S W) → HoldsIn stored o o
      refl_in (Open s) = λ h v is. is
      refl_in (Lost v) = tt
      refl_in Away = tt

-- what is staged is held still
pub held_in : {B S W : Type 0} (plain : B → Block) (stored : S → Kept (At Block)) (old new : Place S W) (staged : List (ℕ × B)) → HoldsIn stored old new → AreHeldIn plain stored old staged → AreHeldIn plain stored new staged
held_in plain stored (Open s) (Open t) staged holds held = AreHeld-kept plain (stored s).held (stored t).held staged holds held
held_in plain stored (Lost v) (Open t) staged holds held = absurd holds
held_in plain stored Away (Open t) staged holds held = absurd holds
held_in plain stored old (Lost w) staged holds held = tt
held_in plain stored old Away staged holds held = tt

pub held_stored : {B S W X C : Type 0} (plain : B → Block) (stored : S → Kept (At Block)) (number : S → ℕ) (covers : S → ℕ → List (At Block)) (r : Result X C) (left : W → Left (At Block)) (old new : Place S W) (staged : List (ℕ × B)) (ignored : Bool) (x : At Block) → is_there old ≡ true → OnOk r (StaysIn stored number covers old new) → OnErr r (IsLeftIn old new) → OnOk r (StoresValue ignored (kept_at stored left old) x (kept_at stored left new)) → AreHeldIn plain stored old staged → AreHeldIn plain stored new staged
held_stored plain stored number covers r left old new staged ignored x there stays gone stores held = held_in plain stored old new staged (either r (both_done _ _ r stays stores) gone (λ ok. holds_in stored number covers left old new ok.0 (held_by_store ok.1)) (λ lost. holds_left stored number covers old new there lost)) held

pub held_read : {B S W : Type 0} (plain : B → Block) (stored : S → Kept (At Block)) (number : S → ℕ) (covers : S → ℕ → List (At Block)) (left : W → Left (At Block)) (old new : Place S W) (staged : List (ℕ × B)) → IsReadIn stored number covers left old new → AreHeldIn plain stored old staged → AreHeldIn plain stored new staged
held_read plain stored number covers left (Open s) (Open t) staged read held = subst (λ k. AllByRecursion (λ e. value_at k.held e.0 ≡ Some (plain e.1)) staged) (sym read.0) held
held_read plain stored number covers left old (Lost w) staged read held = tt
held_read plain stored number covers left old Away staged read held = tt
held_read plain stored number covers left (Lost v) (Open t) staged read held = absurd read
held_read plain stored number covers left Away (Open t) staged read held = absurd read

pub staged_in : {B S W : Type 0} (plain : B → Block) (stored : S → Kept (At Block)) (left : W → Left (At Block)) (old new : Place S W) {ignored : Bool} (b : B) (places : Staged B) {after : Staged B} (taken : Bool) → Puts ignored (kept_at stored left old) (at_own_height (plain b)) (kept_at stored left new) → taken ≡ is_taken_in (plain b).height (kept_at stored left old) (kept_at stored left new) → after ≡ staged_where taken (plain b).height b places → AreHeldIn plain stored new places.blocks → AreHeldIn plain stored new after.blocks
staged_in plain stored left old (Open t) b places taken puts is_in staged held = AreHeld-staged plain b (kept_at stored left old) (stored t) places taken puts is_in staged held
staged_in plain stored left old (Lost w) b places taken puts is_in staged held = tt
staged_in plain stored left old Away b places taken puts is_in staged held = tt

-- a write was deferred, or none was
pub waits_either : {T S W : Type 0} (stored : S → Kept (At T)) (number : S → ℕ) (covers : S → ℕ → List (At T)) (ticket_of : Pooled → ℕ) (place : Place S W) (pool later : Pool) (height : ℕ) → (later ≡ pool) ⊎ (later ≡ pool_deferred height pool) → AwaitsIn ticket_of stored number covers place pool → AwaitsIn ticket_of stored number covers place later
waits_either stored number covers ticket_of place pool later height (inl same) waits = subst (AwaitsIn ticket_of stored number covers place) (sym same) waits
waits_either stored number covers ticket_of place pool later height (inr deferred) waits = waits_deferred stored number covers ticket_of place pool later height waits deferred
