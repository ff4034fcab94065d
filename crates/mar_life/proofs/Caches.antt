-- What calls of a cache in its place come to.
use Rattle.std.proofs.Common.{◌≡◌, ◌<◌, ◌≤◌, ◌⊎◌, ◌++◌, ◌∷◌, inl, inr, ℕ, zero, suc, max, Bool, Contains, List, [], false, arith, refl, subst, sym}
use Rattle.std.proofs.lemmas.Bool.{cases_lt}
use Rattle.std.proofs.lemmas.List.Elements.{Contains-append_left}
use Rattle.mar_store.specs.Changes.{Left, Within}
use Rattle.mar_store.specs.Kept.{Kept}
use Rattle.mar_store.specs.Watch.{Watch}
use Rattle.mar_model.specs.CacheCalls.{IsNestedCache, UnopensCache}
use Rattle.mar_model.specs.Cached.{Cached}
use Rattle.mar_model.specs.Faults.{Fault, want_of_memory}
use Rattle.mar_model.specs.Held.{LeavesUnloaded}
use Rattle.mar_model.specs.Places.{is_open, kept_at, watch_at}
use Rattle.mar_model.specs.declared.Place.{Place}
use Rattle.mar_model.specs.declared.Place.TheVariants.{Away, Lost, Open}
use Rattle.mar_model.proofs.Passing.{Passes-refl}
use Rattle.mar_life.specs.Caching.{FailsCache, lowests_at, nested_at}

none : {X P : Type 0} (x : X) → Contains [] x → P
none x (k, lt, is) = absurd (omega (arith, lt))

-- what a reopening that failed leaves waits
pub unloaded_so : (old : Left Cached) (were : List ℕ) (left : Left Cached) (now : List ℕ) → UnopensCache old were left now → LeavesUnloaded old left were now
unloaded_so old were left now lost = record { sure = lost.sure; may = lost.may; lowest = lost.lowests }

-- of a cache that isn't there nothing is held
nothing_held : {S W : Type 0} (kept : S → Kept Cached) (left : W → Left Cached) (place : Place S W) → is_open place ≡ false → (kept_at kept left place).held ≡ []
nothing_held kept left (Open s) shut = absurd cc
nothing_held kept left (Lost w) shut = refl
nothing_held kept left Away shut = refl

-- where there was no cache to change nothing changed
pub cache_alone : {S W : Type 0} (kept : S → Kept Cached) (left : W → Left Cached) (lowest : S → ℕ) (lowests : W → List ℕ) (watch : S → Watch) (watch_left : W → Watch) (put : List Cached) (gone : Cached → Bool) (old new : Place S W) → new ≡ old → is_open old ≡ false
    → FailsCache put gone (kept_at kept left old) (lowests_at lowest lowests old) (watch_at watch watch_left old) (kept_at kept left new) (lowests_at lowest lowests new) (watch_at watch watch_left new) want_of_memory
cache_alone {S = S} {W = W} kept left lowest lowests watch watch_left put gone old new same shut = subst (λ n. FailsCache put gone (kept_at kept left old) (lowests_at lowest lowests old) (watch_at watch watch_left old) (kept_at kept left n) (lowests_at lowest lowests n) (watch_at watch watch_left n) want_of_memory) (sym same) (record {
  loses = record {
    leaves = record { stays = λ x has is. has; held = λ x has is. none x (subst (λ xs. Contains xs x) (nothing_held kept left old shut) has); within = λ x has. Contains-append_left _ put x has };
    lowests = λ k has. has;
  };
  cause = inr (refl, Passes-refl _);
})

-- nor did anything where none was called
pub cache_uncalled : {S W : Type 0} (kept : S → Kept Cached) (left : W → Left Cached) (lowest : S → ℕ) (loaded : S → Bool) (lowests : W → List ℕ) (watch : S → Watch) (watch_left : W → Watch) → ((s : S) → IsNestedCache (kept s) (lowest s) (loaded s)) → ((w : W) → Within (left w).sure (left w).may) → (put : List Cached) (gone : Cached → Bool) (place : Place S W)
    → FailsCache put gone (kept_at kept left place) (lowests_at lowest lowests place) (watch_at watch watch_left place) (kept_at kept left place) (lowests_at lowest lowests place) (watch_at watch watch_left place) want_of_memory
cache_uncalled kept left lowest loaded lowests watch watch_left nested within put gone place = record {
  loses = record {
    leaves = record { stays = λ x has is. has; held = λ x has is. (nested_at kept lowest loaded left lowests nested within place).held_may x has; within = λ x has. Contains-append_left _ put x has };
    lowests = λ k has. has;
  };
  cause = inr (refl, Passes-refl _);
}

-- PRUNED BY VIEW

-- the greater of two is one of them
pub among_both : (a b k : ℕ) → Contains (a ∷ max a b ∷ []) k → Contains (a ∷ b ∷ []) k
among_both a b k (zero, lt, is) = (zero, omega arith, is)
among_both a b k (suc zero, lt, is) = by (cases_lt a b)
  where
    by : (a < b) ⊎ (b ≤ a) → Contains (a ∷ b ∷ []) k
    by (inl less) = (suc zero, omega arith, let at : max a b ≡ k = is in omega (arith, less, at))
    by (inr more) = (zero, omega arith, let at : max a b ≡ k = is in omega (arith, more, at))
among_both a b k (suc (suc j), lt, is) = absurd (omega (arith, lt))

pub max_among : (a b k : ℕ) → Contains (max a b ∷ []) k → Contains (a ∷ b ∷ []) k
max_among a b k (zero, lt, is) = among_both a b k (suc zero, omega arith, is)
max_among a b k (suc j, lt, is) = absurd (omega (arith, lt))

-- with one more lowest epoch that may be left
pub fails_wider : (put : List Cached) (gone : Cached → Bool) (old : Kept Cached) (were more : List ℕ) (before : Watch) (new : Kept Cached) (now : List ℕ) (after : Watch) (fault : Fault) → FailsCache put gone old were before new now after fault → FailsCache put gone old (were ++ more) before new now after fault
fails_wider put gone old were more before new now after fault fails = record { loses = record { leaves = fails.loses.leaves; lowests = λ k has. Contains-append_left were more k (fails.loses.lowests k has) }; cause = fails.cause }
