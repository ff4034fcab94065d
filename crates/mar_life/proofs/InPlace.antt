-- What calls in place come to: how one of the metadata failed, and what stores that are there keep.
use Rattle.std.proofs.Common.{◌≡◌, ◌⊎◌, inl, inr, ℕ, List, Bool, true, false, ◌&&◌, Err, refl}
use Rattle.mar_store.specs.Changes.{Left}
use Rattle.mar_store.specs.Kept.{At, Kept}
use Rattle.mar_store.specs.Watch.{Watch}
use Rattle.mar_store.specs.declared.Miss.{Miss}
use Rattle.mar_store.specs.declared.Miss.TheVariants.{Fault as Missed, Memory as NoRoom}
use Rattle.mar_model.specs.Faults.{StoreName, store_fault, want_of_memory}
use Rattle.mar_model.specs.Held.{Breaks, Passes, missed_fault}
use Rattle.mar_model.specs.Node.{SureOrWritten}
use Rattle.mar_model.specs.Places.{HeedsOrIdlesOn, IsCalmOn, is_open, kept_at}
use Rattle.mar_model.specs.Pool.{Pool, Pooled}
use Rattle.mar_model.specs.declared.Place.{Place}
use Rattle.mar_model.specs.declared.Place.TheVariants.{Away, Lost, Open}
use Rattle.mar_model.proofs.Passing.{Passes-or_idle, Passes-refl, Passes-same}
use Rattle.mar_life.specs.Pooling.{AwaitsIn}

pub by_calm : (T : Type 0) (before now : Watch) (s : StoreName) (miss : Miss) → IsCalmOn {T = T} before now (Err miss) → (missed_fault s miss ≡ store_fault s) × Breaks before now ⊎ ((missed_fault s miss ≡ want_of_memory) × Passes before now)
by_calm T before now s Missed (rose, unarmed, same) = inl (refl, record { mid = before; passes = Passes-refl before; strikes = inr (record { rose = rose; unarmed = unarmed; same = same }) })
by_calm T before now s NoRoom is = inr (refl, Passes-same before now is)

pub by_sync : (T : Type 0) (before now : Watch) (s : StoreName) (miss : Miss) → HeedsOrIdlesOn {T = T} before now (Err miss) → (missed_fault s miss ≡ store_fault s) × Breaks before now ⊎ ((missed_fault s miss ≡ want_of_memory) × Passes before now)
by_sync T before now s Missed strikes = inl (refl, record { mid = before; passes = Passes-refl before; strikes = inl strikes })
by_sync T before now s NoRoom or = inr (refl, Passes-or_idle before now or)

-- a store that is there keeps what every store keeps
pub kept_open : {S W T : Type 0} (stored : S → Kept T) (left : W → Left T) (place : Place S W) (P : Kept T → Type 0) → ((s : S) → P (stored s)) → is_open place ≡ true → P (kept_at stored left place)
kept_open stored left (Open s) P all is = all s
kept_open stored left (Lost w) P all is = absurd cc
kept_open stored left Away P all is = absurd cc

-- both archives are there where all is intact
pub first_of : (a b : Bool) → (a && b) ≡ true → a ≡ true
first_of true b both = refl
first_of false b both = both

pub second_of : (a b c : Bool) → (a && (b && c)) ≡ true → b ≡ true
second_of true b c both = first_of b c both
second_of false b c both = absurd cc

pub third_of : (a b c d : Bool) → (a && (b && (c && d))) ≡ true → c ≡ true
third_of true b c d all = second_of b c d all
third_of false b c d all = absurd cc

-- what is held is sure or waits for a sync
pub written_in : {T S W : Type 0} (ticket_of : Pooled → ℕ) (stored : S → Kept (At T)) (number : S → ℕ) (covers : S → ℕ → List (At T)) (left : W → Left (At T)) (place : Place S W) (pool : Pool) → AwaitsIn ticket_of stored number covers place pool → is_open place ≡ true → SureOrWritten (kept_at stored left place) pool.uncovered
written_in ticket_of stored number covers left (Open s) pool waits is = waits.written
written_in ticket_of stored number covers left (Lost w) pool waits is = absurd cc
written_in ticket_of stored number covers left Away pool waits is = absurd cc
