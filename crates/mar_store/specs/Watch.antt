-- What a store tells of its failures: how often it has failed, which calls are armed to fail, and how it goes by luck.
use Rattle.std.specs.Prelude.{Bool, Err, List, None, Ok, Option, Result, [], if◌then◌else◌, nat_le, true, false, ℕ, ◌++◌, ◌-◌, ◌==◌, ◌∷◌, ◌≡◌, ◌⊎◌}
use Rattle.std.specs.List.{list_any}
use Rattle.mar_types.specs.Causes.{Rose}
use Rattle.mar_store.specs.declared.luck.LuckHalf.{LuckHalf}
use Rattle.mar_store.specs.declared.lost.Lost.{Lost}
use Rattle.mar_store.specs.declared.lost.Lost.TheVariants.{Fault, Memory}
use Rattle.mar_store.specs.declared.lost.Miss.{Miss}
use Rattle.mar_store.specs.declared.lost.Miss.TheVariants.{Fault as Missed, Memory as Forgot}

-- how a store in memory goes by luck: by 32 bits of it, or by the lowest one
pub data Follows : Type 0 where
  by_half : LuckHalf → Follows
  by_lowest_bit : Follows

pub record Watch : Type 0 where
  -- how often it has failed; the count stops at 2 ^ 64 - 1
  pub faults : ℕ
  -- how many counted calls away each armed one is
  pub due : List ℕ
  -- a call can be armed
  pub armable : Bool
  -- only armed calls fail
  pub only_armed : Bool
  -- how it goes by luck, where it does
  pub keeps : Option Follows

-- of a store that never fails
abbrev pub unfailing : Watch
unfailing = record { faults = 0; due = []; armable = false; only_armed = true; keeps = None }

-- whether the next counted call is armed
abbrev pub is_due : List ℕ → Bool
is_due due = list_any (λ n. n == 1) due

-- the armed calls after one counted call
abbrev pub after_call : List ℕ → List ℕ
after_call [] = []
after_call (n ∷ ns) = if nat_le n 1 then after_call ns else (n - 1) ∷ after_call ns

-- one call was counted
abbrev pub counted : Watch → Watch
counted w = record w { due = after_call w.due }

-- One more call is armed, that many counted calls away; where nothing can be armed there is none.
abbrev pub armed : ℕ → Watch → Watch
armed calls w = if w.armable then record w { due = w.due ++ calls ∷ [] } else w

-- A counted call failed: the count rose, and where only armed calls fail it was armed.
pub record Strikes (old new : Watch) : Type 0 where
  pub rose : Rose old.faults new.faults
  pub armed : old.only_armed ≡ true → is_due old.due ≡ true
  pub same : new ≡ record old { faults = new.faults; due = after_call old.due }

-- what a counted call leaves of a store that it lost; want of memory leaves the count of failures
abbrev pub LostHeeds : {W : Type 0} → (W → Watch) → Watch → Lost W → Type 0
LostHeeds left old (Fault w) = Strikes old (left w)
LostHeeds left old (Memory w) = (is_due old.due ≡ false) × (left w ≡ counted old)

-- A counted call: an armed one fails and answers a fault, and nothing else.
abbrev pub Heeds : {S W : Type 0} → (S → Watch) → (W → Watch) → Watch → Result S (Lost W) → Type 0
Heeds now left old (Ok s) = (is_due old.due ≡ false) × (now s ≡ counted old)
Heeds now left old (Err l) = LostHeeds left old l

-- the same for a read, after which the store is still there
abbrev pub HeedsRead : {T : Type 0} → Watch → Watch → Result T Miss → Type 0
HeedsRead old now (Ok v) = (is_due old.due ≡ false) × (now ≡ counted old)
HeedsRead old now (Err Missed) = Strikes old now
HeedsRead old now (Err Forgot) = (is_due old.due ≡ false) × (now ≡ counted old)

-- The same for a call that may want for memory before the store is asked; then it isn't counted.
abbrev pub LostOrNot : {W : Type 0} → (W → Watch) → Watch → Lost W → Type 0
LostOrNot left old (Fault w) = Strikes old (left w)
LostOrNot left old (Memory w) = (left w ≡ old) ⊎ ((is_due old.due ≡ false) × (left w ≡ counted old))

abbrev pub HeedsOrNot : {S W : Type 0} → (S → Watch) → (W → Watch) → Watch → Result S (Lost W) → Type 0
HeedsOrNot now left old (Ok s) = (is_due old.due ≡ false) × (now s ≡ counted old)
HeedsOrNot now left old (Err l) = LostOrNot left old l

-- A call that isn't counted answers no fault where only armed calls fail; want of memory may come at any time.
abbrev pub IsCalm : {S W : Type 0} → (S → Watch) → (W → Watch) → Watch → Result S (Lost W) → Type 0
IsCalm now left old (Ok s) = now s ≡ old
IsCalm now left old (Err (Fault w)) = Rose old.faults (left w).faults × (old.only_armed ≡ true → ⊥) × (left w ≡ record old { faults = (left w).faults })
IsCalm now left old (Err (Memory w)) = left w ≡ old
