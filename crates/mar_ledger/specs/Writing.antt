-- What the one sync that writes a ledger leaves of its store.
use Rattle.std.specs.Prelude.{Err, List, Ok, Result, [], false, ℕ, ◌∷◌, ◌≡◌, ◌⊎◌}
use Rattle.mar_store.specs.Values.{LeavesValues, Values}
use Rattle.mar_store.specs.Watch.{IsCalm, LostHeeds, Watch, counted, is_due}
use Rattle.mar_store.specs.declared.lost.Lost.{Lost}
use Rattle.mar_ledger.specs.Books.{Books}
use Rattle.mar_ledger.specs.Ledger.{written}

-- All is written, and durable.
pub record HasWritten (height : ℕ) (books : Books) (old now : Values) (left : List Values) (changed : List ℕ) : Type 0 where
  pub values_are : (key : ℕ) → now key ≡ written height books old key
  pub durable : left ≡ now ∷ []
  pub unchanged : changed ≡ []

-- What was left is left, and maybe what was to be written.
pub record LosesWriting (height : ℕ) (books : Books) (old : Values) (before left : List Values) : Type 0 where
  pub values : Values
  pub values_are : (key : ℕ) → values key ≡ written height books old key
  pub leaves : LeavesValues before (values ∷ []) left

-- a store was lost in a put, which isn't counted, or in the one sync
abbrev pub LostWriting : {W : Type 0} → (W → Watch) → Watch → Lost W → Type 0
LostWriting watch old lost = IsCalm {S = Watch} (λ w. w) watch old (Err lost) ⊎ LostHeeds watch old lost

-- one sync was counted
abbrev pub WatchesWriting : {S W : Type 0} → (S → Watch) → (W → Watch) → Watch → Result S (Lost W) → Type 0
WatchesWriting now watch old (Ok s) = (is_due old.due ≡ false) × (now s ≡ counted old)
WatchesWriting now watch old (Err lost) = LostWriting watch old lost
