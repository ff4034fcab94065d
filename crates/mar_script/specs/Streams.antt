-- What a read takes of a source and a write gives to a sink, where they tell it, and how a script's lines are taken.
use Rattle.std.specs.Prelude.{Err, List, None, Ok, Option, Result, Some, Vec, [], drop, length, take, ℕ, ◌++◌, ◌+◌, ◌<◌, ◌∷◌, ◌≡◌, ◌≤◌}
use Rattle.std.specs.declared.alloc.Global.{Global}
use Rattle.mar_types.specs.Causes.{Rose}
use Rattle.mar_store.specs.declared.Miss.{Miss}
use Rattle.mar_store.specs.declared.Miss.TheVariants.{Fault as Missed, Memory as Forgot}
use Rattle.mar_script.specs.Refused.{IsUnended, max_line}
use Rattle.mar_model.specs.Step.{IsFront}
use Rattle.mar_script.specs.Run.{IsShownAs}
use Rattle.mar_script.specs.declared.reader.LineError.{LineError}
use Rattle.mar_script.specs.declared.reader.LineError.TheVariants.{Memory, ReadFault, TooLong, Unended}

-- these bytes were taken: whatever is left now was left behind them
abbrev pub Gives : Option (List ℕ) → List ℕ → Option (List ℕ) → Type 0
Gives before bytes after = (rest : List ℕ) → IsShownAs after rest → IsShownAs before (bytes ++ rest)

-- these bytes were put behind whatever was written
abbrev pub Takes : Option (List ℕ) → List ℕ → Option (List ℕ) → Type 0
Takes before bytes after = (front : List ℕ) → IsShownAs before front → IsShownAs after (front ++ bytes)

-- some bytes at the front of these were put there
abbrev pub TakesFront : Option (List ℕ) → List ℕ → Option (List ℕ) → Type 0
TakesFront before bytes after = (front : List ℕ) × IsFront front bytes × Takes before front after

-- a read or write that failed raised its count of failures, another left it, want of memory too
abbrev pub RaisedByFault : {T : Type 0} → ℕ → ℕ → Result T Miss → Type 0
RaisedByFault before now (Ok v) = now ≡ before
RaisedByFault before now (Err Missed) = Rose before now
RaisedByFault before now (Err Forgot) = now ≡ before

-- the first line of these bytes ends here
pub record EndsAt (bytes : List ℕ) (n : ℕ) : Type 0 where
  pub within : n < length bytes
  pub split : bytes ≡ take n bytes ++ 10 ∷ drop (n + 1) bytes
  pub before : IsUnended (take n bytes)

-- The answer to the bytes that were pending or read: the first line of them, the end, or why there is none.
abbrev pub IsLineOf : List ℕ → Result (Option (Vec ℕ Global)) LineError → List ℕ → Option (List ℕ) → Type 0
IsLineOf bytes (Ok (Some line)) pending left = (bytes ≡ line.items ++ 10 ∷ pending) × (length line.items ≤ max_line) × IsUnended line.items
IsLineOf bytes (Ok None) pending left = (bytes ≡ []) × (pending ≡ []) × IsShownAs left []
IsLineOf bytes (Err Unended) pending left = (pending ≡ bytes) × (0 < length bytes) × (length bytes ≤ max_line) × IsUnended bytes × IsShownAs left []
IsLineOf bytes (Err TooLong) pending left = (pending ≡ bytes) × (max_line < length bytes) × IsUnended (take (max_line + 1) bytes)
IsLineOf bytes (Err ReadFault) pending left = (pending ≡ bytes) × IsUnended bytes
IsLineOf bytes (Err Memory) pending left = pending ≡ bytes

-- what was read of the source, and the answer
pub record TakesLine (before : Option (List ℕ)) (pending : List ℕ) (result : Result (Option (Vec ℕ Global)) LineError) (still : List ℕ) (after : Option (List ℕ)) : Type 0 where
  pub read : List ℕ
  pub gives : Gives before read after
  pub line : IsLineOf (pending ++ read) result still after
