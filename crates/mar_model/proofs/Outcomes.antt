-- What a call in place came to, as the outcome of a life.
use Rattle.std.proofs.Common.{◌≡◌, Result, Ok, Err, IfErr, MatchResult, OnOk, subst, sym}
use Rattle.mar_model.specs.Faults.{Fault, want_of_memory}
use Rattle.mar_model.specs.Held.{ArePassed, Grew, Held, IsNoStores, Loses, Watches, Written, ended_on}
use Rattle.mar_model.proofs.Passing.{ArePassed-then}
use Rattle.mar_model.proofs.StoreLosses.{Loses-nothing}

-- A CALL THAT ASKS NO STORE

-- the life goes on with the stores as they are, or a rule ends it
pub judged : {T C : Type 0} (fault : C → Fault) (start : Held) (all : Written) (now : Held) (result : Result T C) → Grew start all now → IfErr result (λ c. IsNoStores (fault c)) → MatchResult result (λ _. Grew start all now) (λ c. Loses start all (ended_on (fault c) now))
judged fault start all now (Ok x) grew none = grew
judged fault start all now (Err c) grew none = Loses-nothing start all now grew (fault c) none

-- want of memory loses nothing
pub memory-loses : (start : Held) (all : Written) (now : Held) → Grew start all now → (fault : Fault) → fault ≡ want_of_memory → Loses start all (ended_on fault now)
memory-loses start all now grew fault is = Loses-nothing start all now grew fault (subst IsNoStores (sym is) tt)

-- it went well, or memory ran out
pub goes_on_memory : {T C : Type 0} (fault : C → Fault) (start : Held) (all : Written) (now : Held) → Grew start all now → (result : Result T C) → IfErr result (λ e. fault e ≡ want_of_memory) → MatchResult result (λ _. Grew start all now) (λ e. Loses start all (ended_on (fault e) now))
goes_on_memory fault start all now grew (Ok x) memory = grew
goes_on_memory fault start all now grew (Err e) memory = memory-loses start all now grew (fault e) memory

-- no call failed, neither the last one
pub passed_then : {T C : Type 0} (start old new : Watches) (result : Result T C) → ArePassed start old → OnOk result (ArePassed old new) → OnOk result (ArePassed start new)
passed_then start old new (Ok x) first last = ArePassed-then start old new first last
passed_then start old new (Err c) first last = tt
