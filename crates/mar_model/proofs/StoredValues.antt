-- What a put or a storing leaves of stored values, and what is found among them.
use Rattle.std.proofs.Common.{◌≡◌, ◌⊎◌, inl, inr, ℕ, zero, List, [], ◌∷◌, ◌++◌, find, Bool, true, false, ◌&&◌, ◌||◌, not, if◌then◌else◌, Some, is_some, IsTrue, Contains, refl, sym, subst, arith}
use Rattle.std.specs.List.{AllByRecursion, list_any}
use Rattle.std.proofs.lemmas.List.Elements.{Contains-append_right}
use Rattle.mar_store.specs.Kept.{At, Kept, has_height, value_at}
use Rattle.mar_store.specs.Changes.{IsNested, KeepsValues, Puts}
use Rattle.mar_store.proofs.Lookups.{AllByRecursion-push, AllByRecursion-within, has_height-push_cases, has_height-push_same, value_at-append_found}
use Rattle.mar_model.specs.Stored.{values_of}
use Rattle.mar_model.specs.Moves.{StoresValue, StoresWhere}
use Rattle.mar_model.specs.Node.{SureOrWritten}
use Rattle.mar_model.specs.Step.{KeepsFrom}
use Rattle.mar_model.proofs.PlainEvents.{KeepsFrom-same}

-- PUTS

-- a value was put, unless it was ignored
abbrev pub PutIn : {T : Type 0} → Bool → List (At T) → At T → List (At T) → Type 0
PutIn ignored old x new = new ≡ (if ignored then old else old ++ x ∷ [])

-- what was held is held
pub held_kept : {T : Type 0} (ignored : Bool) (old : List (At T)) (x : At T) (new : List (At T)) → PutIn ignored old x new → KeepsValues old new
held_kept true old x new put h v is = subst (λ xs. value_at xs h ≡ Some v) (sym put) is
held_kept false old x new put h v is = subst (λ xs. value_at xs h ≡ Some v) (sym put) (value_at-append_found old (x ∷ []) h v is)

-- its height is held, where it was only ignored for being held
pub stored_height : {T : Type 0} (ignored : Bool) (old : List (At T)) (x : At T) (new : List (At T)) → (IsTrue ignored → IsTrue (has_height old x.height)) → PutIn ignored old x new → IsTrue (has_height new x.height)
stored_height true old x new there put = subst (λ xs. IsTrue (has_height xs x.height)) (sym put) (there refl)
stored_height false old x new there put = subst (λ xs. IsTrue (has_height xs x.height)) (sym put) (has_height-push_same old x.height x.value)

-- no other height entered
pub entered_height : {T : Type 0} (ignored : Bool) (old : List (At T)) (x : At T) (new : List (At T)) (h : ℕ) → PutIn ignored old x new → IsTrue (has_height new h) → IsTrue (has_height old h) ⊎ (x.height ≡ h)
entered_height true old x new h put has = inl (subst (λ xs. IsTrue (has_height xs h)) put has)
entered_height false old x new h put has = has_height-push_cases old x.height h x.value (subst (λ xs. IsTrue (has_height xs h)) put has)

-- what holds of all that was held and of the put holds of all that is held
pub all_held : {T : Type 0} (Q : At T → Type 0) (ignored : Bool) (old : List (At T)) (x : At T) (new : List (At T)) → PutIn ignored old x new → AllByRecursion Q old → Q x → AllByRecursion Q new
all_held Q true old x new put all own = subst (AllByRecursion Q) (sym put) all
all_held Q false old x new put all own = subst (AllByRecursion Q) (sym put) (AllByRecursion-push Q old x all own)

-- so it keeps all that stood
pub KeepsFrom-put : {T : Type 0} (bound : ℕ) (ignored : Bool) (old : Kept (At T)) (x : At T) (new : Kept (At T)) → Puts ignored old x new → KeepsFrom bound old new
KeepsFrom-put bound ignored old x new puts = record {
  held = λ h v low is. held_kept ignored old.held x new.held puts.held h v is;
  sure = λ h v is has. subst (λ xs. value_at xs h ≡ Some v) (sym puts.sure) is;
}

-- PUTS THAT WERE SYNCED

-- what was sure is sure
pub sure_kept : {T : Type 0} (ignored : Bool) (old : Kept (At T)) (x : At T) (new : Kept (At T)) → IsNested old → StoresValue ignored old x new → KeepsValues old.sure new.sure
sure_kept ignored old x new nested stores h v is = subst (λ xs. value_at xs h ≡ Some v) (sym stores.sure) (held_kept ignored old.held x new.held stores.held h v (nested.sure_held h v is))

pub KeepsFrom-stored : {T : Type 0} (bound : ℕ) (ignored : Bool) (old : Kept (At T)) (x : At T) (new : Kept (At T)) → IsNested old → StoresValue ignored old x new → KeepsFrom bound old new
KeepsFrom-stored bound ignored old x new nested stores = record {
  held = λ h v low is. held_kept ignored old.held x new.held stores.held h v is;
  sure = λ h v is has. sure_kept ignored old x new nested stores h v is;
}

-- all that is held is sure
pub all_sure : {T : Type 0} (ignored : Bool) (old : Kept (At T)) (x : At T) (new : Kept (At T)) (uncovered : List ℕ) → StoresValue ignored old x new → SureOrWritten new uncovered
all_sure ignored old x new uncovered stores h has = inl (subst (λ xs. IsTrue (has_height xs h)) (sym stores.sure) has)

-- LOOKING FOR A DIGEST

-- what stands in a list stands behind one more
pub later_place : {T : Type 0} (y : T) (xs : List T) (x : T) → Contains xs x → Contains (y ∷ xs) x
later_place y xs x has = Contains-append_right (y ∷ []) xs x has

-- what is found stands in the list
pub found_place : {T : Type 0} (test : T → Bool) (xs : List (At T)) → IsTrue (is_some (find test (values_of xs))) → (x : At T) × Contains xs x × (test x.value ≡ true)
found_place test [] some = absurd cc
found_place {T = T} test (y ∷ xs) some = by (test y.value) refl some (found_place test xs)
  where
    by : (b : Bool) → test y.value ≡ b → IsTrue (is_some (if b then Some y.value else find test (values_of xs))) → (IsTrue (is_some (find test (values_of xs))) → (x : At T) × Contains xs x × (test x.value ≡ true)) → (x : At T) × Contains (y ∷ xs) x × (test x.value ≡ true)
    by true is found others = (y, (zero, omega arith, refl), is)
    by false is found others = let there = others found in (there.0, later_place y xs there.0 there.1, there.2)

-- so does what passes a test
pub any_place : {T : Type 0} (test : T → Bool) (xs : List T) → IsTrue (list_any test xs) → (x : T) × Contains xs x × (test x ≡ true)
any_place test [] some = absurd cc
any_place {T = T} test (y ∷ xs) some = by (test y) refl some (any_place test xs)
  where
    by : (b : Bool) → test y ≡ b → IsTrue (b || list_any test xs) → (IsTrue (list_any test xs) → (x : T) × Contains xs x × (test x ≡ true)) → (x : T) × Contains (y ∷ xs) x × (test x ≡ true)
    by true is found others = (y, (zero, omega arith, refl), is)
    by false is found others = let there = others found in (there.0, later_place y xs there.0 there.1, there.2)

-- one of two tests passes
pub either_test : (c d : Bool) → IsTrue (c || d) → IsTrue c ⊎ IsTrue d
either_test true d is = inl refl
either_test false d is = inr is

-- PUTS THAT ARE DUE

-- a certificate that is due only where none is held: its height is held where a block is
pub due_height : {T : Type 0} (ignored has_block : Bool) (old : Kept (At T)) (x : At T) (new : Kept (At T)) → (IsTrue ignored → IsTrue (has_height old.held x.height)) → StoresWhere (has_block && not (has_height old.held x.height)) ignored old x new → IsTrue has_block → IsTrue (has_height new.held x.height)
due_height ignored false old x new there stores none = absurd cc
due_height ignored true old x new there stores has = by (has_height old.held x.height) refl stores
  where
    by : (c : Bool) → has_height old.held x.height ≡ c → StoresWhere (not c) ignored old x new → IsTrue (has_height new.held x.height)
    by true held same = subst (λ k. IsTrue (has_height k.held x.height)) (sym same) held
    by false lacks put = stored_height ignored old.held x new.held there put.held

-- due or not, it keeps all that stood
pub KeepsFrom-due : {T : Type 0} (bound : ℕ) (due ignored : Bool) (old : Kept (At T)) (x : At T) (new : Kept (At T)) → IsNested old → StoresWhere due ignored old x new → KeepsFrom bound old new
KeepsFrom-due bound true ignored old x new nested stores = KeepsFrom-stored bound ignored old x new nested stores
KeepsFrom-due bound false ignored old x new nested stores = subst (KeepsFrom bound old) (sym stores) (KeepsFrom-same bound old)

-- what holds of all that was held and of the put, where it is due, holds of all that is held
pub held_due : {T : Type 0} (Q : At T → Type 0) (due ignored : Bool) (old : Kept (At T)) (x : At T) (new : Kept (At T)) → StoresWhere due ignored old x new → AllByRecursion Q old.held → (IsTrue due → Q x) → AllByRecursion Q new.held
held_due Q true ignored old x new stores all put = all_held Q ignored old.held x new.held stores.held all (put refl)
held_due Q false ignored old x new stores all put = subst (λ k. AllByRecursion Q k.held) (sym stores) all

-- and so for all that a crash can leave
pub may_due : {T : Type 0} (Q : At T → Type 0) (due ignored : Bool) (old : Kept (At T)) (x : At T) (new : Kept (At T)) → StoresWhere due ignored old x new → AllByRecursion Q old.held → AllByRecursion Q old.may → Q x → AllByRecursion Q new.may
may_due Q true ignored old x new stores held may put = AllByRecursion-within Q new.may new.held stores.may (all_held Q ignored old.held x new.held stores.held held put)
may_due Q false ignored old x new stores held may put = subst (λ k. AllByRecursion Q k.may) (sym stores) may

-- what is held stays sure, or waits for a sync
pub sure_due : {T : Type 0} (due ignored : Bool) (old : Kept (At T)) (x : At T) (new : Kept (At T)) (uncovered : List ℕ) → StoresWhere due ignored old x new → SureOrWritten old uncovered → SureOrWritten new uncovered
sure_due true ignored old x new uncovered stores all = all_sure ignored old x new uncovered stores
sure_due false ignored old x new uncovered stores all = subst (λ k. SureOrWritten k uncovered) (sym stores) all
