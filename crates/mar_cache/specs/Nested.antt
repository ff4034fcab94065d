-- What is held and sure of all epochs together may be left, and is of no epoch below the lowest.
use Rattle.std.specs.Prelude.{Bool, Contains, List, [], false, filter, nat_le, suc, true, zero, ℕ, ◌&&◌, ◌∷◌, ◌≡◌, ◌≤◌}
use Rattle.std.specs.List.{list_any}
use Rattle.std.proofs.Common.{inl, inr, arith, cond, refl, subst, sym}
use Rattle.std.proofs.lemmas.Bool.{cases_eq, leb-true}
use Rattle.std.proofs.lemmas.List.Elements.{Contains-append_cases, Contains-append_left, Contains-append_right}
use Rattle.mar_store.specs.Changes.{Within}
use Rattle.mar_model.specs.CacheCalls.{IsNestedCache}
use Rattle.mar_model.specs.Cached.{Cached, epoch_of}
use Rattle.mar_epochs.specs.EpochStates.{EpochState, EpochStates, HasSome, IsNestedEpoch, held_in, is_opened, may_in, opened, shut, sure_in}
use Rattle.mar_cache.specs.AsOne.{kept_of, may_of_some, sure_of_all, up_to}
use Rattle.mar_cache.specs.Bounds.{Bounds, includes}
use Rattle.mar_cache.specs.SameEntries.{same_entry}
use Rattle.mar_cache.specs.Shelved.{LieWithin}
use Rattle.mar_cache.specs.Stages.{IsAtStage, is_loaded}
use Rattle.mar_cache.specs.declared.stage.Stage.{Stage}

pub in_nothing : {A : Type 0} {P : Type 0} (y : A) → Contains [] y → P
in_nothing y (k, lt, is) = absurd (omega (arith, lt))

module _ {T : Type 0} (lists : ℕ → List T) where
  pub in_up_to : (h k : ℕ) (x : T) → k ≤ h → Contains (lists k) x → Contains (up_to lists h) x
  in_up_to zero k x within has = let none : k ≡ zero = omega (arith, within) in subst (λ j. Contains (lists j) x) none has
  in_up_to (suc h) k x within has = elim (cases_eq k (suc h)) [
    | inl same ↦ Contains-append_right (up_to lists h) (lists (suc h)) x (subst (λ j. Contains (lists j) x) same has)
    | inr other ↦ Contains-append_left (up_to lists h) (lists (suc h)) x (in_up_to h k x (omega (arith, within, other)) has)
  ]

  pub of_up_to : (h : ℕ) (x : T) → Contains (up_to lists h) x → (k : ℕ) × (k ≤ h) × Contains (lists k) x
  of_up_to zero x has = (zero, omega arith, has)
  of_up_to (suc h) x has = elim (Contains-append_cases (up_to lists h) (lists (suc h)) x has) [ inl before ↦ let (k, within, found) = of_up_to h x before in (k, omega (arith, within), found) | inr here ↦ (suc h, omega arith, here) ]

pub may_some : (t : EpochState) (x : Cached) → Contains (may_in t) x → HasSome t
may_some (opened b) x has = tt
may_some (shut l) x has = λ bare. in_nothing x (subst (λ m. Contains m.may x) bare has)

-- lists by epoch, each within another
pub within_up_to : {T : Type 0} (f g : ℕ → List T) (h : ℕ) → ((k : ℕ) → k ≤ h → Within (f k) (g k)) → Within (up_to f h) (up_to g h)
within_up_to f g h each x has = let (k, within, found) = of_up_to f h x has in in_up_to g h k x within (each k within x found)

sure_held_in : (t : EpochState) → IsNestedEpoch t → (is_opened t ≡ false → (x : Cached) → Contains (may_in t) x → ⊥) → Within (sure_in t) (held_in t)
sure_held_in (opened b) nested none = nested.sure_held
sure_held_in (shut l) nested none = λ x has. absurd (none refl x (nested x has))

pub held_may_in : (t : EpochState) → IsNestedEpoch t → Within (held_in t) (may_in t)
held_may_in (opened b) nested = nested.held_may
held_may_in (shut l) nested = λ x has. in_nothing x has

pub sure_may_in : (t : EpochState) → IsNestedEpoch t → Within (sure_in t) (may_in t)
sure_may_in (opened b) nested = λ x has. nested.held_may x (nested.sure_held x has)
sure_may_in (shut l) nested = nested

from_lowest : (b : Bounds) (k : ℕ) → includes b k ≡ true → b.lowest ≤ k
from_lowest b k is = leb-true b.lowest k (left (nat_le b.lowest k) (nat_le k b.highest) is)
  where
    left : (p q : Bool) → (p && q) ≡ true → p ≡ true
    left true q is' = refl
    left false q is' = is'

pub nested_cache : (states : EpochStates) (b : Bounds) (stage : Stage) → LieWithin states b → ((k : ℕ) → IsNestedEpoch (states k)) → IsAtStage stage states → IsNestedCache (kept_of states b.highest) b.lowest (is_loaded stage)
nested_cache states b stage lie nested staged = record {
  sure_held = λ is. within_up_to (λ k. sure_in (states k)) (λ k. held_in (states k)) b.highest (λ k within. sure_held_in (states k) (nested k) (staged.loaded is k));
  held_may = within_up_to (λ k. held_in (states k)) (λ k. may_in (states k)) b.highest (λ k within. held_may_in (states k) (nested k));
  sure_may = within_up_to (λ k. sure_in (states k)) (λ k. may_in (states k)) b.highest (λ k within. sure_may_in (states k) (nested k));
  above = λ x has. let (k, within, found) = of_up_to (λ k. may_in (states k)) b.highest x has in let own = (lie k).may x found in let low = from_lowest b k ((lie k).inside (may_some (states k) x found)) in omega (arith, own, low);
}

within_filter : {T : Type 0} (test : T → Bool) (xs : List T) → Within (filter test xs) xs
within_filter test [] x has = has
within_filter {T} test (y ∷ ys) x has = by (test y) (within_filter test ys x) has
  where
    more : Contains ys x → Contains (y ∷ ys) x
    more (k, lt, is) = (suc k, omega (arith, lt), is)

    by : (c : Bool) → (Contains (filter test ys) x → Contains ys x) → Contains (cond c (y ∷ filter test ys) (filter test ys)) x → Contains (y ∷ ys) x
    by true rest (zero, lt, is) = (zero, omega arith, is)
    by true rest (suc k, lt, is) = more (rest (k, omega (arith, lt), is))
    by false rest has' = more (rest has')

-- what is sure in each way in which epochs may be left may be left in the first of them
pub nested_left : (ways : List EpochStates) (h : ℕ) → ((states : EpochStates) → Contains ways states → (k : ℕ) → IsNestedEpoch (states k)) → Within (sure_of_all ways h) (may_of_some ways h)
nested_left [] h nested x has = has
nested_left (way ∷ []) h nested x has = within_up_to (λ k. sure_in (way k)) (λ k. may_in (way k)) h (λ k within. sure_may_in (way k) (nested way (zero, omega arith, refl) k)) x has
nested_left (way ∷ other ∷ ways) h nested x has = Contains-append_left (up_to (λ k. may_in (way k)) h) (may_of_some (other ∷ ways) h) x (within_up_to (λ k. sure_in (way k)) (λ k. may_in (way k)) h (λ k within. sure_may_in (way k) (nested way (zero, omega arith, refl) k)) x (within_filter (λ y. list_any (same_entry y) (sure_of_all (other ∷ ways) h)) (up_to (λ k. sure_in (way k)) h) x has))

held_open : (t : EpochState) (x : Cached) → Contains (held_in t) x → is_opened t ≡ true
held_open (opened b) x has = refl
held_open (shut l) x has = in_nothing x has

-- what is held is of open epochs
pub opens_held : (states : EpochStates) (b : Bounds) → LieWithin states b → (x : Cached) → Contains (kept_of states b.highest).held x → is_opened (states (epoch_of x)) ≡ true
opens_held states b lie x has = let (k, within, found) = of_up_to (λ k. held_in (states k)) b.highest x has in subst (λ e. is_opened (states e) ≡ true) (sym ((lie k).held x found)) (held_open (states k) x found)
