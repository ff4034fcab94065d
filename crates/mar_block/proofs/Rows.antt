-- The elements of a list of which one was exchanged, or to which one was added.
use Rattle.std.proofs.Common.{Bool, List, Option, Some, [], ap, arith, false, length, refl, suc, true, zero, ℕ, ◌++◌, ◌<◌, ◌==◌, ◌∷◌, ◌≡◌}
use Rattle.std.specs.Prelude.{if◌then◌else◌, is_none, is_some, slice_get, slice_set, ◌&&◌, ◌≢◌}
use Rattle.mar_cert.specs.Block.{Block}
use Rattle.mar_block.specs.Streams.{came_after}

module _ {X : Type 0} where
  pub got_same : (xs : List X) (i : ℕ) (x : X) → i < length xs → slice_get (slice_set xs i x) i ≡ Some x
  got_same [] i x below = absurd (omega (arith, below))
  got_same (y ∷ ys) zero x below = refl
  got_same (y ∷ ys) (suc i) x below = got_same ys i x (omega (arith, below))

  pub got_other : (xs : List X) (i u : ℕ) (x : X) → u ≢ i → slice_get (slice_set xs i x) u ≡ slice_get xs u
  got_other [] i u x other = refl
  got_other (y ∷ ys) zero zero x other = absurd (other refl)
  got_other (y ∷ ys) zero (suc u) x other = refl
  got_other (y ∷ ys) (suc i) zero x other = refl
  got_other (y ∷ ys) (suc i) (suc u) x other = got_other ys i u x (λ e. other (ap suc e))

  pub got_added : (xs : List X) (x : X) → slice_get (xs ++ x ∷ []) (length xs) ≡ Some x
  got_added [] x = refl
  got_added (y ∷ ys) x = got_added ys x

  pub got_before : (xs : List X) (u : ℕ) (x : X) → u ≢ length xs → slice_get (xs ++ x ∷ []) u ≡ slice_get xs u
  got_before [] zero x other = absurd (other refl)
  got_before [] (suc u) x other = refl
  got_before (y ∷ ys) zero x other = refl
  got_before (y ∷ ys) (suc u) x other = got_before ys u x (λ e. other (ap suc e))

  -- an answer put into the row of one ticket is what a provider is given
  module _ (asked : Option X → Option Block) (came : Option X → Option (Option Block)) where
    pub came_given : (xs : List X) (i : ℕ) (old new : X) (answer : Option Block) → i < length xs → slice_get xs i ≡ Some old
        → came (Some new) ≡ (if is_some (asked (Some old)) && is_none (came (Some old)) then Some answer else came (Some old))
        → (u : ℕ) → came (slice_get (slice_set xs i new) u) ≡ came_after (λ t. asked (slice_get xs t)) (λ t. came (slice_get xs t)) i answer u
    came_given xs i old new answer below at given u = by_test (u == i) refl
      where
        by_test : (b : Bool) → u == i ≡ b → came (slice_get (slice_set xs i new) u)
            ≡ (if b && is_some (asked (slice_get xs u)) && is_none (came (slice_get xs u)) then Some answer else came (slice_get xs u))
        by_test true is = let same : u ≡ i = grind (arith, is) in rw (same, got_same xs i new below, at) given
        by_test false is = let other : u ≢ i = grind (arith, is) in ap came (got_other xs i u new other)

    pub asked_given : (xs : List X) (i : ℕ) (old new : X) → i < length xs → slice_get xs i ≡ Some old → asked (Some new) ≡ asked (Some old)
        → (u : ℕ) → asked (slice_get (slice_set xs i new) u) ≡ asked (slice_get xs u)
    asked_given xs i old new below at kept u = by_test (u == i) refl
      where
        by_test : (b : Bool) → u == i ≡ b → asked (slice_get (slice_set xs i new) u) ≡ asked (slice_get xs u)
        by_test true is = let same : u ≡ i = grind (arith, is) in rw (same, got_same xs i new below, at) kept
        by_test false is = let other : u ≢ i = grind (arith, is) in ap asked (got_other xs i u new other)
