-- The order of rounds and cutoffs, and what the greatest of several covers.
use Rattle.std.proofs.Common.{◌≡◌, ◌⊎◌, inl, inr, ℕ, List, [], ◌∷◌, Bool, true, false, ◌&&◌, ◌||◌, ◌==◌, ◌≤◌, nat_lt, nat_le, if◌then◌else◌, IsTrue, IsFalse, refl, sym, ap₂, subst, arith, leb-true, ◌++◌}
use Rattle.std.proofs.lemmas.List.Sums.{fold-append}
use Rattle.std.specs.List.{AllByRecursion}
use Rattle.std.proofs.lemmas.Bool.Decides.{nat_tests}
use Rattle.mar_types.specs.Round.{Round, round_le, round_lt}
use Rattle.mar_key.specs.Cutoff.{Cutoff, at_epoch, at_round, covers, cutoff_le, cutoff_max, greatest_of}

abbrev round_of : ℕ → ℕ → Round
round_of e v = record { epoch = e; view = v }

-- a round at or below another is below it, or the same
pub round_le-cases : (r s : Round) → IsTrue (round_le r s) → IsTrue (round_lt r s) ⊎ (r ≡ s)
round_le-cases r s p = by (round_lt r s) refl
  where
    epochs : (a b c d : ℕ) → (nat_lt a c || (a == c && nat_le b d)) ≡ true → (nat_lt a c || (a == c && nat_lt b d)) ≡ false → a ≡ c
    epochs a b c d p q = grind (arith, nat_tests)

    views : (a b c d : ℕ) → (nat_lt a c || (a == c && nat_le b d)) ≡ true → (nat_lt a c || (a == c && nat_lt b d)) ≡ false → b ≡ d
    views a b c d p q = grind (arith, nat_tests)

    by : (b : Bool) → round_lt r s ≡ b → IsTrue (round_lt r s) ⊎ (r ≡ s)
    by true lt = inl lt
    by false no_lt = inr (ap₂ round_of (epochs r.epoch r.view s.epoch s.view p no_lt) (views r.epoch r.view s.epoch s.view p no_lt))

pub cutoff_le-total : (c d : Cutoff) → IsFalse (cutoff_le c d) → IsTrue (cutoff_le d c)
cutoff_le-total (at_round r) (at_round s) p = le r.epoch r.view s.epoch s.view p
  where
    le : (a b c d : ℕ) → (nat_lt a c || (a == c && nat_le b d)) ≡ false → (nat_lt c a || (c == a && nat_le d b)) ≡ true
    le a b c d p = grind (arith, nat_tests)
cutoff_le-total (at_round r) (at_epoch e) p = le r.epoch e p
  where
    le : (a e : ℕ) → nat_le a e ≡ false → nat_lt e a ≡ true
    le a e p = grind (arith, nat_tests)
cutoff_le-total (at_epoch e) (at_round r) p = le e r.epoch p
  where
    le : (e a : ℕ) → nat_lt e a ≡ false → nat_le a e ≡ true
    le e a p = grind (arith, nat_tests)
cutoff_le-total (at_epoch e) (at_epoch f) p = le e f p
  where
    le : (e f : ℕ) → nat_le e f ≡ false → nat_le f e ≡ true
    le e f p = grind (arith, nat_tests)

-- COVERS

-- a round cutoff covers the rounds at or below it, an epoch's those of its epoch and of earlier ones
pub covers-at_round : (s r : Round) → IsTrue (covers (at_round s) r) → IsTrue (round_lt r s) ⊎ (r ≡ s)
covers-at_round s r covered = round_le-cases r s covered

pub covers-at_epoch : (e : ℕ) (r : Round) → IsTrue (covers (at_epoch e) r) → r.epoch ≤ e
covers-at_epoch e r covered = leb-true r.epoch e covered

-- THE GREATEST

pub cutoff_max-cases : (c d : Cutoff) → (cutoff_max c d ≡ c) ⊎ (cutoff_max c d ≡ d)
cutoff_max-cases c d = by (cutoff_le c d)
  where
    by : (b : Bool) → ((if b then d else c) ≡ c) ⊎ ((if b then d else c) ≡ d)
    by true = inr refl
    by false = inl refl

-- what holds of the first and of all others holds of the greatest, which is one of them
pub greatest_of-all : (P : Cutoff → Type 0) (c : Cutoff) (cs : List Cutoff) → P c → AllByRecursion P cs → P (greatest_of c cs)
greatest_of-all P c [] p all = p
greatest_of-all P c (d ∷ cs) p all = greatest_of-all P (cutoff_max c d) cs (of (cutoff_max-cases c d)) all.1
  where
    of : (cutoff_max c d ≡ c) ⊎ (cutoff_max c d ≡ d) → P (cutoff_max c d)
    of (inl same) = subst P (sym same) p
    of (inr same) = subst P (sym same) all.0

pub greatest_of-append : (c : Cutoff) (cs ds : List Cutoff) → greatest_of c (cs ++ ds) ≡ greatest_of (greatest_of c cs) ds
greatest_of-append c cs ds = fold-append cutoff_max c cs ds
