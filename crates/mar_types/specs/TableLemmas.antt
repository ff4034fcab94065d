-- Epochs by a table are consecutive intervals of heights from 0 on.
use Rattle.std.specs.List.{AllByRecursion}
use Rattle.std.proofs.Common.{◌≡◌, ℕ, zero, suc, ◌+◌, ◌-◌, ◌*◌, ◌^◌, ◌≤◌, ◌<◌, nat_le, min, arith}
use Rattle.std.proofs.Common.{Bool, true, false, if◌then◌else◌, List, [], ◌∷◌, length, take, Option, Some, None, IsSome, is_some, refl, sym, ap, ◌∙◌, subst}
use Rattle.std.specs.Prelude.{slice_index}
use Rattle.std.proofs.Math.Seq.{take-length}
use Rattle.std.proofs.Math.Nat.{min-le_right, min-zero, zero-min}
use Rattle.std.proofs.lemmas.Bool.{le-leb, leb-true}
use Rattle.std.proofs.lemmas.List.{get_or-take, length-take-le}
use Rattle.mar_types.specs.Epochs.{Span, IsPartition, fixed_epochs}
use Rattle.mar_types.specs.Tables.{IsTable, first_of, sized_epochs, table_epochs, table_size}

-- EPOCHS OF ANY SIZES

-- what an epoch that is there is
pub record Lies (size : ℕ → ℕ) (e : ℕ) (s : Span) : Type 0 where
  pub fits : first_of size (suc e) ≤ 2 ^ 64
  pub first : s.first ≡ first_of size e
  pub last : s.last ≡ first_of size (suc e) - 1

pub lies : (size : ℕ → ℕ) (e : ℕ) (s : Span) → sized_epochs size e ≡ Some s → Lies size e s
lies size e s = by (nat_le (first_of size e + size e) (2 ^ 64)) refl
  where
    inside : (a b : Span) → ◌≡◌ {A = Option Span} (Some a) (Some b) → a ≡ b
    inside a b q = cc

    by : (b : Bool) → nat_le (first_of size e + size e) (2 ^ 64) ≡ b → (if b then Some (record { first = first_of size e; last = first_of size e + size e - 1 }) else None) ≡ Some s → Lies size e s
    by true fits q = record { fits = leb-true _ _ fits; first = sym (ap (λ x. x.first) (inside _ s q)); last = sym (ap (λ x. x.last) (inside _ s q)) }
    by false fits q = absurd cc

-- an epoch whose heights fit 64 bits is there
pub is_there : (size : ℕ → ℕ) (e : ℕ) → first_of size (suc e) ≤ 2 ^ 64 → sized_epochs size e ≡ Some (record { first = first_of size e; last = first_of size e + size e - 1 })
is_there size e h = ap (λ b. if b then Some (record { first = first_of size e; last = first_of size e + size e - 1 }) else None) (le-leb _ _ h)

the_span : (o : Option Span) → IsSome o → (s : Span) × (o ≡ Some s)
the_span (Some s) there = (s, refl)
the_span None there = absurd cc

pub sized_partition : (size : ℕ → ℕ) → ((e : ℕ) → 0 < size e) → 1 < size 0 → size 0 ≤ 2 ^ 64 → IsPartition (sized_epochs size)
sized_partition size some long fits = record {
  begins = (record { first = 0; last = 0 + size 0 - 1 }, is_there size 0 (omega (arith, fits)), refl);
  follows = λ e s t ps pt. follows_at e s t (lies size e s ps) (lies size (suc e) t (subst (λ k. sized_epochs size k ≡ Some t) (suc_is e) pt));
  unbroken = λ e there. unbroken_at e (subst (λ k. IsSome (sized_epochs size k)) (suc_is e) there);
  ordered = λ e s p. let a = lies size e s p in omega (arith, a.first, a.last, some e);
  above_zero = λ e s p. let a = lies size e s p in omega (arith, a.last, past_one e);
  bounded = λ e s p. let a = lies size e s p in omega (arith, a.last, a.fits);
}
  where
    suc_is : (e : ℕ) → e + 1 ≡ suc e
    suc_is e = omega arith

    past_one : (e : ℕ) → 2 ≤ first_of size (suc e)
    past_one zero = omega (arith, long)
    past_one (suc e) = omega (arith, past_one e)

    follows_at : (e : ℕ) (s t : Span) → Lies size e s → Lies size (suc e) t → t.first ≡ s.last + 1
    follows_at e s t a b = omega (arith, a.last, b.first, past_one e)

    unbroken_at : (e : ℕ) → IsSome (sized_epochs size (suc e)) → IsSome (sized_epochs size e)
    unbroken_at e there =
        let s = the_span (sized_epochs size (suc e)) there in
        let a = lies size (suc e) s.0 s.1 in
        ap is_some (is_there size e (omega (arith, a.fits)))

-- TABLES

-- a table that is kept as the first lengths of more
module _ (xs : List ℕ) (count : ℕ) (some : 0 < count) (held : count ≤ length xs) where
  pub kept_size : (e : ℕ) → table_size (take count xs) e ≡ slice_index xs (min e (count - 1))
  kept_size e =
      let low = min-le_right e (count - 1) in
      let at : min e (count - 1) < count = omega (arith, low) in
      rw (length-take-le count xs held) (get_or-take count xs (min e (count - 1)) 0 at)

  first_size : table_size (take count xs) 0 ≡ slice_index xs 0
  first_size = kept_size 0 ∙ ap (slice_index xs) (zero-min (count - 1))

  pub kept_positive : ((i : ℕ) → i < count → 0 < slice_index xs i) → (e : ℕ) → 0 < table_size (take count xs) e
  kept_positive positive e =
      let low = min-le_right e (count - 1) in
      subst (λ n. 0 < n) (sym (kept_size e)) (positive (min e (count - 1)) (omega (arith, low)))

  pub kept_partition : 1 < slice_index xs 0 → slice_index xs 0 ≤ 2 ^ 64 → ((i : ℕ) → i < count → 0 < slice_index xs i) → IsPartition (table_epochs (take count xs))
  kept_partition long fits positive =
      let long' = subst (λ n. 1 < n) (sym first_size) long in
      let fits' = subst (λ n. n ≤ 2 ^ 64) (sym first_size) fits in
      sized_partition (table_size (take count xs)) (kept_positive positive) long' fits'

each_positive : (xs : List ℕ) → AllByRecursion (λ n. 0 < n) xs → (i : ℕ) → i < length xs → 0 < slice_index xs i
each_positive [] all i at = absurd (omega arith)
each_positive (x ∷ xs) all zero at = all.0
each_positive (x ∷ xs) all (suc i) at = each_positive xs all.1 i (omega arith)

pub table_partition : (lengths : List ℕ) → IsTable lengths → slice_index lengths 0 ≤ 2 ^ 64 → IsPartition (table_epochs lengths)
table_partition xs table fits =
    let kept = kept_partition xs (length xs) table.some (omega arith) table.long fits (each_positive xs table.positive) in
    subst (λ ys. IsPartition (table_epochs ys)) (take-length xs) kept

-- a table of one length
module _ (n : ℕ) where
  abbrev each : ℕ → ℕ
  each = table_size (n ∷ [])

  size_is : (d : ℕ) → each d ≡ n
  size_is d = ap (slice_index (n ∷ [])) (min-zero d)

  first_is : (d : ℕ) → first_of each d ≡ d * n
  first_is zero = omega arith
  first_is (suc d) = let q : suc d * n ≡ d * n + n = omega arith in omega (arith, q, first_is d, size_is d)

  abbrev span : ℕ → ℕ → Option Span
  span first size = if nat_le (first + size) (2 ^ 64) then Some (record { first = first; last = first + size - 1 }) else None

  pub one_length : (e : ℕ) → table_epochs (n ∷ []) e ≡ fixed_epochs n e
  one_length e = ap (span (first_of each e)) (size_is e) ∙ ap (λ a. span a n) (first_is e)
