-- Epochs of one length are consecutive intervals of heights from 0 on.
use Rattle.std.proofs.Common.{◌≡◌, ℕ, ◌+◌, ◌-◌, ◌*◌, ◌^◌, ◌≤◌, ◌<◌, nat_le, Bool, true, false, if◌then◌else◌, Option, Some, None, IsSome, is_some, refl, sym, ap, arith}
use Rattle.mar_types.specs.Epochs.{Span, fixed_epochs, IsPartition}

-- what an epoch of length n is
pub record Bounds (n e : ℕ) (s : Span) : Type 0 where
  pub fits : e * n + n ≤ 2 ^ 64
  pub first : s.first ≡ e * n
  pub last : s.last ≡ e * n + n - 1

-- an epoch that is there has these bounds
pub bounds : (n e : ℕ) (s : Span) → fixed_epochs n e ≡ Some s → Bounds n e s
bounds n e s = by (nat_le (e * n + n) (2 ^ 64)) refl
  where
    some-is : (a b : Span) → ◌≡◌ {A = Option Span} (Some a) (Some b) → a ≡ b
    some-is a b p = cc

    le : nat_le (e * n + n) (2 ^ 64) ≡ true → e * n + n ≤ 2 ^ 64
    le p = grind arith

    by : (b : Bool) → nat_le (e * n + n) (2 ^ 64) ≡ b → (if b then Some (record { first = e * n; last = e * n + n - 1 }) else None) ≡ Some s → Bounds n e s
    by true fits p = record { fits = le fits; first = sym (ap (λ x. x.first) (some-is _ s p)); last = sym (ap (λ x. x.last) (some-is _ s p)) }
    by false fits p = absurd cc

-- an epoch whose heights fit 64 bits is there
pub exists : (n e : ℕ) → e * n + n ≤ 2 ^ 64 → nat_le (e * n + n) (2 ^ 64) ≡ true
exists n e h = grind arith

pub fixed_partition : (n : ℕ) → 1 < n → n < 2 ^ 64 → IsPartition (fixed_epochs n)
fixed_partition n long short = record {
  begins = (record { first = 0 * n; last = 0 * n + n - 1 }, ap (λ b. if b then Some (record { first = 0 * n; last = 0 * n + n - 1 }) else None) (exists n 0 (omega arith)), omega arith);
  follows = λ e s t ps pt. let a = bounds n e s ps in let b = bounds n (e + 1) t pt in follows_at e s t a b;
  unbroken = λ e there. unbroken_at e (nat_le ((e + 1) * n + n) (2 ^ 64)) refl there;
  ordered = λ e s p. let a = bounds n e s p in ordered_at e s a;
  above_zero = λ e s p. let a = bounds n e s p in above_at e s a;
  bounded = λ e s p. let a = bounds n e s p in bounded_at e s a;
}
  where
    follows_at : (e : ℕ) (s t : Span) → Bounds n e s → Bounds n (e + 1) t → t.first ≡ s.last + 1
    follows_at e s t a b = let p : (e + 1) * n ≡ e * n + n = omega arith in omega (arith, a.last, b.first, p)

    ordered_at : (e : ℕ) (s : Span) → Bounds n e s → s.first ≤ s.last
    ordered_at e s a = omega (arith, a.first, a.last)

    above_at : (e : ℕ) (s : Span) → Bounds n e s → 1 ≤ s.last
    above_at e s a = omega (arith, a.last)

    bounded_at : (e : ℕ) (s : Span) → Bounds n e s → s.last ≤ 2 ^ 64 - 1
    bounded_at e s a = omega (arith, a.last, a.fits)

    smaller : (e : ℕ) → nat_le ((e + 1) * n + n) (2 ^ 64) ≡ true → nat_le (e * n + n) (2 ^ 64) ≡ true
    smaller e p = exists n e (let q : (e + 1) * n + n ≤ 2 ^ 64 = grind arith in omega arith)

    unbroken_at : (e : ℕ) (b : Bool) → nat_le ((e + 1) * n + n) (2 ^ 64) ≡ b → IsSome {T = Span} (if b then Some (record { first = (e + 1) * n; last = (e + 1) * n + n - 1 }) else None) → IsSome (fixed_epochs n e)
    unbroken_at e true p there = ap (λ b. is_some {T = Span} (if b then Some (record { first = e * n; last = e * n + n - 1 }) else None)) (smaller e p)
    unbroken_at e false p there = absurd cc
