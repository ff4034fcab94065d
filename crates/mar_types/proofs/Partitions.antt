-- The epoch that contains a height is the only one that does.
use Rattle.std.proofs.Common.{◌≡◌, ℕ, zero, suc, ◌+◌, ◌-◌, ◌*◌, ◌/◌, ◌^◌, ◌≤◌, ◌<◌, nat_le, ◌&&◌, Bool, true, false, if◌then◌else◌, Option, Some, None, IsSome, is_some, refl, sym, ap, subst, arith, add-one}
use Rattle.mar_types.specs.Epochs.{Span, Epochs, IsPartition, is_in_span, containing_below, containing, fixed_epochs}
use Rattle.mar_types.specs.Fixed.{Bounds, bounds, fixed_partition}

-- the value of what is there
the_span : (o : Option Span) → IsSome o → (s : Span) × (o ≡ Some s)
the_span (Some s) there = (s, refl)
the_span None there = absurd cc

-- a later epoch begins above the end of an earlier one
pub above : (epochs : Epochs) → IsPartition epochs → (e k : ℕ) (s t : Span) → epochs e ≡ Some s → epochs (e + suc k) ≡ Some t → s.last < t.first
above epochs p e zero s t at_e at_d = let q : e + suc zero ≡ e + 1 = omega arith in let first = p.follows e s t at_e (rw q at at_d) in omega (arith, first)
above epochs p e (suc k) s t at_e at_d =
    let q : e + suc (suc k) ≡ (e + suc k) + 1 = omega arith in
    let there : epochs ((e + suc k) + 1) ≡ Some t = rw q at at_d in
    let u = the_span (epochs (e + suc k)) (p.unbroken (e + suc k) (ap is_some there)) in
    let below : s.last < u.0.first = above epochs p e k s u.0 at_e u.1 in
    let first : t.first ≡ u.0.last + 1 = p.follows (e + suc k) u.0 t u.1 there in
    let ordered : u.0.first ≤ u.0.last = p.ordered (e + suc k) u.0 u.1 in
    omega arith

-- a span has the heights from its first to its last
pub record Within (epochs : Epochs) (e h : ℕ) : Type 0 where
  pub span : Span
  pub there : epochs e ≡ Some span
  pub from : span.first ≤ h
  pub to : h ≤ span.last

pub within : (epochs : Epochs) (e h : ℕ) → is_in_span (epochs e) h ≡ true → Within epochs e h
within epochs e h = by (epochs e) refl
  where
    from_test : (s : Span) → (nat_le s.first h && nat_le h s.last) ≡ true → s.first ≤ h
    from_test s t = grind arith

    to_test : (s : Span) → (nat_le s.first h && nat_le h s.last) ≡ true → h ≤ s.last
    to_test s t = grind arith

    by : (o : Option Span) → epochs e ≡ o → is_in_span o h ≡ true → Within epochs e h
    by (Some s) there t = record { span = s; there = there; from = from_test s t; to = to_test s t }
    by None there t = absurd cc

-- what the test of an order says
at_most : (a b : ℕ) → nat_le a b ≡ true → a ≤ b
at_most a b t = grind arith

over : (a b : ℕ) → nat_le a b ≡ false → b < a
over a b t = grind arith

-- two epochs with one height are one epoch
pub only : (epochs : Epochs) → IsPartition epochs → (e d h : ℕ) → is_in_span (epochs e) h ≡ true → is_in_span (epochs d) h ≡ true → e ≡ d
only epochs p e d h at_e at_d = by (nat_le e d) refl (nat_le d e) refl
  where
    apart : (a k : ℕ) → is_in_span (epochs a) h ≡ true → is_in_span (epochs (a + suc k)) h ≡ true → ⊥
    apart a k x y =
        let u = within epochs a h x in
        let v = within epochs (a + suc k) h y in
        let below : u.span.last < v.span.first = above epochs p a k u.span v.span u.there v.there in
        let to : h ≤ u.span.last = u.to in
        let from : v.span.first ≤ h = v.from in
        omega arith

    later : (a b : ℕ) → is_in_span (epochs a) h ≡ true → is_in_span (epochs b) h ≡ true → a < b → ⊥
    later a b x y lt = let q : b ≡ a + suc (b - a - 1) = omega arith in apart a (b - a - 1) x (rw q at y)

    by : (x : Bool) → nat_le e d ≡ x → (y : Bool) → nat_le d e ≡ y → e ≡ d
    by true t true s = let a = at_most e d t in let b = at_most d e s in omega (arith, a, b)
    by true t false s = absurd (later e d at_e at_d (over d e s))
    by false t true s = absurd (later d e at_d at_e (over e d t))
    by false t false s = let a = over e d t in let b = over d e s in absurd (omega (arith, a, b))

-- an epoch's first height is at least its number
pub number_le : (epochs : Epochs) → IsPartition epochs → (e : ℕ) (s : Span) → epochs e ≡ Some s → e ≤ s.first
number_le epochs p zero s there = omega arith
number_le epochs p (suc e) s there =
    let at : epochs (e + 1) ≡ Some s = rw (add-one) there in
    let u = the_span (epochs e) (p.unbroken e (ap is_some at)) in
    let before : e ≤ u.0.first = number_le epochs p e u.0 u.1 in
    let first : s.first ≡ u.0.last + 1 = p.follows e u.0 s u.1 at in
    let ordered : u.0.first ≤ u.0.last = p.ordered e u.0 u.1 in
    omega arith

-- the search down finds the epoch that has the height
found_below : (epochs : Epochs) → IsPartition epochs → (e h k : ℕ) → is_in_span (epochs e) h ≡ true → e < k → containing_below epochs h k ≡ Some e
found_below epochs p e h zero at_e below = absurd (omega arith)
found_below epochs p e h (suc k) at_e below = by (found_below epochs p e h k at_e) (is_in_span (epochs k) h) refl
  where
    same : k ≡ e → is_in_span (epochs k) h ≡ true
    same q = subst (λ x. is_in_span (epochs x) h ≡ true) (sym q) at_e

    clash : is_in_span (epochs k) h ≡ true → is_in_span (epochs k) h ≡ false → ⊥
    clash a b = cc

    lower : is_in_span (epochs k) h ≡ false → (q : Bool) → nat_le k e ≡ q → e < k
    lower t true q = let a = at_most k e q in let r : k ≡ e = omega (arith, a, below) in absurd (clash (same r) t)
    lower t false q = over k e q

    by : (e < k → containing_below epochs h k ≡ Some e) → (b : Bool) → is_in_span (epochs k) h ≡ b → (if b then Some k else containing_below epochs h k) ≡ Some e
    by deeper true t = ap Some (only epochs p k e h t at_e)
    by deeper false t = deeper (lower t (nat_le k e) refl)

-- an epoch that has the height contains it
pub found : (epochs : Epochs) → IsPartition epochs → (e h : ℕ) → is_in_span (epochs e) h ≡ true → containing epochs h ≡ Some e
found epochs p e h at_e =
    let u = within epochs e h at_e in
    let number : e ≤ u.span.first = number_le epochs p e u.span u.there in
    let from : u.span.first ≤ h = u.from in
    let below : e < suc h = omega arith in
    found_below epochs p e h (suc h) at_e below

none_below : (epochs : Epochs) (h k : ℕ) → ((e : ℕ) → is_in_span (epochs e) h ≡ false) → containing_below epochs h k ≡ None
none_below epochs h zero nowhere = refl
none_below epochs h (suc k) nowhere = rw (nowhere k) (none_below epochs h k nowhere)

-- where no epoch has the height, none contains it
pub not_found : (epochs : Epochs) (h : ℕ) → ((e : ℕ) → is_in_span (epochs e) h ≡ false) → containing epochs h ≡ None
not_found epochs h nowhere = none_below epochs h (suc h) nowhere

-- EPOCHS OF ONE LENGTH

-- the epoch that contains the height is the height's quotient
pub fixed_found : (n h : ℕ) (s : Span) → 1 < n → n < 2 ^ 64 → fixed_epochs n (h / n) ≡ Some s → containing (fixed_epochs n) h ≡ Some (h / n)
fixed_found n h s long short there = found (fixed_epochs n) (fixed_partition n long short) (h / n) h (in_it s there)
  where
    inside : (s : Span) → fixed_epochs n (h / n) ≡ Some s → (nat_le s.first h && nat_le h s.last) ≡ true
    inside s there =
        let b = bounds n (h / n) s there in
        let first : s.first ≡ h / n * n = b.first in
        let last : s.last ≡ h / n * n + n - 1 = b.last in
        grind arith

    in_it : (s : Span) → fixed_epochs n (h / n) ≡ Some s → is_in_span (fixed_epochs n (h / n)) h ≡ true
    in_it s there = rw there (inside s there)

-- where that epoch isn't there, no epoch contains the height
pub fixed_not_found : (n h : ℕ) → 1 < n → fixed_epochs n (h / n) ≡ None → containing (fixed_epochs n) h ≡ None
fixed_not_found n h long gone = not_found (fixed_epochs n) h (λ e. by e (is_in_span (fixed_epochs n e) h) refl)
  where
    clash : (e : ℕ) (s : Span) → fixed_epochs n e ≡ Some s → fixed_epochs n e ≡ None → ⊥
    clash e s a b = cc

    quotient : (e : ℕ) (s : Span) → Bounds n e s → s.first ≤ h → h ≤ s.last → e ≡ h / n
    quotient e s b from to = let first : s.first ≡ e * n = b.first in let last : s.last ≡ e * n + n - 1 = b.last in grind arith

    by : (e : ℕ) (b : Bool) → is_in_span (fixed_epochs n e) h ≡ b → is_in_span (fixed_epochs n e) h ≡ false
    by e false t = t
    by e true t =
        let u = within (fixed_epochs n) e h t in
        let q : e ≡ h / n = quotient e u.span (bounds n e u.span u.there) u.from u.to in
        absurd (clash e u.span u.there (subst (λ x. fixed_epochs n x ≡ None) (sym q) gone))
