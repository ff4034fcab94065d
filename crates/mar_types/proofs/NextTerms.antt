-- The first view of the next term, told by the terms of the view and of the view before.
use Rattle.std.proofs.Common.{◌≡◌, ℕ, zero, suc, ◌+◌, ◌-◌, ◌*◌, ◌/◌, ◌<◌, inl, inr, refl, sym, ◌∙◌, ap, arith, ◌↔◌}
use Rattle.std.proofs.lemmas.Nat.{div-mul-add}
use Rattle.mar_types.specs.Terms.{Admits, IsSameTerm, next_term_start, term_end, term_start}

-- the term of a view above 0
later_start : (l u : ℕ) → term_start l (u + 1) ≡ u / l * l + 1
later_start l u = grind arith

later_end : (l u : ℕ) → term_end l (u + 1) ≡ u / l * l + 1 + l - 1
later_end l u = grind arith

one_less : (k l : ℕ) → 0 < k → k * l ≡ (k - 1) * l + l
one_less zero l some = absurd (omega arith)
one_less (suc k) l some = grind arith

no_times : (l : ℕ) → 0 * l ≡ 0
no_times l = omega arith

times_none : (k : ℕ) → k * 0 ≡ 0
times_none k = omega arith

-- a product above 0 has factors above 0
left_positive : (k l n : ℕ) → n + 1 ≡ k * l → 0 < k
left_positive zero l n e = let z = no_times l in omega (arith, z)
left_positive (suc k) l n e = omega arith

right_positive : (k l n : ℕ) → n + 1 ≡ k * l → 0 < l
right_positive k zero n e = let z = times_none k in omega (arith, z)
right_positive k (suc l) n e = omega arith

multiple : (l k : ℕ) → 0 < l → k * l / l ≡ k
multiple l k long = let e : k * l ≡ k * l + 0 = omega arith in rw e (div-mul-add k l 0 long)

-- the number before the k-th multiple of l
before_multiple : (l k x : ℕ) → 0 < l → 0 < k → x + 1 ≡ k * l → x / l ≡ k - 1
before_multiple l k x long some is =
    let s = one_less k l some in
    let e : x ≡ (k - 1) * l + (l - 1) = omega (arith, s) in
    rw e (div-mul-add (k - 1) l (l - 1) (omega arith))

-- for a view u + 1 above 0 and a view x + 2: that one begins a term, and the view before it is of u + 1's
starts_next : (l u x : ℕ) → x + 2 ≡ term_start l (x + 2) → term_start l (u + 1) ≡ term_start l (x + 1) → x + 2 ≡ u / l * l + l + 1
starts_next l u x begins same =
    let n : x + 2 ≡ x + 1 + 1 = omega arith in
    let start : x + 2 ≡ (x + 1) / l * l + 1 = begins ∙ ap (term_start l) n ∙ later_start l (x + 1) in
    let term : u / l * l + 1 ≡ x / l * l + 1 = sym (later_start l u) ∙ same ∙ later_start l x in
    by ((x + 1) / l) (omega arith) term
  where
    by : (k : ℕ) → x + 1 ≡ k * l → u / l * l + 1 ≡ x / l * l + 1 → x + 2 ≡ u / l * l + l + 1
    by k whole term =
        let some = left_positive k l x whole in
        let last = before_multiple l k x (right_positive k l x whole) some whole in
        let rest = one_less k l some in
        let at : u / l * l + 1 ≡ (k - 1) * l + 1 = rw last at term in
        omega (arith, at, rest)

-- and back
begins_next : (l u x : ℕ) → x + 2 ≡ u / l * l + l + 1 → (x + 2 ≡ term_start l (x + 2)) × (term_start l (u + 1) ≡ term_start l (x + 1))
begins_next l u x is = by (u / l) (omega arith) refl
  where
    more : (q : ℕ) → q * l + l ≡ (q + 1) * l
    more q = omega arith

    by : (q : ℕ) → x + 1 ≡ q * l + l → q ≡ u / l → (x + 2 ≡ term_start l (x + 2)) × (term_start l (u + 1) ≡ term_start l (x + 1))
    by q at quotient =
        let whole : x + 1 ≡ (q + 1) * l = at ∙ more q in
        let long = right_positive (q + 1) l x whole in
        let next : (x + 1) / l ≡ q + 1 = ap (λ y. y / l) whole ∙ multiple l (q + 1) long in
        let before = before_multiple l (q + 1) x long (left_positive (q + 1) l x whole) whole in
        let less : q + 1 - 1 ≡ q = omega arith in
        let same : u / l ≡ x / l = sym quotient ∙ sym less ∙ sym before in
        let n : x + 2 ≡ x + 1 + 1 = omega arith in
        let start : term_start l (x + 2) ≡ (x + 1) / l * l + 1 = ap (term_start l) n ∙ later_start l (x + 1) in
        let up : (x + 1) / l * l ≡ (q + 1) * l = ap (λ y. y * l) next in
        (omega (arith, start, up, whole), later_start l u ∙ ap (λ y. y * l + 1) same ∙ sym (later_start l x))

-- of views beyond the next one, exactly the first of the next term begins a term right after the view's
pub admits_later : (l v p : ℕ) → v + 1 < p → ((p ≡ term_start l p) × IsSameTerm l v (p - 1)) ↔ Admits l v p
admits_later l zero p beyond = (λ h. absurd (apart h.1), λ a. absurd (none a))
  where
    apart : term_start l zero ≡ term_start l (p - 1) → ⊥
    apart h =
        let e : p - 1 ≡ p - 2 + 1 = omega arith in
        let s : term_start l (p - 1) ≡ (p - 2) / l * l + 1 = ap (term_start l) e ∙ later_start l (p - 2) in
        let t : 0 ≡ (p - 2) / l * l + 1 = h ∙ s in
        omega (arith, t)

    none : Admits l zero p → ⊥
    none (inl a) = omega arith
    none (inr (inl a)) = omega arith
    none (inr (inr a)) = omega arith
admits_later l (suc u) p beyond = (λ h. inr (inr (next h.0 h.1)), λ a. back a)
  where
    view : suc u ≡ u + 1
    view = omega arith

    last : next_term_start l (suc u) ≡ u / l * l + l + 1
    last =
        let s : term_start l (suc u) ≡ u / l * l + 1 = ap (term_start l) view ∙ later_start l u in
        let t : term_end l (suc u) ≡ u / l * l + 1 + l - 1 = ap (term_end l) view ∙ later_end l u in
        omega (arith, s, t)

    at : p ≡ p - 2 + 2
    at = omega arith

    before : p - 1 ≡ p - 2 + 1
    before = omega arith

    next : p ≡ term_start l p → term_start l (suc u) ≡ term_start l (p - 1) → p ≡ next_term_start l (suc u)
    next begins same =
        let b : p - 2 + 2 ≡ term_start l (p - 2 + 2) = sym at ∙ begins ∙ ap (term_start l) at in
        let s : term_start l (u + 1) ≡ term_start l (p - 2 + 1) = ap (term_start l) (sym view) ∙ same ∙ ap (term_start l) before in
        at ∙ starts_next l u (p - 2) b s ∙ sym last

    back : Admits l (suc u) p → (p ≡ term_start l p) × IsSameTerm l (suc u) (p - 1)
    back (inl a) = absurd (omega arith)
    back (inr (inl a)) = absurd (omega arith)
    back (inr (inr a)) =
        let h = begins_next l u (p - 2) (sym at ∙ a ∙ last) in
        (at ∙ h.0 ∙ ap (term_start l) (sym at), ap (term_start l) view ∙ h.1 ∙ ap (term_start l) (sym before))
