-- Epochs ascend with height: which epoch contains a height, and which are closed at it.
use Rattle.std.proofs.Common.{◌≡◌, ◌<◌, ◌≤◌, ◌+◌, ◌-◌, ◌==◌, ℕ, zero, suc, Bool, true, false, Option, Some, None, if◌then◌else◌, option_and_then, refl, sym, ◌∙◌, ap, subst, arith, eqb-true, eq-or-lt_of_le, inl, inr, ◌⊎◌}
use Rattle.mar_types.proofs.Partitions.{above, within}
use Rattle.mar_types.specs.Epochs.{Epochs, IsPartition, Span, closed_epoch, containing, containing_below, epoch_before, is_in_span, is_last_of}

-- the height lies in the epoch
abbrev pub IsInEpoch : Epochs → ℕ → ℕ → Type 0
IsInEpoch epochs h e = (s : Span) × (epochs e ≡ Some s) × (s.first ≤ h) × (h ≤ s.last)

below_is : (epochs : Epochs) (h n e : ℕ) → containing_below epochs h n ≡ Some e → is_in_span (epochs e) h ≡ true
below_is epochs h zero e p = absurd cc
below_is epochs h (suc n) e p = by (is_in_span (epochs n) h) refl p (below_is epochs h n e)
  where
    same : ◌≡◌ {A = Option ℕ} (Some n) (Some e) → n ≡ e
    same q = cc

    by : (b : Bool) → is_in_span (epochs n) h ≡ b → (if b then Some n else containing_below epochs h n) ≡ Some e → (containing_below epochs h n ≡ Some e → is_in_span (epochs e) h ≡ true) → is_in_span (epochs e) h ≡ true
    by true inside q others = subst (λ k. is_in_span (epochs k) h ≡ true) (same q) inside
    by false outside q others = others q

pub containing-is : (epochs : Epochs) (h e : ℕ) → containing epochs h ≡ Some e → IsInEpoch epochs h e
containing-is epochs h e p =
    let inside = within epochs e h (below_is epochs h (suc h) e p) in
    (inside.span, inside.there, inside.from, inside.to)

some_inside : {T : Type 0} (a b : T) → ◌≡◌ {A = Option T} (Some a) (Some b) → a ≡ b
some_inside a b p = cc

-- a later epoch begins above the last height of an earlier one
pub later_above : (epochs : Epochs) → IsPartition epochs → (e f : ℕ) (s t : Span) → e < f → epochs e ≡ Some s → epochs f ≡ Some t → s.last < t.first
later_above epochs p e f s t lt ps pt =
    let q : f ≡ e + suc (f - e - 1) = omega arith in
    above epochs p e (f - e - 1) s t ps (rw q at pt)

-- heights of one epoch or of earlier ones are at most its last height
at_most_last : (epochs : Epochs) → IsPartition epochs → (h e f : ℕ) (s : Span) → IsInEpoch epochs h f → epochs e ≡ Some s → f ≤ e → h ≤ s.last
at_most_last epochs p h e f s (t, at, first, last) ps le = by (eq-or-lt_of_le le)
  where
    by : (f ≡ e) ⊎ (f < e) → h ≤ s.last
    by (inl same) = let one : t.last ≡ s.last = ap (λ x. x.last) (some_inside t s (sym at ∙ ap epochs same ∙ ps)) in omega arith
    by (inr less) = let low : t.last < s.first = later_above epochs p f e t s less at ps in let inside : s.first ≤ s.last = p.ordered e s ps in omega arith

below_first : (epochs : Epochs) → IsPartition epochs → (h e f : ℕ) (s : Span) → IsInEpoch epochs h f → epochs e ≡ Some s → f < e → h < s.first
below_first epochs p h e f s (t, at, first, last) ps less = let low : t.last < s.first = later_above epochs p f e t s less at ps in omega arith

-- an epoch that is closed at k, and each before it, has only heights at most k
pub closed_epoch-bounds : (epochs : Epochs) → IsPartition epochs → (h k e f : ℕ) → closed_epoch epochs k ≡ Some e → containing epochs h ≡ Some f → f ≤ e → h ≤ k
closed_epoch-bounds epochs p h k e f closed inside le = by (containing epochs k) refl closed
  where
    at : IsInEpoch epochs h f
    at = containing-is epochs h f inside

    of_last : (c : ℕ) (s : Span) → epochs c ≡ Some s → s.first ≤ k → k ≤ s.last → (b : Bool) → (s.last == k) ≡ b → (if b then Some c else epoch_before c) ≡ Some e → h ≤ k
    of_last c s ps first last true is q = let same : s.last ≡ k = eqb-true s.last k is in let le' : f ≤ c = subst (λ x. f ≤ x) (sym (some_inside c e q)) le in let low : h ≤ s.last = at_most_last epochs p h c f s at ps le' in omega arith
    of_last zero s ps first last false is q = absurd cc
    of_last (suc c) s ps first last false is q = let same : c ≡ e = some_inside c e q in let low : h < s.first = below_first epochs p h (suc c) f s at ps (omega arith) in omega arith

    spanned : (c : ℕ) → IsInEpoch epochs k c → (if is_last_of (epochs c) k then Some c else epoch_before c) ≡ Some e → h ≤ k
    spanned c (s, ps, first, last) q = of_last c s ps first last (s.last == k) refl (subst (λ o. (if is_last_of o k then Some c else epoch_before c) ≡ Some e) ps q)

    by : (o : Option ℕ) → containing epochs k ≡ o → option_and_then (λ c. if is_last_of (epochs c) k then Some c else epoch_before c) o ≡ Some e → h ≤ k
    by None is q = absurd cc
    by (Some c) is q = spanned c (containing-is epochs k c is) q
