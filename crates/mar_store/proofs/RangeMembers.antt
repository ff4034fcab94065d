-- Which heights stand in ranges, and that these tell the ranges: two lists of ranges with the same heights are one.
use Rattle.std.proofs.Common.{◌≡◌, ◌⊎◌, inl, inr, ⊎_elim, ◌<◌, ◌≤◌, ◌+◌, ◌==◌, ℕ, zero, suc, List, [], ◌∷◌, Bool, true, false, if◌then◌else◌, nat_lt, nat_le, fold, Contains, refl, sym, arith, eqb-true, leb-true, leb-false, le_refl}
use Rattle.std.specs.Bool.{⊤}
use Rattle.std.proofs.lemmas.Bool.{eqb-false}
use Rattle.std.proofs.lemmas.Bool.Decides.{nat_tests}
use Rattle.mar_store.specs.Ranges.{Range, range_before, ranges, with_height}
use Rattle.mar_store.proofs.RangeLemmas.{IsInRanges}

-- from this height on ascending, none touching the next
abbrev pub AscendFrom : ℕ → List Range → Type 0
AscendFrom low [] = ⊤
AscendFrom low (r ∷ rs) = (low ≤ r.from) × (r.from ≤ r.to) × AscendFrom (r.to + 2) rs

pub AscendFrom-lower : (low lower : ℕ) (rs : List Range) → lower ≤ low → AscendFrom low rs → AscendFrom lower rs
AscendFrom-lower low lower [] le up = tt
AscendFrom-lower low lower (r ∷ rs) le up = (let a : low ≤ r.from = up.0 in omega arith, up.1, up.2)

-- what stands in ascending ranges stands at or above their bound
pub bound_of : (low k : ℕ) (rs : List Range) → AscendFrom low rs → IsInRanges rs k → low ≤ k
bound_of low k [] up inside = absurd inside
bound_of low k (r ∷ rs) up (inl here) = let a : low ≤ r.from = up.0 in let b : r.from ≤ k = here.0 in omega arith
bound_of low k (r ∷ rs) up (inr later) = let c : r.to + 2 ≤ k = bound_of (r.to + 2) k rs up.2 later in let a : low ≤ r.from = up.0 in let b : r.from ≤ r.to = up.1 in omega arith

lt_of : (a b : ℕ) → nat_lt a b ≡ true → a < b
lt_of a b e = grind (arith, nat_tests)

ge_of : (a b : ℕ) → nat_lt a b ≡ false → b ≤ a
ge_of a b e = grind (arith, nat_tests)

-- BEFORE

range_before-members : (from to k : ℕ) (rs : List Range) → from ≤ to → AscendFrom (to + 1) rs → IsInRanges (range_before from to rs) k → ((from ≤ k) × (k ≤ to)) ⊎ IsInRanges rs k
range_before-members from to k [] le up (inl here) = inl here
range_before-members from to k [] le up (inr later) = absurd later
range_before-members from to k (r ∷ rs) le up inside = by (to + 1 == r.from) refl inside
  where
    split : to + 1 ≡ r.from → (from ≤ k) × (k ≤ r.to) → ((from ≤ k) × (k ≤ to)) ⊎ IsInRanges (r ∷ rs) k
    split same (low, high) = sides (nat_le k to) refl
      where
        sides : (b : Bool) → nat_le k to ≡ b → ((from ≤ k) × (k ≤ to)) ⊎ IsInRanges (r ∷ rs) k
        sides true is = inl (low, leb-true k to is)
        sides false is = let above : to < k = leb-false k to is in inr (inl (omega arith, high))

    by : (b : Bool) → (to + 1 == r.from) ≡ b → IsInRanges (if b then record { from = from; to = r.to } ∷ rs else record { from = from; to = to } ∷ r ∷ rs) k → ((from ≤ k) × (k ≤ to)) ⊎ IsInRanges (r ∷ rs) k
    by true same (inl here) = split (eqb-true (to + 1) r.from same) here
    by true same (inr later) = inr (inr later)
    by false apart (inl here) = inl here
    by false apart (inr later) = inr later

range_before-has : (from to k : ℕ) (rs : List Range) → from ≤ to → AscendFrom (to + 1) rs → ((from ≤ k) × (k ≤ to)) ⊎ IsInRanges rs k → IsInRanges (range_before from to rs) k
range_before-has from to k [] le up (inl here) = inl here
range_before-has from to k [] le up (inr later) = absurd later
range_before-has from to k (r ∷ rs) le up either = by (to + 1 == r.from) refl either
  where
    by : (b : Bool) → (to + 1 == r.from) ≡ b → ((from ≤ k) × (k ≤ to)) ⊎ IsInRanges (r ∷ rs) k → IsInRanges (if b then record { from = from; to = r.to } ∷ rs else record { from = from; to = to } ∷ r ∷ rs) k
    by true same (inl (low, high)) = let at : to + 1 ≡ r.from = eqb-true (to + 1) r.from same in let ordered : r.from ≤ r.to = up.1 in inl (low, omega arith)
    by true same (inr (inl (low, high))) = let at : to + 1 ≡ r.from = eqb-true (to + 1) r.from same in inl (omega arith, high)
    by true same (inr (inr later)) = inr later
    by false apart (inl here) = inl here
    by false apart (inr later) = inr later

range_before-ascends : (low from to : ℕ) (rs : List Range) → low ≤ from → from ≤ to → AscendFrom (to + 1) rs → AscendFrom low (range_before from to rs)
range_before-ascends low from to [] above le up = (above, le, tt)
range_before-ascends low from to (r ∷ rs) above le up = by (to + 1 == r.from) refl
  where
    not_touching : (b : ℕ) → to + 1 ≤ b → (to + 1 == b) ≡ false → to + 2 ≤ b
    not_touching b p q = let apart : (to + 1 ≡ b) → ⊥ = eqb-false (to + 1) b q in omega arith

    by : (b : Bool) → (to + 1 == r.from) ≡ b → AscendFrom low (if b then record { from = from; to = r.to } ∷ rs else record { from = from; to = to } ∷ r ∷ rs)
    by true same = let at : to + 1 ≡ r.from = eqb-true (to + 1) r.from same in let ordered : r.from ≤ r.to = up.1 in (above, omega arith, up.2)
    by false apart = let past : to + 1 ≤ r.from = up.0 in (above, le, (not_touching r.from past apart, up.1, up.2))

-- ONE MORE HEIGHT

pub with_height-members : (low h k : ℕ) (rs : List Range) → AscendFrom low rs → IsInRanges (with_height h rs) k → (k ≡ h) ⊎ IsInRanges rs k
with_height-members low h k [] up (inl (from, to)) = inl (omega arith)
with_height-members low h k [] up (inr later) = absurd later
with_height-members low h k (r ∷ rs) up inside = by (nat_lt h r.from) refl (nat_le h r.to) refl (h == r.to + 1) refl inside (with_height-members (r.to + 2) h k rs up.2)
  where
    alone : ((h ≤ k) × (k ≤ h)) ⊎ IsInRanges (r ∷ rs) k → (k ≡ h) ⊎ IsInRanges (r ∷ rs) k
    alone (inl (from, to)) = inl (omega arith)
    alone (inr other) = inr other

    longer : h ≡ r.to + 1 → ((r.from ≤ k) × (k ≤ h)) ⊎ IsInRanges rs k → (k ≡ h) ⊎ IsInRanges (r ∷ rs) k
    longer next (inl (from, to)) = sides (nat_le k r.to) refl
      where
        sides : (b : Bool) → nat_le k r.to ≡ b → (k ≡ h) ⊎ IsInRanges (r ∷ rs) k
        sides true is = inr (inl (from, leb-true k r.to is))
        sides false is = let above : r.to < k = leb-false k r.to is in inl (omega arith)
    longer next (inr later) = inr (inr later)

    by : (a : Bool) → nat_lt h r.from ≡ a → (b : Bool) → nat_le h r.to ≡ b → (c : Bool) → (h == r.to + 1) ≡ c → IsInRanges (if a then range_before h h (r ∷ rs) else if b then r ∷ rs else if c then range_before r.from h rs else r ∷ with_height h rs) k → (IsInRanges (with_height h rs) k → (k ≡ h) ⊎ IsInRanges rs k) → (k ≡ h) ⊎ IsInRanges (r ∷ rs) k
    by true p b q c s there others = alone (range_before-members h h k (r ∷ rs) (le_refl _) (let lt : h < r.from = lt_of h r.from p in (omega arith, up.1, up.2)) there)
    by false p true q c s there others = inr there
    by false p false q true s there others = let next : h ≡ r.to + 1 = eqb-true h (r.to + 1) s in let ordered : r.from ≤ r.to = up.1 in longer next (range_before-members r.from h k rs (omega arith) (AscendFrom-lower (r.to + 2) (h + 1) rs (omega arith) up.2) there)
    by false p false q false s (inl here) others = inr (inl here)
    by false p false q false s (inr later) others = ⊎_elim (λ same. inl same) (λ inside. inr (inr inside)) (others later)

pub with_height-has : (low h k : ℕ) (rs : List Range) → AscendFrom low rs → (k ≡ h) ⊎ IsInRanges rs k → IsInRanges (with_height h rs) k
with_height-has low h k [] up (inl same) = inl (omega arith, omega arith)
with_height-has low h k [] up (inr later) = absurd later
with_height-has low h k (r ∷ rs) up either = by (nat_lt h r.from) refl (nat_le h r.to) refl (h == r.to + 1) refl either (with_height-has (r.to + 2) h k rs up.2)
  where
    by : (a : Bool) → nat_lt h r.from ≡ a → (b : Bool) → nat_le h r.to ≡ b → (c : Bool) → (h == r.to + 1) ≡ c → (k ≡ h) ⊎ IsInRanges (r ∷ rs) k → ((k ≡ h) ⊎ IsInRanges rs k → IsInRanges (with_height h rs) k) → IsInRanges (if a then range_before h h (r ∷ rs) else if b then r ∷ rs else if c then range_before r.from h rs else r ∷ with_height h rs) k
    by true p b q c s some others =
        let lt : h < r.from = lt_of h r.from p in
        range_before-has h h k (r ∷ rs) (le_refl _) (omega arith, up.1, up.2) (⊎_elim (λ same. inl (let e : k ≡ h = same in (omega arith, omega arith))) (λ there. inr there) some)
    by false p true q c s (inl same) others = let ge : r.from ≤ h = ge_of h r.from p in let le : h ≤ r.to = leb-true h r.to q in inl (omega arith, omega arith)
    by false p true q c s (inr there) others = there
    by false p false q true s some others =
        let next : h ≡ r.to + 1 = eqb-true h (r.to + 1) s in
        let ordered : r.from ≤ r.to = up.1 in
        range_before-has r.from h k rs (omega arith) (AscendFrom-lower (r.to + 2) (h + 1) rs (omega arith) up.2) (placed next some)
      where
        placed : h ≡ r.to + 1 → (k ≡ h) ⊎ IsInRanges (r ∷ rs) k → ((r.from ≤ k) × (k ≤ h)) ⊎ IsInRanges rs k
        placed next (inl same) = let ordered : r.from ≤ r.to = up.1 in inl (omega arith, omega arith)
        placed next (inr (inl (from, to))) = inl (from, omega arith)
        placed next (inr (inr later)) = inr later
    by false p false q false s (inl same) others = inr (others (inl same))
    by false p false q false s (inr (inl here)) others = inl here
    by false p false q false s (inr (inr later)) others = inr (others (inr later))

pub with_height-ascends : (low h : ℕ) (rs : List Range) → low ≤ h → AscendFrom low rs → AscendFrom low (with_height h rs)
with_height-ascends low h [] le up = (le, le_refl _, tt)
with_height-ascends low h (r ∷ rs) le up = by (nat_lt h r.from) refl (nat_le h r.to) refl (h == r.to + 1) refl (λ above. with_height-ascends (r.to + 2) h rs above up.2)
  where
    beyond : (h t : ℕ) → nat_le h t ≡ false → (h == t + 1) ≡ false → t + 2 ≤ h
    beyond h t p q = let above : t < h = leb-false h t p in let apart : (h ≡ t + 1) → ⊥ = eqb-false h (t + 1) q in omega arith

    by : (a : Bool) → nat_lt h r.from ≡ a → (b : Bool) → nat_le h r.to ≡ b → (c : Bool) → (h == r.to + 1) ≡ c → (r.to + 2 ≤ h → AscendFrom (r.to + 2) (with_height h rs)) → AscendFrom low (if a then range_before h h (r ∷ rs) else if b then r ∷ rs else if c then range_before r.from h rs else r ∷ with_height h rs)
    by true p b q c s others = let lt : h < r.from = lt_of h r.from p in range_before-ascends low h h (r ∷ rs) le (le_refl _) (omega arith, up.1, up.2)
    by false p true q c s others = up
    by false p false q true s others =
        let next : h ≡ r.to + 1 = eqb-true h (r.to + 1) s in
        let ordered : r.from ≤ r.to = up.1 in
        range_before-ascends low r.from h rs up.0 (omega arith) (AscendFrom-lower (r.to + 2) (h + 1) rs (omega arith) up.2)
    by false p false q false s others = (up.0, up.1, others (beyond h r.to q s))

-- ALL HEIGHTS

folded : (rs : List Range) (heights : List ℕ) → AscendFrom 0 rs → AscendFrom 0 (fold (λ qs h. with_height h qs) rs heights)
folded rs [] up = up
folded rs (h ∷ heights) up = folded (with_height h rs) heights (with_height-ascends 0 h rs (omega arith) up)

pub ranges-ascend : (heights : List ℕ) → AscendFrom 0 (ranges heights)
ranges-ascend heights = folded [] heights tt

folded_members : (rs : List Range) (heights : List ℕ) (k : ℕ) → AscendFrom 0 rs → IsInRanges (fold (λ qs h. with_height h qs) rs heights) k → IsInRanges rs k ⊎ Contains heights k
folded_members rs [] k up inside = inl inside
folded_members rs (h ∷ heights) k up inside = by (folded_members (with_height h rs) heights k (with_height-ascends 0 h rs (omega arith) up) inside)
  where
    by : IsInRanges (with_height h rs) k ⊎ Contains heights k → IsInRanges rs k ⊎ Contains (h ∷ heights) k
    by (inl there) = ⊎_elim (λ same. inr (zero, omega arith, sym same)) (λ before. inl before) (with_height-members 0 h k rs up there)
    by (inr (i, lt, e)) = inr (suc i, omega arith, e)

folded_has : (rs : List Range) (heights : List ℕ) (k : ℕ) → AscendFrom 0 rs → IsInRanges rs k ⊎ Contains heights k → IsInRanges (fold (λ qs h. with_height h qs) rs heights) k
folded_has rs [] k up (inl there) = there
folded_has rs [] k up (inr (i, lt, e)) = absurd (omega arith)
folded_has rs (h ∷ heights) k up (inl there) = folded_has (with_height h rs) heights k (with_height-ascends 0 h rs (omega arith) up) (inl (with_height-has 0 h k rs up (inr there)))
folded_has rs (h ∷ heights) k up (inr (zero, lt, e)) = folded_has (with_height h rs) heights k (with_height-ascends 0 h rs (omega arith) up) (inl (with_height-has 0 h k rs up (inl (sym e))))
folded_has rs (h ∷ heights) k up (inr (suc i, lt, e)) = folded_has (with_height h rs) heights k (with_height-ascends 0 h rs (omega arith) up) (inr (i, omega arith, e))

-- exactly the heights of the list stand in its ranges
pub ranges-members : (heights : List ℕ) (k : ℕ) → IsInRanges (ranges heights) k → Contains heights k
ranges-members heights k inside = ⊎_elim (λ none. absurd none) (λ has. has) (folded_members [] heights k tt inside)

pub ranges-has : (heights : List ℕ) (k : ℕ) → Contains heights k → IsInRanges (ranges heights) k
ranges-has heights k has = folded_has [] heights k tt (inr has)
