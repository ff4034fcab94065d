-- The gaps of ranges are those of the heights that the ranges hold.
use Rattle.std.proofs.Common.{◌≡◌, inl, inr, ℕ, ◌+◌, ◌-◌, ◌<◌, ◌≤◌, List, [], ◌∷◌, Bool, true, false, cond, nat_lt, nat_le, None, Some, Contains, refl, sym, ◌∙◌, arith, le_refl}
use Rattle.std.specs.Prelude.{find, option_map, ◌&&◌}
use Rattle.std.proofs.lemmas.Bool.Decides.{nat_tests}
use Rattle.mar_store.specs.Ranges.{Range, ranges}
use Rattle.mar_store.proofs.RangeLemmas.{IsInRanges}
use Rattle.mar_store.proofs.RangeMembers.{AscendFrom, bound_of, ranges-ascend, ranges-has, ranges-members}
use Rattle.mar_store.specs.Gaps.{BeginsNext, EndsRun, next_start, range_end}

lt_of : (a b : ℕ) → nat_lt a b ≡ true → a < b
lt_of a b e = grind (arith, nat_tests)

ge_of : (a b : ℕ) → nat_lt a b ≡ false → b ≤ a
ge_of a b e = grind (arith, nat_tests)

both_of : (a b c : ℕ) → (nat_le a b && nat_le b c) ≡ true → (a ≤ b) × (b ≤ c)
both_of a b c e = by (nat_le a b) refl (nat_le b c) refl e
  where
    le_of : (m n : ℕ) → nat_le m n ≡ true → m ≤ n
    le_of m n p = grind (arith, nat_tests)

    by : (p : Bool) → nat_le a b ≡ p → (q : Bool) → nat_le b c ≡ q → (p && q) ≡ true → (a ≤ b) × (b ≤ c)
    by true is true also both = (le_of a b is, le_of b c also)
    by true is false also both = absurd (clash both)
      where
        clash : false ≡ true → ⊥
        clash h = cc
    by false is q also both = absurd (clash both)
      where
        clash : false ≡ true → ⊥
        clash h = cc

not_both : (a b c : ℕ) → (nat_le a b && nat_le b c) ≡ false → a ≤ b → b ≤ c → ⊥
not_both a b c e low high = clash (sym (passes a b c low high) ∙ e)
  where
    test : (m n : ℕ) → m ≤ n → nat_le m n ≡ true
    test m n p = grind (arith, nat_tests)

    passes : (m n o : ℕ) → m ≤ n → n ≤ o → (nat_le m n && nat_le n o) ≡ true
    passes m n o p q = rw (test m n p, test n o q) refl

    clash : true ≡ false → ⊥
    clash h = cc

same_some : (a b : ℕ) → Some a ≡ Some b → a ≡ b
same_some a b e = cc

none_some : {X : Type 0} (a : ℕ) → None ≡ Some a → X
none_some a e = cc

-- all heights from one on to another are in the ranges, and the next one isn't
abbrev RunsTo : List Range → ℕ → ℕ → Type 0
RunsTo rs h e = (h ≤ e) × ((k : ℕ) → h ≤ k → k ≤ e → IsInRanges rs k) × (IsInRanges rs (e + 1) → ⊥)

end-is : (low h e : ℕ) (rs : List Range) → AscendFrom low rs → range_end rs h ≡ Some e → RunsTo rs h e
end-is low h e [] up is = none_some e is
end-is low h e (r ∷ rs) up is = by (nat_le r.from h && nat_le h r.to) refl is (end-is (r.to + 2) h e rs up.2)
  where
    here : (r.from ≤ h) × (h ≤ r.to) → r.to ≡ e → RunsTo (r ∷ rs) h e
    here (low', high) same = (omega arith, (λ k above below. inl (let a : h ≤ k = above in let b : k ≤ e = below in (omega arith, omega arith))), ends)
      where
        ends : IsInRanges (r ∷ rs) (e + 1) → ⊥
        ends (inl (from, to)) = omega arith
        ends (inr there) = let far : r.to + 2 ≤ e + 1 = bound_of (r.to + 2) (e + 1) rs up.2 there in omega arith

    later : RunsTo rs h e → RunsTo (r ∷ rs) h e
    later (above, held, end) = (above, (λ k from to. inr (held k from to)), ends)
      where
        ends : IsInRanges (r ∷ rs) (e + 1) → ⊥
        ends (inl (from, to)) = let far : r.to + 2 ≤ e = bound_of (r.to + 2) e rs up.2 (held e above (le_refl e)) in omega arith
        ends (inr there) = end there

    by : (b : Bool) → (nat_le r.from h && nat_le h r.to) ≡ b → option_map (λ q. q.to) (cond b (Some r) (find (λ q. nat_le q.from h && nat_le h q.to) rs)) ≡ Some e → (range_end rs h ≡ Some e → RunsTo rs h e) → RunsTo (r ∷ rs) h e
    by true test same others = here (both_of r.from h r.to test) (same_some r.to e same)
    by false test same others = later (others same)

end-none : (h : ℕ) (rs : List Range) → range_end rs h ≡ None → IsInRanges rs h → ⊥
end-none h [] is inside = inside
end-none h (r ∷ rs) is inside = by (nat_le r.from h && nat_le h r.to) refl is inside (end-none h rs)
  where
    by : (b : Bool) → (nat_le r.from h && nat_le h r.to) ≡ b → option_map (λ q. q.to) (cond b (Some r) (find (λ q. nat_le q.from h && nat_le h q.to) rs)) ≡ None → IsInRanges (r ∷ rs) h → (range_end rs h ≡ None → IsInRanges rs h → ⊥) → ⊥
    by true test none there others = none_some r.to (sym none)
    by false test none (inl (from, to)) others = not_both r.from h r.to test from to
    by false test none (inr there) others = others none there

-- the first height above another that the ranges hold without the one below it
abbrev StartsAt : List Range → ℕ → ℕ → Type 0
StartsAt rs h s = (h < s) × IsInRanges rs s × (IsInRanges rs (s - 1) → ⊥) × ((k : ℕ) → h < k → k < s → IsInRanges rs k → IsInRanges rs (k - 1))

-- of a range that begins at or below a height
below_too : (r : Range) (rs : List Range) (h k : ℕ) → r.from ≤ h → h < k → IsInRanges (r ∷ rs) k → (IsInRanges rs k → IsInRanges rs (k - 1)) → IsInRanges (r ∷ rs) (k - 1)
below_too r rs h k le lt (inl (from, to)) others = inl (omega arith, omega arith)
below_too r rs h k le lt (inr there) others = inr (others there)

start-is : (low h s : ℕ) (rs : List Range) → AscendFrom low rs → next_start rs h ≡ Some s → StartsAt rs h s
start-is low h s [] up is = none_some s is
start-is low h s (r ∷ rs) up is = by (nat_lt h r.from) refl is (start-is (r.to + 2) h s rs up.2)
  where
    ordered : r.from ≤ r.to
    ordered = up.1

    here : h < r.from → r.from ≡ s → StartsAt (r ∷ rs) h s
    here lt same = (omega arith, inl (let o : r.from ≤ r.to = ordered in (omega arith, omega arith)), begins, first)
      where
        begins : IsInRanges (r ∷ rs) (s - 1) → ⊥
        begins (inl (from, to)) = omega arith
        begins (inr there) = let far : r.to + 2 ≤ s - 1 = bound_of (r.to + 2) (s - 1) rs up.2 there in let o : r.from ≤ r.to = ordered in omega arith

        first : (k : ℕ) → h < k → k < s → IsInRanges (r ∷ rs) k → IsInRanges (r ∷ rs) (k - 1)
        first k above under (inl (from, to)) = absurd (omega arith)
        first k above under (inr there) = let far : r.to + 2 ≤ k = bound_of (r.to + 2) k rs up.2 there in let o : r.from ≤ r.to = ordered in absurd (omega arith)

    later : r.from ≤ h → StartsAt rs h s → StartsAt (r ∷ rs) h s
    later le (above, held, begin, others) = (above, inr held, begins, (λ k lt under there. below_too r rs h k le lt there (others k lt under)))
      where
        begins : IsInRanges (r ∷ rs) (s - 1) → ⊥
        begins (inl (from, to)) = let far : r.to + 2 ≤ s = bound_of (r.to + 2) s rs up.2 held in omega arith
        begins (inr there) = begin there

    by : (b : Bool) → nat_lt h r.from ≡ b → option_map (λ q. q.from) (cond b (Some r) (find (λ q. nat_lt h q.from) rs)) ≡ Some s → (next_start rs h ≡ Some s → StartsAt rs h s) → StartsAt (r ∷ rs) h s
    by true test same others = here (lt_of h r.from test) (same_some r.from s same)
    by false test same others = later (ge_of h r.from test) (others same)

start-none : (h : ℕ) (rs : List Range) → next_start rs h ≡ None → (k : ℕ) → h < k → IsInRanges rs k → IsInRanges rs (k - 1)
start-none h [] is k lt inside = absurd inside
start-none h (r ∷ rs) is k lt inside = by (nat_lt h r.from) refl is (start-none h rs)
  where
    by : (b : Bool) → nat_lt h r.from ≡ b → option_map (λ q. q.from) (cond b (Some r) (find (λ q. nat_lt h q.from) rs)) ≡ None → (next_start rs h ≡ None → (m : ℕ) → h < m → IsInRanges rs m → IsInRanges rs (m - 1)) → IsInRanges (r ∷ rs) (k - 1)
    by true test none others = none_some r.from (sym none)
    by false test none others = below_too r rs h k (ge_of h r.from test) lt inside (others none k lt)

pub end_some : (heights : List ℕ) (h e : ℕ) → range_end (ranges heights) h ≡ Some e → EndsRun heights h e
end_some heights h e is = by (end-is 0 h e (ranges heights) (ranges-ascend heights) is)
  where
    by : RunsTo (ranges heights) h e → EndsRun heights h e
    by (above, held, end) = record { from = above; held = λ k low high. ranges-members heights k (held k low high); ends = λ there. end (ranges-has heights (e + 1) there) }

pub end_none : (heights : List ℕ) (h : ℕ) → range_end (ranges heights) h ≡ None → Contains heights h → ⊥
end_none heights h is there = end-none h (ranges heights) is (ranges-has heights h there)

pub start_some : (heights : List ℕ) (h s : ℕ) → next_start (ranges heights) h ≡ Some s → BeginsNext heights h s
start_some heights h s is = by (start-is 0 h s (ranges heights) (ranges-ascend heights) is)
  where
    by : StartsAt (ranges heights) h s → BeginsNext heights h s
    by (above, held, begin, others) = record {
      above = above;
      held = ranges-members heights s held;
      begins = λ there. begin (ranges-has heights (s - 1) there);
      first = λ k low high there. ranges-members heights (k - 1) (others k low high (ranges-has heights k there));
    }

pub start_none : (heights : List ℕ) (h : ℕ) → next_start (ranges heights) h ≡ None → (k : ℕ) → h < k → Contains heights k → Contains heights (k - 1)
start_none heights h is k lt there = ranges-members heights (k - 1) (start-none h (ranges heights) is k lt (ranges-has heights k there))
