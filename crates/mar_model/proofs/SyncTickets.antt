-- The writes of a life and its open syncs, as writes come, syncs start and finish.
use Rattle.std.proofs.Common.{◌≡◌, ◌⊎◌, inl, inr, ⊎_elim, ℕ, zero, suc, ◌+◌, ◌-◌, ◌<◌, ◌≤◌, List, [], ◌∷◌, ◌++◌, length, map, max, drop, Bool, true, false, ◌&&◌, not, ◌==◌, nat_lt, if◌then◌else◌, Contains, refl, sym, ◌∙◌, ap, subst, arith, eqb-true, ◌||◌, slice_index_or}
use Rattle.std.specs.List.{AllByRecursion, AllPairs}
use Rattle.std.proofs.lemmas.Bool.Decides.{nat_tests}
use Rattle.std.proofs.lemmas.List.{length-drop}
use Rattle.mar_model.specs.Node.{Node, OpenSync, write_count}
use Rattle.mar_model.specs.Step.{with_sync}
use Rattle.mar_gate.specs.Writing.{IsOrdered, Writing, is_open_sync, position_of, total_writes, with_finished, without_sync}
use Rattle.mar_model.proofs.StoredValues.{later_place}

-- NO TICKET

abbrev opened : Node → Node
opened n = record n { syncs = n.syncs ++ record { ticket = n.next_sync; position = write_count n } ∷ []; next_sync = n.next_sync + 1 }

-- no ticket is opened where nothing was written
pub with_sync-unwritten : (before : ℕ) (n : Node) → write_count n ≤ before → with_sync before n ≡ n
with_sync-unwritten before n none = by (nat_lt before (write_count n)) refl
  where
    by : (b : Bool) → nat_lt before (write_count n) ≡ b → (if b && nat_lt 0 (length n.uncovered) then opened n else n) ≡ n
    by false is = refl
    by true is = absurd (grind (arith, nat_tests, is, none))

-- and one is where something was, which isn't covered yet
pub with_sync-written : (before : ℕ) (n : Node) → before < write_count n → 0 < length n.uncovered → with_sync before n ≡ opened n
with_sync-written before n more some = ap (λ (b : Bool). if b then opened n else n) both
  where
    both : (nat_lt before (write_count n) && nat_lt 0 (length n.uncovered)) ≡ true
    both = grind (arith, nat_tests, more, some)

-- none is opened where nothing waits for a sync
pub with_sync-covered : (before : ℕ) (n : Node) → length n.uncovered ≡ 0 → with_sync before n ≡ n
with_sync-covered before n none = ap (λ (b : Bool). if b then opened n else n) both
  where
    both : (nat_lt before (write_count n) && nat_lt 0 (length n.uncovered)) ≡ false
    both = grind (arith, nat_tests, none)

-- these writes leave no ticket to open
abbrev pub IsTicketed : Writing → Writing → Type 0
IsTicketed old new = (total_writes new ≤ total_writes old) ⊎ (length new.uncovered ≡ 0)

-- POSITIONS

-- no sync covers more writes than there were
pub position-within : (syncs : List OpenSync) (most t : ℕ) → AllByRecursion (λ s. s.position ≤ most) syncs → position_of syncs t ≤ most
position-within [] most t all = omega arith
position-within (s ∷ syncs) most t all = by (s.ticket == t) (position-within syncs most t all.1)
  where
    by : (b : Bool) → position_of syncs t ≤ most → (if b then s.position else position_of syncs t) ≤ most
    by true others = all.0
    by false others = others

-- a ticket that isn't open covers none
pub position-closed : (syncs : List OpenSync) (t : ℕ) → is_open_sync syncs t ≡ false → position_of syncs t ≡ 0
position-closed [] t none = refl
position-closed (s ∷ syncs) t none = by (s.ticket == t) none (position-closed syncs t)
  where
    by : (b : Bool) → (b || is_open_sync syncs t) ≡ false → (is_open_sync syncs t ≡ false → position_of syncs t ≡ 0) → (if b then s.position else position_of syncs t) ≡ 0
    by true is others = absurd cc
    by false is others = others is

-- and none is taken away
pub without-closed : (syncs : List OpenSync) (t : ℕ) → is_open_sync syncs t ≡ false → without_sync t syncs ≡ syncs
without-closed [] t none = refl
without-closed (s ∷ syncs) t none = by (s.ticket == t) none (without-closed syncs t)
  where
    by : (b : Bool) → (b || is_open_sync syncs t) ≡ false → (is_open_sync syncs t ≡ false → without_sync t syncs ≡ syncs) → (if not b then s ∷ without_sync t syncs else without_sync t syncs) ≡ s ∷ syncs
    by true is others = absurd cc
    by false is others = ap (λ ss. s ∷ ss) (others is)

-- as many writes there were, however many of them are covered
pub total-finished : (w : Writing) (t : ℕ) → IsOrdered w → total_writes (with_finished t w) ≡ total_writes w
total-finished w t ordered =
    let low : position_of w.syncs t ≤ w.covered + length w.uncovered = position-within w.syncs (total_writes w) t ordered.within in
    let left : length (drop (max w.covered (position_of w.syncs t) - w.covered) w.uncovered) ≡ length w.uncovered - (max w.covered (position_of w.syncs t) - w.covered) = length-drop (max w.covered (position_of w.syncs t) - w.covered) w.uncovered in
    ap (λ k. max w.covered (position_of w.syncs t) + k) left ∙ omega arith

-- THE LAST SYNC STAYS

-- what is said of each pair is said of the first and each other
pairs_of : {T : Type 0} (R : T → T → Type 0) (x : T) (xs : List T) → AllPairs R (x ∷ xs) → AllByRecursion (R x) xs × AllPairs R xs
pairs_of R x xs all = (with_first xs (λ j d low. all 0 (suc j) d (omega arith) (omega arith)), λ i j d apart low. all (suc i) (suc j) d (omega arith) (omega arith))
  where
    with_first : (ys : List _) → ((j : ℕ) (d : _) → j < length ys → R x (slice_index_or ys j d)) → AllByRecursion (R x) ys
    with_first [] at = tt
    with_first (y ∷ ys) at = (at 0 y (omega arith), with_first ys (λ j d low. at (suc j) d (omega arith)))

-- a higher ticket is another one
none_higher : (t : ℕ) (syncs : List OpenSync) → AllByRecursion (λ s. t < s.ticket) syncs → without_sync t syncs ≡ syncs
none_higher t [] all = refl
none_higher t (s ∷ syncs) all = by (s.ticket == t) refl (none_higher t syncs all.1)
  where
    by : (b : Bool) → (s.ticket == t) ≡ b → without_sync t syncs ≡ syncs → (if not b then s ∷ without_sync t syncs else without_sync t syncs) ≡ s ∷ syncs
    by false other others = ap (λ ss. s ∷ ss) others
    by true same others = absurd (let is : s.ticket ≡ t = eqb-true s.ticket t same in let high : t < s.ticket = all.0 in omega arith)

-- an open sync of a position is the one that finishes, or stays
pub position-stays : (syncs : List OpenSync) (t k : ℕ) → AllPairs (λ s u. s.ticket < u.ticket) syncs → Contains (map (λ s. s.position) syncs) k → (position_of syncs t ≡ k) ⊎ Contains (map (λ s. s.position) (without_sync t syncs)) k
position-stays [] t k ascend has = inr has
position-stays (s ∷ syncs) t k ascend (zero, low, is) = by (s.ticket == t)
  where
    by : (b : Bool) → ((if b then s.position else position_of syncs t) ≡ k) ⊎ Contains (map (λ u. u.position) (if not b then s ∷ without_sync t syncs else without_sync t syncs)) k
    by true = inl is
    by false = inr (zero, omega arith, is)
position-stays (s ∷ syncs) t k ascend (suc j, low, is) = by (s.ticket == t) refl (position-stays syncs t k (pairs_of (λ u v. u.ticket < v.ticket) s syncs ascend).1 (j, omega arith, is))
  where
    rest : Contains (map (λ u. u.position) syncs) k
    rest = (j, omega arith, is)

    apart : AllByRecursion (λ u. s.ticket < u.ticket) syncs
    apart = (pairs_of (λ u v. u.ticket < v.ticket) s syncs ascend).0

    by : (b : Bool) → (s.ticket == t) ≡ b → (position_of syncs t ≡ k) ⊎ Contains (map (λ u. u.position) (without_sync t syncs)) k → ((if b then s.position else position_of syncs t) ≡ k) ⊎ Contains (map (λ u. u.position) (if not b then s ∷ without_sync t syncs else without_sync t syncs)) k
    by true same others = inr (subst (λ ss. Contains (map (λ u. u.position) ss) k) (sym (none_higher t syncs (subst (λ i. AllByRecursion (λ u. i < u.ticket) syncs) (eqb-true s.ticket t same) apart))) rest)
    by false other others = ⊎_elim (λ here. inl here) (λ stays. inr (later_place s.position (map (λ u. u.position) (without_sync t syncs)) k stays)) others
