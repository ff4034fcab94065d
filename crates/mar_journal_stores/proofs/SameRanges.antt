-- Two lists of the same heights have the same ranges.
use Rattle.std.proofs.Common.{Contains, List, [], ap, arith, inl, inr, map, refl, subst, suc, sym, zero, ℕ, ⊎_elim, ◌+◌, ◌∷◌, ◌≡◌, ◌≤◌}
use Rattle.mar_store.specs.Changes.{Within, heights}
use Rattle.mar_store.specs.Kept.{At}
use Rattle.mar_store.specs.Ranges.{Range, ranges}
use Rattle.mar_store.proofs.RangeLemmas.{IsInRanges}
use Rattle.mar_store.proofs.RangeMembers.{AscendFrom, bound_of, ranges-ascend, ranges-has, ranges-members}

-- of two first ranges the one begins no later where the other begins, and ends no sooner
begins : (low : ℕ) (x y : Range) (xs ys : List Range) → AscendFrom low (x ∷ xs) → AscendFrom low (y ∷ ys) → ((k : ℕ) → IsInRanges (x ∷ xs) k → IsInRanges (y ∷ ys) k) → y.from ≤ x.from
begins low x y xs ys up other leads =
    let ordered : x.from ≤ x.to = up.1 in
    bound_of y.from x.from (y ∷ ys) (omega arith, other.1, other.2) (leads x.from (inl (omega arith, ordered)))

ends : (low : ℕ) (x y : Range) (xs ys : List Range) → AscendFrom low (x ∷ xs) → AscendFrom low (y ∷ ys) → y.from ≤ x.from → ((k : ℕ) → IsInRanges (y ∷ ys) k → IsInRanges (x ∷ xs) k) → y.to ≤ x.to
ends low x y xs ys up other from leads = ⊎_elim (λ here. here.1) (λ later. below later) (leads y.to (inl (other.1, omega arith)))
  where
    -- what ends behind the first range has what stands just behind that
    below : IsInRanges xs y.to → y.to ≤ x.to
    below later =
        let far : x.to + 2 ≤ y.to = bound_of (x.to + 2) y.to xs up.2 later in
        let ordered : x.from ≤ x.to = up.1 in
        absurd (⊎_elim
        (λ here. let high : x.to + 1 ≤ x.to = here.1 in omega (arith, high))
        (λ there. let high : x.to + 2 ≤ x.to + 1 = bound_of (x.to + 2) (x.to + 1) xs up.2 there in omega (arith, high))
        (leads (x.to + 1) (inl (omega (arith, from, ordered), omega (arith, far)))))

-- what stands in a later range stands in a later one of the other list
behind : (low : ℕ) (x y : Range) (xs ys : List Range) → AscendFrom low (x ∷ xs) → y.to ≤ x.to → ((k : ℕ) → IsInRanges (x ∷ xs) k → IsInRanges (y ∷ ys) k) → (k : ℕ) → IsInRanges xs k → IsInRanges ys k
behind low x y xs ys up to leads k later =
    let far : x.to + 2 ≤ k = bound_of (x.to + 2) k xs up.2 later in
    ⊎_elim (λ here. let high : k ≤ y.to = here.1 in absurd (omega (arith, far, high, to))) (λ there. there) (leads k (inr later))

pub ascend_one : (low : ℕ) (xs ys : List Range) → AscendFrom low xs → AscendFrom low ys → ((k : ℕ) → IsInRanges xs k → IsInRanges ys k) → ((k : ℕ) → IsInRanges ys k → IsInRanges xs k) → xs ≡ ys
ascend_one low [] [] up other there back = refl
ascend_one low [] (y ∷ ys) up other there back = absurd (back y.from (inl (omega arith, other.1)))
ascend_one low (x ∷ xs) [] up other there back = absurd (there x.from (inl (omega arith, up.1)))
ascend_one low (x ∷ xs) (y ∷ ys) up other there back =
    let later : y.from ≤ x.from = begins low x y xs ys up other there in
    let sooner : x.from ≤ y.from = begins low y x ys xs other up back in
    let shorter : y.to ≤ x.to = ends low x y xs ys up other later back in
    let longer : x.to ≤ y.to = ends low y x ys xs other up sooner there in
    let from : x.from ≡ y.from = omega (arith, later, sooner) in
    let to : x.to ≡ y.to = omega (arith, shorter, longer) in
    let rest : xs ≡ ys = ascend_one (x.to + 2) xs ys up.2 (subst (λ n. AscendFrom (n + 2) ys) (sym to) other.2) (behind low x y xs ys up shorter there) (behind low y x ys xs other longer back) in
    λ i. record { from = from i; to = to i } ∷ rest i

in_map : {X Y : Type 0} (f : X → Y) (xs : List X) (x : X) → Contains xs x → Contains (map f xs) (f x)
in_map f [] x (k, lt, e) = absurd (omega (arith, lt))
in_map f (a ∷ xs) x (zero, lt, e) = (zero, omega arith, ap f e)
in_map f (a ∷ xs) x (suc k, lt, e) = let more = in_map f xs x (k, omega (arith, lt), e) in (suc more.0, omega (arith, more.1), more.2)

map_within : {X Y : Type 0} (f : X → Y) (xs ys : List X) → Within xs ys → (y : Y) → Contains (map f xs) y → Contains (map f ys) y
map_within f [] ys within y (k, lt, e) = absurd (omega (arith, lt))
map_within f (a ∷ xs) ys within y (zero, lt, e) = subst (Contains (map f ys)) e (in_map f ys a (within a (zero, omega arith, refl)))
map_within f (a ∷ xs) ys within y (suc k, lt, e) = map_within f xs ys (λ x has. within x (suc has.0, omega (arith, has.1), has.2)) y (k, omega (arith, lt), e)

pub ranges_same : {T : Type 0} (xs ys : List (At T)) → Within xs ys → Within ys xs → ranges (heights xs) ≡ ranges (heights ys)
ranges_same xs ys there back = ascend_one 0 (ranges (heights xs)) (ranges (heights ys)) (ranges-ascend (heights xs)) (ranges-ascend (heights ys))
    (λ k inside. ranges-has (heights ys) k (map_within (λ x. x.height) xs ys there k (ranges-members (heights xs) k inside)))
    (λ k inside. ranges-has (heights xs) k (map_within (λ x. x.height) ys xs back k (ranges-members (heights ys) k inside)))
