-- Blocks that are staged by height.
use Rattle.std.proofs.Common.{Bool, List, [], ap, arith, cond, false, length, refl, suc, sym, true, ℕ, ◌+◌, ◌<◌, ◌∙◌, ◌∷◌, ◌≡◌, ◌≤◌}
use Rattle.std.proofs.lemmas.Bool.{and_parts, leb-true, ltb-true}
use Rattle.std.proofs.lemmas.Bool.Decides.{nat_tests}
use Rattle.std.specs.BTreeMap.{insert_entry}
use Rattle.std.specs.List.{All, AllByRecursion}
use Rattle.std.specs.Map.{keys_of, remove_entry}
use Rattle.std.specs.Ordering.{is_gt, match_ordering, nat_cmp}
use Rattle.std.specs.Prelude.{filter, if◌then◌else◌, max, nat_le}
use Rattle.std.specs.declared.cmp.Ordering.TheVariants.{Equal, Greater, Less}
use Rattle.mar_gate.specs.Staged.{Staged, has_place, kept_from}

-- from their least height on all entries are kept
pub all_kept : {X : Type 0} (min h : ℕ) (es : List (ℕ × X)) → AllByRecursion (λ e. min ≤ e.0) es → h ≤ min → filter (λ e. nat_le h e.0) es ≡ es
all_kept min h [] all below = refl
all_kept min h (e ∷ es) all below =
    let here : nat_le h e.0 ≡ true = grind (arith, nat_tests, all.0, below) in
    rw here (ap (λ rest. e ∷ rest) (all_kept min h es all.1 below))

-- where the first height is kept all entries are
pub kept_from_first : {X : Type 0} (h first : ℕ) (es : List (ℕ × X)) → h ≤ first → All (λ k. is_gt (nat_cmp first k) ≡ false) (keys_of es) → filter (λ e. nat_le h e.0) es ≡ es
kept_from_first h first [] low above = refl
kept_from_first h first (e ∷ es) low above =
    let head : is_gt (nat_cmp first e.0) ≡ false = above 0 e.0 (omega arith) in
    let here : nat_le h e.0 ≡ true = grind (arith, nat_tests, head, low) in
    rw here (ap (λ rest. e ∷ rest) (kept_from_first h first es low (λ k d below. above (suc k) d (omega (arith, below)))))

pub none_kept : {X : Type 0} (h : ℕ) (es : List (ℕ × X)) → (0 < length es → ⊥) → filter (λ e. nat_le h e.0) es ≡ es
none_kept h [] none = refl
none_kept h (e ∷ es) none = absurd (none (omega arith))

pub all_inserted : {X : Type 0} (min h : ℕ) (x : X) (es : List (ℕ × X)) → min ≤ h → AllByRecursion (λ e. min ≤ e.0) es → AllByRecursion (λ e. min ≤ e.0) (insert_entry nat_cmp es h x)
all_inserted min h x [] here all = (here, tt)
all_inserted min h x (e ∷ es) here all =
    elim (nat_cmp h e.0) as (λ o. AllByRecursion (λ e. min ≤ e.0) (match_ordering o ((h, x) ∷ e ∷ es) ((e.0, x) ∷ es) (e ∷ insert_entry nat_cmp es h x))) [
      | Less ↦ (here, all)
      | Equal ↦ all
      | Greater ↦ (all.0, all_inserted min h x es here all.1)
    ]

pub all_removed : {X : Type 0} (min : ℕ) (t : ℕ → Bool) (es : List (ℕ × X)) → AllByRecursion (λ e. min ≤ e.0) es → AllByRecursion (λ e. min ≤ e.0) (remove_entry t es)
all_removed min t [] all = tt
all_removed min t (e ∷ es) all =
    elim (t e.0) as (λ b. AllByRecursion (λ e. min ≤ e.0) (cond b es (e ∷ remove_entry t es))) [ true ↦ all.1 | false ↦ (all.0, all_removed min t es all.1) ]

pub all_from : {X : Type 0} (h : ℕ) (es : List (ℕ × X)) → AllByRecursion (λ e. h ≤ e.0) (filter (λ e. nat_le h e.0) es)
all_from h [] = tt
all_from h (e ∷ es) = first (nat_le h e.0) refl (all_from h es)
  where
    first : (b : Bool) → nat_le h e.0 ≡ b → AllByRecursion (λ e. h ≤ e.0) (filter (λ e. nat_le h e.0) es) → AllByRecursion (λ e. h ≤ e.0) (cond b (e ∷ filter (λ e. nat_le h e.0) es) (filter (λ e. nat_le h e.0) es))
    first true is rest = (grind (arith, nat_tests), rest)
    first false is rest = rest

-- a least height that isn't above the present one changes nothing
pub kept_same : {B : Type 0} (s : Staged B) (h : ℕ) → AllByRecursion (λ e. s.min ≤ e.0) s.blocks → h ≤ s.min → s ≡ kept_from h s
kept_same s h all below =
    let least : max s.min h ≡ s.min = grind (arith, nat_tests) in
    rw (all_kept s.min h s.blocks all below, least) refl

pub kept_raised : {B : Type 0} (s : Staged B) (h : ℕ) (kept : List (ℕ × B)) → kept ≡ filter (λ e. nat_le h e.0) s.blocks → s.min < h → record { blocks = kept; min = h; max = s.max } ≡ kept_from h s
kept_raised s h kept is above =
    let least : max s.min h ≡ h = grind (arith, nat_tests) in
    rw (is, least) refl

-- where a block is taken in its height is kept, and there is room
pub in_place : {B : Type 0} (s : Staged B) (h : ℕ) (r : Bool) → r ≡ has_place s h → r ≡ true → (s.min ≤ h) × (length s.blocks < s.max)
in_place s h r is taken =
    let first = and_parts _ _ (sym is ∙ taken) in
    let second = and_parts _ _ first.0 in
    (leb-true _ _ second.0, ltb-true _ _ second.1)

pub one_more : (n m most : ℕ) (b : Bool) → n ≡ m + (if b then 0 else 1) → m < most → n ≤ most
one_more n m most true is below = omega (arith, is, below)
one_more n m most false is below = omega (arith, is, below)
