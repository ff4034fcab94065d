-- Messages that wait, by the turns at which they came, with where the hint of a height stands and who reads by a height.
use Rattle.std.specs.BTreeMap.{BTreeMap, get, is_at}
use Rattle.std.specs.BTreeSet.{BTreeSet, contains}
use Rattle.std.specs.List.{AllByRecursion}
use Rattle.std.specs.Map.{lookup, remove_entry, set_value}
use Rattle.std.specs.Ordering.{nat_cmp, ordering_then}
use Rattle.std.specs.declared.cmp.Ordering.{Ordering}
use Rattle.std.specs.Prelude.{Bool, IfSome, IsSome, List, None, Option, Some, cond, false, filter, if◌then◌else◌, map, not, true, ℕ, ⊤, [], ◌<◌, ◌≤◌, ◌∷◌, ◌≡◌}
use Rattle.mar_model.specs.Messages.{Queued}
use Rattle.mar_inbox.specs.Policy.{hint_of, is_hint, is_stale, read_of}

-- the messages, in order
abbrev pub seen : {X : Type 0} → (X → Queued) → List (ℕ × X) → List Queued
seen plain es = map (λ e. plain e.1) es

-- the order of a height with a turn
abbrev pub read_cmp : ℕ × ℕ → ℕ × ℕ → Ordering
read_cmp x y = ordering_then (nat_cmp x.0 y.0) (nat_cmp x.1 y.1)

-- each came later than those before it
abbrev pub IsRising : {X : Type 0} → List (ℕ × X) → Type 0
IsRising [] = ⊤
IsRising (e ∷ es) = AllByRecursion (λ x. e.0 < x.0) es × IsRising es

-- a hint stands where its height tells
abbrev pub IsHinted : {X : Type 0} → (X → Queued) → BTreeMap ℕ ℕ → ℕ × X → Type 0
IsHinted plain hints e = IfSome (hint_of (plain e.1).message) (λ h. get nat_cmp hints h ≡ Some e.0)

-- a read is among those of its height
abbrev pub IsRead : {X : Type 0} → (X → Queued) → BTreeSet (ℕ × ℕ) → ℕ × X → Type 0
IsRead plain reads e = IfSome (read_of (plain e.1).message) (λ h. contains read_cmp reads (h, e.0) ≡ true)

pub record IsIndexed {X : Type 0} (plain : X → Queued) (es : List (ℕ × X)) (next : ℕ) (hints : BTreeMap ℕ ℕ) (reads : BTreeSet (ℕ × ℕ)) : Type 0 where
  pub rising : IsRising es
  pub below : AllByRecursion (λ e. e.0 < next) es
  pub hinted : AllByRecursion (IsHinted plain hints) es
  pub read : AllByRecursion (IsRead plain reads) es

-- a message, if there is one, that a prune drops
abbrev pub stale_one : {X : Type 0} → (X → Queued) → ℕ → Option X → Bool
stale_one plain p None = false
stale_one plain p (Some m) = is_stale p (plain m).message

-- the message of a turn is one that a prune drops
abbrev pub is_stale_at : {X : Type 0} → (X → Queued) → ℕ → ℕ → List (ℕ × X) → Bool
is_stale_at plain p turn es = stale_one plain p (lookup (is_at (nat_cmp turn)) es)

-- without the message of a turn, where a prune drops it
abbrev pub without_stale : {X : Type 0} → (X → Queued) → ℕ → ℕ → List (ℕ × X) → List (ℕ × X)
without_stale plain p turn es = if is_stale_at plain p turn es then remove_entry (is_at (nat_cmp turn)) es else es

-- DROPPING

-- no hint stands at or below a height
abbrev pub HasNoneUpTo : ℕ → BTreeMap ℕ ℕ → Type 0
HasNoneUpTo p hints = (h t : ℕ) → get nat_cmp hints h ≡ Some t → p < h

-- no read stands below a height
abbrev pub HasNoneBelow : ℕ → BTreeSet (ℕ × ℕ) → Type 0
HasNoneBelow p reads = (h t : ℕ) → contains read_cmp reads (h, t) ≡ true → p ≤ h

-- where it hints, it does above this height
abbrev pub HintsAbove : {X : Type 0} → (X → Queued) → ℕ → ℕ × X → Type 0
HintsAbove plain p e = IfSome (hint_of (plain e.1).message) (λ h. p < h)

-- where it reads, it does from this height on
abbrev pub ReadsFrom : {X : Type 0} → (X → Queued) → ℕ → ℕ × X → Type 0
ReadsFrom plain p e = IfSome (read_of (plain e.1).message) (λ h. p ≤ h)

-- some are left of those that wait, in their order; all that a prune of this height doesn't drop are among them
pub record Leaves {X : Type 0} (plain : X → Queued) (p : ℕ) (old new : List (ℕ × X)) : Type 0 where
  pub same : filter (λ q. not (is_stale p q.message)) (seen plain new) ≡ filter (λ q. not (is_stale p q.message)) (seen plain old)
  pub rising : IsRising old → IsRising new
  pub below : (next : ℕ) → AllByRecursion (λ e. e.0 < next) old → AllByRecursion (λ e. e.0 < next) new
  pub hinted : (hints : BTreeMap ℕ ℕ) → AllByRecursion (IsHinted plain hints) old → AllByRecursion (IsHinted plain hints) new
  pub read : (reads : BTreeSet (ℕ × ℕ)) → AllByRecursion (IsRead plain reads) old → AllByRecursion (IsRead plain reads) new
  pub hints_above : AllByRecursion (HintsAbove plain p) old → AllByRecursion (HintsAbove plain p) new

-- GOING AND COMING

-- a place that a hint leaves, if it is one
abbrev pub WithoutHint : Option ℕ → BTreeMap ℕ ℕ → BTreeMap ℕ ℕ → Type 0
WithoutHint None hints without = without ≡ hints
WithoutHint (Some h) hints without = (k : ℕ) → get nat_cmp without k ≡ cond (is_at (nat_cmp h) k) None (get nat_cmp hints k)

-- what a read leaves, if it is one
abbrev pub WithoutRead : Option ℕ → ℕ → BTreeSet (ℕ × ℕ) → BTreeSet (ℕ × ℕ) → Type 0
WithoutRead None turn reads without = without ≡ reads
WithoutRead (Some h) turn reads without = (k : ℕ × ℕ) → contains read_cmp without k ≡ cond (is_at (read_cmp (h, turn)) k) false (contains read_cmp reads k)

-- what was among the reads is still
abbrev pub KeepsReads : BTreeSet (ℕ × ℕ) → BTreeSet (ℕ × ℕ) → Type 0
KeepsReads old new = (k : ℕ × ℕ) → contains read_cmp old k ≡ true → contains read_cmp new k ≡ true

-- a message, if there is one, that is the hint of a height
abbrev pub hint_one : {X : Type 0} → (X → Queued) → ℕ → Option X → Bool
hint_one plain h None = false
hint_one plain h (Some m) = is_hint h (plain m)

-- the message of a turn is the hint of a height
abbrev pub is_hint_at : {X : Type 0} → (X → Queued) → ℕ → ℕ → List (ℕ × X) → Bool
is_hint_at plain h turn es = hint_one plain h (lookup (is_at (nat_cmp turn)) es)

-- the hint of a height is at this turn and at no other, or there is none
abbrev pub HintAt : {X : Type 0} → (X → Queued) → ℕ → List (ℕ × X) → Option ℕ → Type 0
HintAt plain h es None = AllByRecursion (λ e. is_hint h (plain e.1) ≡ false) es
HintAt plain h es (Some t) = AllByRecursion (λ e. is_at (nat_cmp t) e.0 ≡ is_hint h (plain e.1)) es × IsSome (lookup (is_at (nat_cmp t)) es)

-- the message of a turn is another now, of which this holds
abbrev pub Exchanges : {X : Type 0} → ℕ → (X → X → Type 0) → List (ℕ × X) → List (ℕ × X) → Type 0
Exchanges {X = X} t P old new = (m : X) × (w : X) × (lookup (is_at (nat_cmp t)) old ≡ Some m) × P m w × (new ≡ set_value (is_at (nat_cmp t)) old w)
