-- Outstanding blocks: their heights stay consecutive from the first unprocessed one, and what is drained raises that.
use Rattle.std.proofs.Common.{◌≡◌, ◌⊎◌, inl, inr, ℕ, suc, ◌+◌, ◌-◌, ◌<◌, ◌≤◌, List, [], ◌∷◌, ◌++◌, length, map, Bool, true, false, if◌then◌else◌, nat_lt, Option, Some, None, IsTrue, refl, sym, ap, subst, arith, add-zero}
use Rattle.std.specs.List.{AllByRecursion}
use Rattle.mar_cert.specs.Block.{Block}
use Rattle.mar_key.specs.Processed.{Processed, at_absent, at_block, first_unprocessed, height_in, height_of}
use Rattle.mar_store.specs.Kept.{At, has_height}
use Rattle.mar_model.specs.Acks.{Mark, Outstanding, after_given, given_front, is_given, is_unmarked, with_mark}
use Rattle.mar_model.specs.Config.{Config}
use Rattle.mar_model.specs.Event.{Effect, Event, ack_marked, acked_to, applies_floor, awaits_floor, brought_effect, drained_blocks, effect_of, is_above, kept_blocks, no_floor, processed_after, undrained_blocks}
use Rattle.mar_model.specs.Node.{Awaited, ConsecutiveFrom, Node}
use Rattle.mar_model.specs.Step.{HandedBlock, HandedFrom, HandsOver, Report, handed_blocks, outstanding_of}

-- the first unprocessed height rises by one for each drained block
pub first_unprocessed-acked_to : (p : Option Processed) (out : List Outstanding) → ConsecutiveFrom (first_unprocessed p) out → first_unprocessed (acked_to p out) ≡ first_unprocessed p + length out
first_unprocessed-acked_to p [] line = omega arith
first_unprocessed-acked_to p (a ∷ out) line =
    let rest : first_unprocessed (acked_to (Some (at_block a.height)) out) ≡ a.height + 1 + length out = first_unprocessed-acked_to (Some (at_block a.height)) out (subst (λ k. ConsecutiveFrom (k + 1) out) (sym line.0) line.1) in
    let at : a.height ≡ first_unprocessed p = line.0 in
    omega arith

acked_to_some : (q : Processed) (out : List Outstanding) → (k : Processed) × (acked_to (Some q) out ≡ Some k)
acked_to_some q [] = (q, refl)
acked_to_some q (a ∷ out) = acked_to_some (at_block a.height) out

-- and each drained height is at or below the processed height after it
pub heights-acked_to : (p : Option Processed) (out : List Outstanding) → ConsecutiveFrom (first_unprocessed p) out → AllByRecursion (λ a. a.height ≤ height_of (acked_to p out)) out
heights-acked_to p [] line = tt
heights-acked_to p (a ∷ out) line = (first (acked_to_some (at_block a.height) out) (first_unprocessed-acked_to (Some (at_block a.height)) out next), heights-acked_to (Some (at_block a.height)) out next)
  where
    next : ConsecutiveFrom (a.height + 1) out
    next = subst (λ k. ConsecutiveFrom (k + 1) out) (sym line.0) line.1

    first : (k : Processed) × (acked_to (Some (at_block a.height)) out ≡ Some k) → first_unprocessed (acked_to (Some (at_block a.height)) out) ≡ a.height + 1 + length out → a.height ≤ height_of (acked_to (Some (at_block a.height)) out)
    first (k, is) rises = subst (λ o. a.height ≤ height_of o) (sym is) (let q : height_in k + 1 ≡ a.height + 1 + length out = subst (λ o. first_unprocessed o ≡ a.height + 1 + length out) is rises in omega arith)

-- a mark changes no height, and the given ones are a front
pub ConsecutiveFrom-with_mark : (t : ℕ) (mark : Mark) (h : ℕ) (out : List Outstanding) → ConsecutiveFrom h out → ConsecutiveFrom h (with_mark t mark out)
ConsecutiveFrom-with_mark t mark h [] line = tt
ConsecutiveFrom-with_mark t mark h (a ∷ out) line = (marked (is_unmarked t a), ConsecutiveFrom-with_mark t mark (h + 1) out line.1)
  where
    height : Outstanding → ℕ
    height x = x.height

    marked : (b : Bool) → height (if b then record a { mark = mark } else a) ≡ h
    marked true = line.0
    marked false = line.0

pub ConsecutiveFrom-given_front : (h : ℕ) (out : List Outstanding) → ConsecutiveFrom h out → ConsecutiveFrom h (given_front out)
ConsecutiveFrom-given_front h [] line = tt
ConsecutiveFrom-given_front h (a ∷ out) line = by (is_given a.mark) (ConsecutiveFrom-given_front (h + 1) out line.1)
  where
    by : (b : Bool) → ConsecutiveFrom (h + 1) (given_front out) → ConsecutiveFrom h (if b then a ∷ given_front out else [])
    by true rest = (line.0, rest)
    by false rest = tt

-- what is drained is consecutive from the first unprocessed height
pub ConsecutiveFrom-drained : (n : Node) (e : Event) → ConsecutiveFrom (first_unprocessed n.processed) n.out → ConsecutiveFrom (first_unprocessed n.processed) (drained_blocks n e)
ConsecutiveFrom-drained n (ack_marked t m) line = ConsecutiveFrom-given_front _ (with_mark t m n.out) (ConsecutiveFrom-with_mark t m _ n.out line)
ConsecutiveFrom-drained n _ line = tt

-- an event that drains has no effect on a floor
pub drains_or_floors : (config : Config) (n : Node) (e : Event) → (effect_of config n e ≡ no_floor) ⊎ (drained_blocks n e ≡ [])
drains_or_floors config n (ack_marked t m) = inl (none n.awaited)
  where
    none : (a : Option Awaited) → brought_effect a None ≡ no_floor
    none None = refl
    none (Some a) = refl
drains_or_floors config n _ = inr refl

consecutive_is : (g h : ℕ) (out : List Outstanding) → g ≡ h → ConsecutiveFrom g out → ConsecutiveFrom h out
consecutive_is g h out same line = subst (λ k. ConsecutiveFrom k out) same line

pub ConsecutiveFrom-append : (h : ℕ) (xs ys : List Outstanding) → ConsecutiveFrom h xs → ConsecutiveFrom (h + length xs) ys → ConsecutiveFrom h (xs ++ ys)
ConsecutiveFrom-append h [] ys line more = consecutive_is _ _ ys (add-zero h) more
ConsecutiveFrom-append h (a ∷ xs) ys line more = (line.0, ConsecutiveFrom-append (h + 1) xs ys line.1 (let p : h + suc (length xs) ≡ h + 1 + length xs = omega arith in consecutive_is _ _ ys p more))

-- what is left follows what was drained
follows_by : (b : Bool) (p : Option Processed) (a : Outstanding) (front rest out : List Outstanding) → a.height ≡ first_unprocessed p → ConsecutiveFrom (first_unprocessed (acked_to (Some (at_block a.height)) front)) rest → ConsecutiveFrom (first_unprocessed p + 1) out → ConsecutiveFrom (first_unprocessed (acked_to p (if b then a ∷ front else []))) (if b then rest else a ∷ out)
follows_by true p a front rest out e follows line = follows
follows_by false p a front rest out e follows line = (e, line)

pub ConsecutiveFrom-after_given : (p : Option Processed) (out : List Outstanding) → ConsecutiveFrom (first_unprocessed p) out → ConsecutiveFrom (first_unprocessed (acked_to p (given_front out))) (after_given out)
ConsecutiveFrom-after_given p [] line = tt
ConsecutiveFrom-after_given p (a ∷ out) line =
    follows_by (is_given a.mark) p a (given_front out) (after_given out) out line.0
    (ConsecutiveFrom-after_given (Some (at_block a.height)) out (consecutive_is _ _ out (ap (λ k. k + 1) (sym line.0)) line.1)) line.1

-- EVENTS

-- a floor applied above the processed height raises it
raised_by : (b : Bool) (p : Option Processed) (h : ℕ) → first_unprocessed p ≤ h → first_unprocessed p ≤ first_unprocessed (Some (if b then at_block (h - 1) else at_absent (h - 1)))
raised_by true p h low = omega arith
raised_by false p h low = omega arith

pub above_first_unprocessed : (p : Option Processed) (h : ℕ) → nat_lt (height_of p) h ≡ true → first_unprocessed p ≤ h
above_first_unprocessed None h e = omega arith
above_first_unprocessed (Some p) h e = let low : height_in p < h = grind arith in omega arith

floor_rises : (n : Node) (b : Block) (above : Bool) → is_above n b ≡ above → first_unprocessed n.processed ≤ first_unprocessed (if above then Some (if has_height n.blocks.held (b.height - 1) then at_block (b.height - 1) else at_absent (b.height - 1)) else n.processed)
floor_rises n b true e = raised_by (has_height n.blocks.held (b.height - 1)) n.processed b.height (above_first_unprocessed n.processed b.height e)
floor_rises n b false e = omega arith

-- no event lowers the processed height
pub first_unprocessed-rises : (n : Node) (e : Event) (fx : Effect) → ConsecutiveFrom (first_unprocessed n.processed) n.out → first_unprocessed n.processed ≤ first_unprocessed (processed_after n e fx)
first_unprocessed-rises n e no_floor line = let rise : first_unprocessed (acked_to n.processed (drained_blocks n e)) ≡ first_unprocessed n.processed + length (drained_blocks n e) = first_unprocessed-acked_to n.processed (drained_blocks n e) (ConsecutiveFrom-drained n e line) in omega arith
first_unprocessed-rises n e (awaits_floor a) line = omega arith
first_unprocessed-rises n e (applies_floor r b) line = floor_rises n b (is_above n b) refl

floor_kept : (n : Node) (b : Block) (kept : List Outstanding) (above : Bool) → ConsecutiveFrom (first_unprocessed n.processed) kept → ConsecutiveFrom (first_unprocessed (if above then Some (if has_height n.blocks.held (b.height - 1) then at_block (b.height - 1) else at_absent (b.height - 1)) else n.processed)) (if above then [] else kept)
floor_kept n b kept true line = tt
floor_kept n b kept false line = line

keep_other : (n : Node) (e : Event) → drained_blocks n e ≡ [] → ConsecutiveFrom (first_unprocessed n.processed) (undrained_blocks n e) → (fx : Effect) → ConsecutiveFrom (first_unprocessed (processed_after n e fx)) (kept_blocks n e fx)
keep_other n e none line no_floor = subst (λ out. ConsecutiveFrom (first_unprocessed (acked_to n.processed out)) (undrained_blocks n e)) (sym none) line
keep_other n e none line (awaits_floor a) = tt
keep_other n e none line (applies_floor r b) = floor_kept n b (undrained_blocks n e) (is_above n b) line

keep_acked : (n : Node) (t : ℕ) (m : Mark) (a : Option Awaited) → ConsecutiveFrom (first_unprocessed n.processed) n.out → ConsecutiveFrom (first_unprocessed (processed_after n (ack_marked t m) (brought_effect a None))) (kept_blocks n (ack_marked t m) (brought_effect a None))
keep_acked n t m None line = ConsecutiveFrom-after_given n.processed (with_mark t m n.out) (ConsecutiveFrom-with_mark t m _ n.out line)
keep_acked n t m (Some a) line = ConsecutiveFrom-after_given n.processed (with_mark t m n.out) (ConsecutiveFrom-with_mark t m _ n.out line)

-- what is kept of the outstanding blocks is consecutive from the first height that is unprocessed after the event
pub ConsecutiveFrom-kept : (config : Config) (n : Node) (e : Event) → ConsecutiveFrom (first_unprocessed n.processed) n.out → ConsecutiveFrom (first_unprocessed (processed_after n e (effect_of config n e))) (kept_blocks n e (effect_of config n e))
ConsecutiveFrom-kept config n (ack_marked t m) line = keep_acked n t m n.awaited line
ConsecutiveFrom-kept config n e line = keep_other n e refl line (effect_of config n e)

-- HANDED OVER

pub ConsecutiveFrom-handed : (sure : List (At Block)) (t h : ℕ) (xs : List HandedBlock) → HandedFrom sure t h xs → ConsecutiveFrom h (map outstanding_of xs)
ConsecutiveFrom-handed sure t h [] handed = tt
ConsecutiveFrom-handed sure t h (x ∷ xs) handed = (handed.1, ConsecutiveFrom-handed sure (t + 1) (h + 1) xs handed.3)

-- with what is handed over they stay consecutive, and sure
pub ConsecutiveFrom-handed_over : (n : Node) (kept : List Outstanding) (reports : List Report) (n' : Node) → HandsOver n kept reports n' → ConsecutiveFrom (first_unprocessed n'.processed) kept → ConsecutiveFrom (first_unprocessed n'.processed) n'.out
ConsecutiveFrom-handed_over n kept reports n' hands line =
    subst (λ out. ConsecutiveFrom (first_unprocessed n'.processed) out) (sym hands.out)
    (ConsecutiveFrom-append (first_unprocessed n'.processed) kept (map outstanding_of (handed_blocks reports)) line (ConsecutiveFrom-handed _ _ _ (handed_blocks reports) hands.in_order))

-- KEPT ONES ARE SURE

all_sure-with_mark : (sure : List (At Block)) (t : ℕ) (mark : Mark) (out : List Outstanding) → AllByRecursion (λ a. IsTrue (has_height sure a.height)) out → AllByRecursion (λ a. IsTrue (has_height sure a.height)) (with_mark t mark out)
all_sure-with_mark sure t mark [] all = tt
all_sure-with_mark sure t mark (a ∷ out) all = (marked (is_unmarked t a), all_sure-with_mark sure t mark out all.1)
  where
    height : Outstanding → ℕ
    height x = x.height

    marked : (b : Bool) → IsTrue (has_height sure (height (if b then record a { mark = mark } else a)))
    marked true = all.0
    marked false = all.0

all_sure-after_given : (sure : List (At Block)) (out : List Outstanding) → AllByRecursion (λ a. IsTrue (has_height sure a.height)) out → AllByRecursion (λ a. IsTrue (has_height sure a.height)) (after_given out)
all_sure-after_given sure [] all = tt
all_sure-after_given sure (a ∷ out) all = by (is_given a.mark) (all_sure-after_given sure out all.1)
  where
    by : (b : Bool) → AllByRecursion (λ x. IsTrue (has_height sure x.height)) (after_given out) → AllByRecursion (λ x. IsTrue (has_height sure x.height)) (if b then after_given out else a ∷ out)
    by true rest = rest
    by false rest = all

pub all_sure-drained : (n : Node) (e : Event) → AllByRecursion (λ a. IsTrue (has_height n.blocks.sure a.height)) n.out → AllByRecursion (λ a. IsTrue (has_height n.blocks.sure a.height)) (drained_blocks n e)
all_sure-drained n (ack_marked t m) all = front (with_mark t m n.out) (all_sure-with_mark n.blocks.sure t m n.out all)
  where
    front_by : (b : Bool) (a : Outstanding) (out : List Outstanding) → IsTrue (has_height n.blocks.sure a.height) → AllByRecursion (λ x. IsTrue (has_height n.blocks.sure x.height)) out → AllByRecursion (λ x. IsTrue (has_height n.blocks.sure x.height)) (if b then a ∷ out else [])
    front_by true a out first others = (first, others)
    front_by false a out first others = tt

    front : (out : List Outstanding) → AllByRecursion (λ x. IsTrue (has_height n.blocks.sure x.height)) out → AllByRecursion (λ x. IsTrue (has_height n.blocks.sure x.height)) (given_front out)
    front [] every = tt
    front (a ∷ out) every = front_by (is_given a.mark) a (given_front out) every.0 (front out every.1)
all_sure-drained n e all = tt

all_sure-undrained : (n : Node) (e : Event) → AllByRecursion (λ a. IsTrue (has_height n.blocks.sure a.height)) n.out → AllByRecursion (λ a. IsTrue (has_height n.blocks.sure a.height)) (undrained_blocks n e)
all_sure-undrained n (ack_marked t m) all = all_sure-after_given n.blocks.sure (with_mark t m n.out) (all_sure-with_mark n.blocks.sure t m n.out all)
all_sure-undrained n e all = all

pub all_sure-kept : (n : Node) (e : Event) (fx : Effect) → AllByRecursion (λ a. IsTrue (has_height n.blocks.sure a.height)) n.out → AllByRecursion (λ a. IsTrue (has_height n.blocks.sure a.height)) (kept_blocks n e fx)
all_sure-kept n e no_floor all = all_sure-undrained n e all
all_sure-kept n e (awaits_floor a) all = tt
all_sure-kept n e (applies_floor r b) all = by (is_above n b)
  where
    by : (c : Bool) → AllByRecursion (λ a. IsTrue (has_height n.blocks.sure a.height)) (if c then [] else undrained_blocks n e)
    by true = tt
    by false = all_sure-undrained n e all
