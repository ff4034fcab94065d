-- What a walk fills in: each block has the commitment that was wanted, stands below the upper end, and is held from then on.
use Rattle.std.proofs.Common.{◌≡◌, ◌⊎◌, inl, ⊎_elim, ◌∷◌, [], List, ◌++◌, option_and_then, option_map, IsTrue, Option, None, Some, Bool, true, false, if◌then◌else◌, ◌==◌, bytes_eq, find, ℕ, ◌-◌, ◌<◌, ◌≤◌, arith, refl, sym, ◌∙◌, ap, subst}
use Rattle.std.proofs.lemmas.Bool.{eqb-true, or_left}
use Rattle.std.proofs.lemmas.Option.{same_Some}
use Rattle.std.specs.List.{AllByRecursion}
use Rattle.std.specs.Option.{option_or}
use Rattle.mar_cert.specs.Block.{Block}
use Rattle.mar_store.specs.Changes.{heights}
use Rattle.mar_store.specs.Gaps.{next_start}
use Rattle.mar_store.proofs.GapHeights.{start_some}
use Rattle.mar_store.specs.Kept.{At, has_height, value_at}
use Rattle.mar_store.specs.Ranges.{ranges}
use Rattle.mar_store.proofs.Lookups.{AllByRecursion-append, AllByRecursion-value_at, has_height-append, has_height-from_value, has_height-push_cases, has_height-push_same}
use Rattle.mar_model.specs.AllEntries.{soonest}
use Rattle.mar_model.specs.Cached.{Cached, cached_block}
use Rattle.mar_model.specs.Entries.{has_commitment}
use Rattle.mar_model.specs.Moves.{cached_by_commitment, of_commitment}
use Rattle.mar_model.specs.Repair.{AreFills, Search, fill_of, look_up, of_height, parent_of, with_fill, with_fills}
use Rattle.mar_model.specs.Stored.{at_own_height, block_of, is_held, values_of}
use Rattle.mar_model.proofs.AtHand.{bytes_same, find-passes}
use Rattle.mar_model.proofs.FoundBlocks.{find-append}
use Rattle.mar_model.proofs.Looking.{passes_found}

-- WHAT IS FOUND

of_commitment-commitment : (c : List ℕ) (o : Option Block) (b : Block) → of_commitment c o ≡ Some b → b.commitment ≡ c
of_commitment-commitment c None b is = absurd cc
of_commitment-commitment c (Some x) b is = by (bytes_eq x.commitment c) refl is
  where
    by : (same : Bool) → bytes_eq x.commitment c ≡ same → (if same then Some x else None) ≡ Some b → b.commitment ≡ c
    by true same one = ap (λ (y : Block). y.commitment) (sym (same_Some x b one)) ∙ bytes_same x.commitment c same
    by false other none = absurd cc

cached-commitment : (c : List ℕ) (xs : List Cached) (b : Block) → cached_by_commitment c xs ≡ Some b → b.commitment ≡ c
cached-commitment c xs b is = by (soonest (λ x. has_commitment c (cached_block x)) xs) refl is
  where
    of_block : (o : Option Block) → has_commitment c o ≡ true → o ≡ Some b → b.commitment ≡ c
    of_block None named one = absurd cc
    of_block (Some y) named one = ap (λ (z : Block). z.commitment) (sym (same_Some y b one)) ∙ bytes_same y.commitment c named

    by : (o : Option Cached) → soonest (λ x. has_commitment c (cached_block x)) xs ≡ o → option_and_then cached_block o ≡ Some b → b.commitment ≡ c
    by None none one = absurd cc
    by (Some x) some one = of_block (cached_block x) (passes_found (λ y. has_commitment c (cached_block y)) xs x (sym some)) one

-- what is at hand by a commitment has that
pub look_up-commitment : (s : Search) (held : List (At Block)) (c : List ℕ) (b : Block) → look_up s held c ≡ Some b → b.commitment ≡ c
look_up-commitment s held c b is = by (find (λ x. bytes_eq x.commitment c) s.buffer) refl (cached_by_commitment c s.cached) refl is
  where
    by : (o : Option Block) → find (λ x. bytes_eq x.commitment c) s.buffer ≡ o → (k : Option Block) → cached_by_commitment c s.cached ≡ k
        → option_or o (option_or k (of_commitment c (block_of held (s.inner c)))) ≡ Some b → b.commitment ≡ c
    by (Some x) first k kept one = ap (λ (y : Block). y.commitment) (sym (same_Some x b one)) ∙ bytes_same x.commitment c (find-passes (λ y. bytes_eq y.commitment c) s.buffer x first)
    by None first (Some x) kept one = cached-commitment c s.cached b (kept ∙ one)
    by None first None kept one = of_commitment-commitment c (block_of held (s.inner c)) b one

-- A FILL: the parent that some upper end names
pub record Filled (s : Search) (held : List (At Block)) (b : Block) : Type 0 where
  pub start : ℕ
  pub upper : Block
  pub next : next_start (ranges (heights held)) s.from ≡ Some start
  pub at : value_at held start ≡ Some upper
  pub found : look_up s held upper.parent_commitment ≡ Some b
  pub height : b.height ≡ upper.height - 1

pub fill_of-is : (s : Search) (held : List (At Block)) (b : Block) → fill_of s held ≡ Some b → Filled s held b
fill_of-is s held b is = by_start (next_start (ranges (heights held)) s.from) refl is
  where
    found_at : (start : ℕ) (u : Block) → next_start (ranges (heights held)) s.from ≡ Some start → value_at held start ≡ Some u → (o : Option Block) → look_up s held u.parent_commitment ≡ o
        → of_height (u.height - 1) o ≡ Some b → Filled s held b
    found_at start u next at None found one = absurd cc
    found_at start u next at (Some x) found one = by (x.height == u.height - 1) refl one
      where
        by : (c : Bool) → (x.height == u.height - 1) ≡ c → (if c then Some x else None) ≡ Some b → Filled s held b
        by true same some = record {
          start = start;
          upper = u;
          next = next;
          at = at;
          found = found ∙ some;
          height = ap (λ (y : Block). y.height) (sym (same_Some x b some)) ∙ eqb-true x.height (u.height - 1) same;
        }
        by false other none = absurd cc

    by_upper : (start : ℕ) → next_start (ranges (heights held)) s.from ≡ Some start → (o : Option Block) → value_at held start ≡ o
        → option_and_then (λ w. of_height w.height (look_up s held w.value)) (option_map parent_of o) ≡ Some b → Filled s held b
    by_upper start next None at one = absurd cc
    by_upper start next (Some u) at one = found_at start u next at (look_up s held u.parent_commitment) refl one

    by_start : (o : Option ℕ) → next_start (ranges (heights held)) s.from ≡ o
        → option_and_then (λ w. of_height w.height (look_up s held w.value)) (option_map parent_of (option_and_then (value_at held) o)) ≡ Some b → Filled s held b
    by_start None next one = absurd cc
    by_start (Some start) next one = by_upper start next (value_at held start) refl one

-- WHAT IS HELD THEN

pub with_fill-keeps : (held : List (At Block)) (b : Block) (h : ℕ) → IsTrue (has_height held h) → IsTrue (has_height (with_fill held b) h)
with_fill-keeps held b h has = by (is_held held b)
  where
    by : (c : Bool) → IsTrue (has_height (if c then held else held ++ at_own_height b ∷ []) h)
    by true = has
    by false = has_height-append held (at_own_height b ∷ []) h ∙ or_left (has_height held h) (has_height (at_own_height b ∷ []) h) has

pub with_fills-keeps : (held : List (At Block)) (fills : List Block) (h : ℕ) → IsTrue (has_height held h) → IsTrue (has_height (with_fills held fills) h)
with_fills-keeps held [] h has = has
with_fills-keeps held (b ∷ fills) h has = with_fills-keeps (with_fill held b) fills h (with_fill-keeps held b h has)

-- one that was put is held
pub with_fill-has : (held : List (At Block)) (b : Block) → is_held held b ≡ false → IsTrue (has_height (with_fill held b) b.height)
with_fill-has held b free = subst (λ (c : Bool). IsTrue (has_height (if c then held else held ++ at_own_height b ∷ []) b.height)) (sym free) (has_height-push_same held b.height b)

abbrev pub AreOwnHeights : List (At Block) → Type 0
AreOwnHeights held = AllByRecursion (λ x. x.value.height ≡ x.height) held

pub with_fill-own : (held : List (At Block)) (b : Block) → AreOwnHeights held → AreOwnHeights (with_fill held b)
with_fill-own held b own = by (is_held held b)
  where
    by : (c : Bool) → AreOwnHeights (if c then held else held ++ at_own_height b ∷ [])
    by true = own
    by false = AllByRecursion-append (λ x. x.value.height ≡ x.height) held (at_own_height b ∷ []) own (refl, tt)

pub with_fills-own : (held : List (At Block)) (fills : List Block) → AreOwnHeights held → AreOwnHeights (with_fills held fills)
with_fills-own held [] own = own
with_fills-own held (b ∷ fills) own = with_fills-own (with_fill held b) fills (with_fill-own held b own)

with_fill-cases : (held : List (At Block)) (b : Block) (k : ℕ) → IsTrue (has_height (with_fill held b) k) → IsTrue (has_height held k) ⊎ (b.height ≡ k)
with_fill-cases held b k has = by (is_held held b) has
  where
    by : (c : Bool) → IsTrue (has_height (if c then held else held ++ at_own_height b ∷ []) k) → IsTrue (has_height held k) ⊎ (b.height ≡ k)
    by true there = inl there
    by false there = has_height-push_cases held b.height k b there

-- all that is filled in stands below what stands above all that was held
pub with_fills-below : (s : Search) (held : List (At Block)) (fills : List Block) (top : ℕ) → AreOwnHeights held → AreFills s held fills → ((k : ℕ) → IsTrue (has_height held k) → k < top)
    → (k : ℕ) → IsTrue (has_height (with_fills held fills) k) → k < top
with_fills-below s held [] top own are below k has = below k has
with_fills-below s held (b ∷ fills) top own are below k has = with_fills-below s (with_fill held b) fills top (with_fill-own held b own) are.1 with_it k has
  where
    filled : Filled s held b
    filled = fill_of-is s held b are.0

    upper_low : filled.start < top
    upper_low = below filled.start (has_height-from_value held filled.start filled.upper filled.at)

    upper_at : filled.upper.height ≡ filled.start
    upper_at = AllByRecursion-value_at (λ x. x.value.height ≡ x.height) held filled.start filled.upper own filled.at

    with_it : (j : ℕ) → IsTrue (has_height (with_fill held b) j) → j < top
    with_it j there = ⊎_elim (λ before. below j before) (λ is. let h : b.height ≡ filled.upper.height - 1 = filled.height in let u : filled.upper.height ≡ filled.start = upper_at in let low : filled.start < top = upper_low in omega (arith, is)) (with_fill-cases held b j there)

-- WHAT IS NOT AT HAND

or_none : (o k : Option Block) → option_or o k ≡ None → (o ≡ None) × (k ≡ None)
or_none None k is = (refl, is)
or_none (Some b) k is = absurd (let no : ◌≡◌ {A = Option Block} (Some b) None = is in cc)

values-push : (held : List (At Block)) (b : Block) → values_of (held ++ at_own_height b ∷ []) ≡ values_of held ++ b ∷ []
values-push [] b = refl
values-push (x ∷ held) b = ap (λ xs. x.value ∷ xs) (values-push held b)

-- one block more, of another commitment, changes nothing
still_unfound : (s : Search) (held : List (At Block)) (b : Block) (c : List ℕ) → (b.commitment ≡ c → ⊥) → look_up s held c ≡ None → look_up s (with_fill held b) c ≡ None
still_unfound s held b c other none = by (is_held held b)
  where
    not_there : (o : Option Block) → of_commitment c o ≡ None → of_commitment c (option_or o (find (λ y. bytes_eq y.digest (s.inner c)) (b ∷ []))) ≡ None
    not_there (Some x) is = is
    not_there None is = by_digest (bytes_eq b.digest (s.inner c))
      where
        by_commitment : (m : Bool) → bytes_eq b.commitment c ≡ m → (if m then Some b else None) ≡ None
        by_commitment true same = absurd (other (bytes_same b.commitment c same))
        by_commitment false differs = refl

        by_digest : (d : Bool) → of_commitment c (if d then Some b else None) ≡ None
        by_digest true = by_commitment (bytes_eq b.commitment c) refl
        by_digest false = refl

    pushed : block_of (held ++ at_own_height b ∷ []) (s.inner c) ≡ option_or (block_of held (s.inner c)) (find (λ y. bytes_eq y.digest (s.inner c)) (b ∷ []))
    pushed = ap (find (λ y. bytes_eq y.digest (s.inner c))) (values-push held b) ∙ find-append (λ y. bytes_eq y.digest (s.inner c)) (values_of held) (b ∷ [])

    first : (find (λ x. bytes_eq x.commitment c) s.buffer ≡ None) × (option_or (cached_by_commitment c s.cached) (of_commitment c (block_of held (s.inner c))) ≡ None)
    first = or_none (find (λ x. bytes_eq x.commitment c) s.buffer) _ none

    second : (cached_by_commitment c s.cached ≡ None) × (of_commitment c (block_of held (s.inner c)) ≡ None)
    second = or_none (cached_by_commitment c s.cached) _ first.1

    by : (p : Bool) → look_up s (if p then held else held ++ at_own_height b ∷ []) c ≡ None
    by true = none
    by false =
        ap (λ o. option_or o (option_or (cached_by_commitment c s.cached) (of_commitment c (block_of (held ++ at_own_height b ∷ []) (s.inner c))))) first.0
        ∙ (ap (λ o. option_or o (of_commitment c (block_of (held ++ at_own_height b ∷ []) (s.inner c)))) second.0
        ∙ (ap (of_commitment c) pushed ∙ not_there (block_of held (s.inner c)) second.1))

-- what wasn't at hand as a walk began isn't as it ends
pub with_fills-unfound : (s : Search) (held : List (At Block)) (fills : List Block) (c : List ℕ) → AreFills s held fills → look_up s held c ≡ None → look_up s (with_fills held fills) c ≡ None
with_fills-unfound s held [] c are none = none
with_fills-unfound s held (b ∷ fills) c are none = with_fills-unfound s (with_fill held b) fills c are.1 (still_unfound s held b c other none)
  where
    filled : Filled s held b
    filled = fill_of-is s held b are.0

    other : b.commitment ≡ c → ⊥
    other same =
        let wanted : b.commitment ≡ filled.upper.parent_commitment = look_up-commitment s held filled.upper.parent_commitment b filled.found in
        let no : ◌≡◌ {A = Option Block} None (Some b) = sym none ∙ (ap (look_up s held) (sym same ∙ wanted) ∙ filled.found) in cc

-- each stands at or above where the walk fills
pub fills-above : (s : Search) (held : List (At Block)) (fills : List Block) → AreOwnHeights held → AreFills s held fills → AllByRecursion (λ b. s.from ≤ b.height) fills
fills-above s held [] own are = tt
fills-above s held (b ∷ fills) own are = (above, fills-above s (with_fill held b) fills (with_fill-own held b own) are.1)
  where
    filled : Filled s held b
    filled = fill_of-is s held b are.0

    above : s.from ≤ b.height
    above =
        let h : b.height ≡ filled.upper.height - 1 = filled.height in
        let u : filled.upper.height ≡ filled.start = AllByRecursion-value_at (λ x. x.value.height ≡ x.height) held filled.start filled.upper own filled.at in
        let begins = start_some (heights held) s.from filled.start filled.next in
        let higher : s.from < filled.start = begins.above in
        omega arith
