-- Commitments that are known at a height.
use Rattle.std.proofs.Common.{Bool, List, None, Option, Some, [], ap, arith, cond, false, refl, sym, true, ℕ, ◌&&◌, ◌<◌, ◌==◌, ◌||◌, ◌∙◌, ◌≡◌, ◌≤◌}
use Rattle.std.proofs.lemmas.Bool.Decides.{nat_tests}
use Rattle.std.proofs.lemmas.Map.Entries.{lookup-filter-keys}
use Rattle.std.specs.BTreeMap.{BTreeMap, get, is_at}
use Rattle.std.specs.Map.{lookup, set_value}
use Rattle.std.specs.Option.{unwrap_or}
use Rattle.std.specs.Ordering.{nat_cmp}
use Rattle.std.specs.Prelude.{Err, Ok, OnErr, Result, bytes_eq, filter, nat_le, nat_lt, option_map}
use Rattle.std.specs.declared.vec.Vec.{Vec}
use Rattle.mar_parts.specs.Certified.{by_height, is_known, is_listed, known_at, listed}
use Rattle.mar_parts.proofs.ByHeight.{seen_at}
use Rattle.mar_parts.proofs.ByName.{written_same}

-- what stands at a height once those below another are gone
pub got_from : {X : Type 0} (m n : BTreeMap ℕ X) (h k : ℕ) → n.entries ≡ filter (λ e. nat_le h e.0) m.entries → get nat_cmp n k ≡ cond (nat_le h k) (get nat_cmp m k) None
got_from m n h k is =
    ap (lookup (is_at (nat_cmp k))) is
    ∙ lookup-filter-keys (is_at (nat_cmp k)) (nat_le h) (nat_le h k) (λ j same. ap (nat_le h) (at_same k j same)) m.entries
  where
    at_same : (k j : ℕ) → is_at (nat_cmp k) j ≡ true → j ≡ k
    at_same k j same = grind (arith, nat_tests)

pub on_err : {T E Q : Type 0} (r : Result T E) → Q → OnErr r Q
on_err (Ok x) q = tt
on_err (Err e) q = q

module _ {C Z : Type 0} where
  -- a list that was written back with the commitments that it had changes nothing
  pub written_back : (t : ℕ → Bool) (es : List (ℕ × Vec C Z)) (old new : Vec C Z) → lookup t es ≡ Some old → new.items ≡ old.items → by_height (set_value t es new) ≡ by_height es
  written_back t es old new found same = written_same (λ h. h) (λ v. v.items) t new old es found same

  -- those that are known at a height are the list that stands there
  pub known_as : (m : BTreeMap ℕ (Vec C Z)) (min h : ℕ) → known_at (record { commitments = by_height m.entries; min = min }) h ≡ listed (get nat_cmp m h)
  known_as m min h = ap (λ o. unwrap_or o []) (seen_at (λ v. v.items) h m.entries) ∙ by (get nat_cmp m h)
    where
      by : (o : Option (Vec C Z)) → unwrap_or (option_map (λ v. v.items) o) [] ≡ listed o
      by None = refl
      by (Some v) = refl

  module _ (bytes : C → List ℕ) where
    pub known_here : (m : BTreeMap ℕ (Vec C Z)) (min h : ℕ) (c : List ℕ) → is_known bytes (record { commitments = by_height m.entries; min = min }) h c ≡ is_listed bytes (listed (get nat_cmp m h)) c
    known_here m min h c = ap (λ cs. is_listed bytes cs c) (known_as m min h)

    -- nothing is known where there is no list
    unknown : (m : BTreeMap ℕ (Vec C Z)) (min h : ℕ) (c : List ℕ) → get nat_cmp m h ≡ None → is_known bytes (record { commitments = by_height m.entries; min = min }) h c ≡ false
    unknown m min h c none = known_here m min h c ∙ ap (λ o. is_listed bytes (listed o) c) none

    -- of what is known, the heights from one on stay known
    pub known_from : (m n : BTreeMap ℕ (Vec C Z)) (min least h k : ℕ) (c : List ℕ) → n.entries ≡ filter (λ e. nat_le h e.0) m.entries → is_known bytes (record { commitments = by_height n.entries; min = least }) k c ≡ (nat_le h k && is_known bytes (record { commitments = by_height m.entries; min = min }) k c)
    known_from m n min least h k c is =
        known_here n least k c
        ∙ ap (λ o. is_listed bytes (listed o) c) (got_from m n h k is)
        ∙ by (nat_le h k) (get nat_cmp m k)
        ∙ ap (λ b. nat_le h k && b) (sym (known_here m min k c))
      where
        by : (b : Bool) (o : Option (Vec C Z)) → is_listed bytes (listed (cond b o None)) c ≡ (b && is_listed bytes (listed o) c)
        by true o = refl
        by false o = refl

    -- where nothing is known below a height, all that is known stays known from there on
    pub known_still : (m : BTreeMap ℕ (Vec C Z)) (min least : ℕ) → ((h : ℕ) → h < min → get nat_cmp m h ≡ None) → least ≤ min → (h : ℕ) (c : List ℕ) → is_known bytes (record { commitments = by_height m.entries; min = min }) h c ≡ (nat_le least h && is_known bytes (record { commitments = by_height m.entries; min = min }) h c)
    known_still m min least none below h c = by (nat_le least h) refl
      where
        by : (b : Bool) → nat_le least h ≡ b → is_known bytes (record { commitments = by_height m.entries; min = min }) h c ≡ (b && is_known bytes (record { commitments = by_height m.entries; min = min }) h c)
        by true is = refl
        by false is = unknown m min h c (none h (grind (arith, nat_tests)))

    -- one more commitment of a height from the least one on
    pub known_more : (m n : BTreeMap ℕ (Vec C Z)) (min least height : ℕ) (name : List ℕ) → nat_lt height min ≡ false → ((h : ℕ) (c : List ℕ) → is_listed bytes (listed (get nat_cmp n h)) c ≡ (is_listed bytes (listed (get nat_cmp m h)) c || (h == height && bytes_eq name c))) → (h : ℕ) (c : List ℕ) → is_known bytes (record { commitments = by_height n.entries; min = least }) h c ≡ (is_known bytes (record { commitments = by_height m.entries; min = min }) h c || (nat_le min height && h == height && bytes_eq name c))
    known_more m n min least height name kept more h c =
        let from : nat_le min height ≡ true = grind (arith, nat_tests) in
        known_here n least h c
        ∙ more h c
        ∙ ap (λ b. b || (h == height && bytes_eq name c)) (sym (known_here m min h c))
        ∙ ap (λ b. is_known bytes (record { commitments = by_height m.entries; min = min }) h c || (b && h == height && bytes_eq name c)) (sym from)

pub gone_below : {X : Type 0} (m n : BTreeMap ℕ X) (least h : ℕ) → n.entries ≡ filter (λ e. nat_le least e.0) m.entries → h < least → get nat_cmp n h ≡ None
gone_below m n least h is below =
    let not_kept : nat_le least h ≡ false = grind (arith, nat_tests) in
    got_from m n least h is ∙ ap (λ b. cond b (get nat_cmp m h) None) not_kept
