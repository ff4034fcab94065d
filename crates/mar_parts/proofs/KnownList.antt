-- The list of the commitments that are known: what a look-up finds in it, and what calls make of that.
use Rattle.std.proofs.Common.{Bool, List, Some, [], ap, ap₂, arith, cond, false, filter, get_or, map, nat_le, nat_lt, refl, sym, true, ℕ, ◌&&◌, ◌++◌, ◌<◌, ◌==◌, ◌||◌, ◌∙◌, ◌∷◌, ◌≡◌, ◌≤◌}
use Rattle.std.proofs.Math.Bool.{or-false}
use Rattle.std.proofs.lemmas.Bool.{false≢true}
use Rattle.std.proofs.lemmas.Bool.Decides.{nat_tests}
use Rattle.std.proofs.lemmas.List.Folds.{list_any-append, list_any_at}
use Rattle.std.proofs.lemmas.Map.Views.{any-filter_same}
use Rattle.std.proofs.lemmas.Slice.Eq.{bytes_eq-Decides}
use Rattle.std.specs.List.{Contains, flat_map, list_any}
use Rattle.std.specs.Map.{lookup}
use Rattle.std.specs.Option.{unwrap_or}
use Rattle.std.specs.Prelude.{bytes_eq}
use Rattle.mar_key.specs.Fronts.{list_any-map}
use Rattle.mar_model.specs.Answers as node
use Rattle.mar_model.specs.Node.{CertifiedCommitment}
use Rattle.mar_parts.specs.Certified.{Certified, is_known, is_listed, known_at, known_list}

-- a commitment of a list is among it by its bytes
pub listed-of : {C : Type 0} (bytes : C → List ℕ) (cs : List C) (c : C) → Contains cs c → is_listed bytes cs (bytes c) ≡ true
listed-of bytes cs c has =
    let is_itself : bytes_eq (bytes (get_or cs has.0 c)) (bytes c) ≡ true = (bytes_eq-Decides (bytes (get_or cs has.0 c)) (bytes c)).1 (ap bytes has.2) in
    list_any_at (λ d. bytes_eq (bytes d) (bytes c)) cs has.0 c has.1 is_itself

-- a look-up among those whose height passes a test
passed : (p : ℕ → Bool) (xs : List CertifiedCommitment) (h : ℕ) (c : List ℕ) → node.is_known (filter (λ x. p x.height) xs) h c ≡ (p h && node.is_known xs h c)
passed p xs h c = any-filter_same (λ x. x.height == h && bytes_eq x.commitment c) (λ x. p x.height) (p h) (λ x found. ap p (at_height x.height (bytes_eq x.commitment c) (x.height == h) refl found)) xs
  where
    at_height : (k : ℕ) (named here : Bool) → (k == h) ≡ here → (here && named) ≡ true → k ≡ h
    at_height k named true same both = grind (arith, nat_tests)
    at_height k named false same both = absurd (false≢true both)

-- a look-up above a height, among those that stand above it
pub masked-is : (tip : ℕ) (xs : List CertifiedCommitment) (h : ℕ) (c : List ℕ) → node.is_known (filter (λ x. nat_lt tip x.height) xs) h c ≡ (nat_lt tip h && node.is_known xs h c)
masked-is tip xs h c = passed (nat_lt tip) xs h c

any_of_both : {X : Type 0} (b : Bool) (q : X → Bool) (xs : List X) → list_any (λ x. b && q x) xs ≡ (b && list_any q xs)
any_of_both true q xs = refl
any_of_both false q [] = refl
any_of_both false q (x ∷ xs) = any_of_both false q xs

either_of_both : (a b q : Bool) → ((a && q) || (b && q)) ≡ ((a || b) && q)
either_of_both true true true = refl
either_of_both true true false = refl
either_of_both true false true = refl
either_of_both true false false = refl
either_of_both false b q = refl

module _ {C : Type 0} (bytes : C → List ℕ) where
  -- what is listed for a height that has commitments
  of_height : (s : Certified C) (k h : ℕ) (c : List ℕ) → node.is_known (map (λ d. record { height = k; commitment = bytes d }) (known_at s k)) h c ≡ (k == h && is_known bytes s h c)
  of_height s k h c =
      list_any-map (λ x. x.height == h && bytes_eq x.commitment c) (λ d. record { height = k; commitment = bytes d }) (known_at s k)
      ∙ any_of_both (k == h) (λ d. bytes_eq (bytes d) c) (known_at s k)
      ∙ by (k == h) refl
    where
      by : (here : Bool) → (k == h) ≡ here → (here && is_known bytes s k c) ≡ (here && is_known bytes s h c)
      by false other = refl
      by true same = let is : k ≡ h = grind (arith, nat_tests) in ap (λ j. is_known bytes s j c) is

  of_heights : (s : Certified C) (es : List (ℕ × List C)) (h : ℕ) (c : List ℕ) → node.is_known (flat_map (λ e. map (λ d. record { height = e.0; commitment = bytes d }) (known_at s e.0)) es) h c ≡ (list_any (λ e. e.0 == h) es && is_known bytes s h c)
  of_heights s [] h c = refl
  of_heights s (e ∷ es) h c =
      list_any-append (λ x. x.height == h && bytes_eq x.commitment c) (map (λ d. record { height = e.0; commitment = bytes d }) (known_at s e.0)) (flat_map (λ e. map (λ d. record { height = e.0; commitment = bytes d }) (known_at s e.0)) es)
      ∙ ap₂ (λ a b. a || b) (of_height s e.0 h c) (of_heights s es h c)
      ∙ either_of_both (e.0 == h) (list_any (λ e. e.0 == h) es) (is_known bytes s h c)

  -- a height that has no list has no commitments
  has_list : (es : List (ℕ × List C)) (h : ℕ) (c : List ℕ) → (list_any (λ e. e.0 == h) es && is_listed bytes (unwrap_or (lookup (λ k. k == h) es) []) c) ≡ is_listed bytes (unwrap_or (lookup (λ k. k == h) es) []) c
  has_list [] h c = refl
  has_list (e ∷ es) h c =
      elim (e.0 == h) as (λ b. ((b || list_any (λ e. e.0 == h) es) && is_listed bytes (unwrap_or (cond b (Some e.1) (lookup (λ k. k == h) es)) []) c) ≡ is_listed bytes (unwrap_or (cond b (Some e.1) (lookup (λ k. k == h) es)) []) c) [
        | true ↦ refl
        | false ↦ has_list es h c
      ]

  -- a look-up in the list finds what is known
  pub known_list-is : (s : Certified C) (h : ℕ) (c : List ℕ) → node.is_known (known_list bytes s) h c ≡ is_known bytes s h c
  known_list-is s h c = of_heights s s.commitments h c ∙ has_list s.commitments h c

  module _ (old new : Certified C) where
    -- the clause of a call that takes note of a commitment of this name at a height
    abbrev Inserted : ℕ → List ℕ → Type 0
    Inserted height name = (h : ℕ) (c : List ℕ) → is_known bytes new h c ≡ (is_known bytes old h c || (nat_le old.min height && h == height && bytes_eq name c))

    -- where the height is kept, the list has one more
    pub inserted-is : (height : ℕ) (name : List ℕ) → Inserted height name → old.min ≤ height → (h : ℕ) (c : List ℕ) → node.is_known (known_list bytes new) h c ≡ node.is_known (known_list bytes old ++ record { height = height; commitment = name } ∷ []) h c
    inserted-is height name inserted kept h c =
        let from : nat_le old.min height ≡ true = grind (arith, nat_tests) in
        let flips : (h == height) ≡ (height == h) = grind (arith, nat_tests) in
        known_list-is new h c
        ∙ inserted h c
        ∙ ap (λ b. is_known bytes old h c || (b && h == height && bytes_eq name c)) from
        ∙ ap (λ b. is_known bytes old h c || (b && bytes_eq name c)) flips
        ∙ ap₂ (λ a b. a || b) (sym (known_list-is old h c)) (sym (or-false (height == h && bytes_eq name c)))
        ∙ sym (list_any-append (λ x. x.height == h && bytes_eq x.commitment c) (known_list bytes old) (record { height = height; commitment = name } ∷ []))

    -- where it isn't, the list stays
    pub left_out-is : (height : ℕ) (name : List ℕ) → Inserted height name → height < old.min → (h : ℕ) (c : List ℕ) → node.is_known (known_list bytes new) h c ≡ node.is_known (known_list bytes old) h c
    left_out-is height name inserted below h c =
        let under : nat_le old.min height ≡ false = grind (arith, nat_tests) in
        known_list-is new h c
        ∙ inserted h c
        ∙ ap (λ b. is_known bytes old h c || (b && h == height && bytes_eq name c)) under
        ∙ or-false (is_known bytes old h c)
        ∙ sym (known_list-is old h c)

    -- a call that forgets the heights below one leaves those from it on
    pub retained-is : (least : ℕ) → ((h : ℕ) (c : List ℕ) → is_known bytes new h c ≡ (nat_le least h && is_known bytes old h c)) → (h : ℕ) (c : List ℕ) → node.is_known (known_list bytes new) h c ≡ node.is_known (filter (λ x. nat_le least x.height) (known_list bytes old)) h c
    retained-is least retained h c =
        known_list-is new h c
        ∙ retained h c
        ∙ ap (λ b. nat_le least h && b) (sym (known_list-is old h c))
        ∙ sym (passed (nat_le least) (known_list bytes old) h c)
