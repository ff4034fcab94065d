-- Commitments that are known as certified: what an event that brings none leaves, and what a step makes of them.
use Rattle.std.proofs.Common.{◌≡◌, ◌+◌, ◌<◌, ◌≤◌, ◌&&◌, ◌||◌, ◌==◌, ◌++◌, ◌∷◌, ℕ, List, [], Bool, true, false, nat_lt, Result, Ok, Err, OnOk, refl, sym, ◌∙◌, ap, ap₂, arith}
use Rattle.std.proofs.Math.Bool.{and-false, or-false, or_assoc}
use Rattle.std.proofs.lemmas.Bool.Decides.{nat_tests}
use Rattle.std.proofs.lemmas.List.Folds.{list_any-append}
use Rattle.std.specs.Prelude.{bytes_eq, nat_le}
use Rattle.mar_model.specs.Answers.{is_known as is_among}
use Rattle.mar_model.specs.Node.{CertifiedCommitment}
use Rattle.mar_model.specs.Queries.{Learns}
use Rattle.mar_parts.specs.Certified.{Certified, is_known, known_list}
use Rattle.mar_parts.proofs.KnownList.{known_list-is, masked-is}
use Rattle.mar_actor.specs.Known.{TakesNote, known_above}

-- nothing was found
pub takes_none : {C : Type 0} (bytes : C → List ℕ) (tip : ℕ) (certified : Certified C) → TakesNote bytes tip [] certified certified
takes_none bytes tip certified h c above = sym (or-false (is_known bytes certified h c))

pub unnoted : {C T E : Type 0} (bytes : C → List ℕ) (certified : Certified C) (result : Result T E) → OnOk result ((tip : ℕ) → certified.min ≤ tip + 1 → TakesNote bytes tip [] certified certified)
unnoted bytes certified (Ok x) = λ tip least. takes_none bytes tip certified
unnoted bytes certified (Err e) = tt

pub still_least : {T E : Type 0} (least : ℕ) (result : Result T E) → OnOk result (least ≡ least)
still_least least (Ok x) = refl
still_least least (Err e) = tt

-- what is the same isn't above
pub never_above : (a b : ℕ) → a ≡ b → a ≤ b
never_above a b is = omega (arith, is)

-- what was found is known besides what was known before, above the tip, which doesn't fall
pub learns : {C : Type 0} (bytes : C → List ℕ) (before tip : ℕ) (found : List CertifiedCommitment) (old mid new : Certified C) → before ≤ tip → TakesNote bytes tip found old mid → ((h : ℕ) (c : List ℕ) → tip < h → is_known bytes new h c ≡ is_known bytes mid h c) → Learns (known_above bytes before old) found tip (known_above bytes tip new)
learns bytes before tip found old mid new rises notes forgets h c =
    masked-is tip (known_list bytes new) h c
    ∙ (by (nat_lt tip h) refl
    ∙ sym (masked-is tip (known_above bytes before old ++ found) h c))
  where
    above : (c : Bool) → nat_lt tip h ≡ c → c ≡ true → nat_lt before h ≡ true
    above true is on = grind (arith, nat_tests)
    above false is on = absurd cc

    by : (t : Bool) → nat_lt tip h ≡ t → (t && is_among (known_list bytes new) h c) ≡ (t && is_among (known_above bytes before old ++ found) h c)
    by false low = refl
    by true over =
        known_list-is bytes new h c
        ∙ (forgets h c (grind (arith, nat_tests))
        ∙ (notes h c (grind (arith, nat_tests))
        ∙ (ap (λ k. k || is_among found h c) (sym (known_list-is bytes old h c) ∙ sym (masked-is before (known_list bytes old) h c ∙ ap (λ t. t && is_among (known_list bytes old) h c) (above true over refl)))
        ∙ sym (list_any-append (λ x. x.height == h && bytes_eq x.commitment c) (known_above bytes before old) found))))

-- WHAT A CERTIFIED BLOCK MAKES KNOWN

eqb-sym : (a b : ℕ) → (a == b) ≡ (b == a)
eqb-sym a b = grind arith

-- one commitment was inserted
pub takes_one : {C : Type 0} (bytes : C → List ℕ) (tip height : ℕ) (name : List ℕ) (old new : Certified C) → ((h : ℕ) (c : List ℕ) → is_known bytes new h c ≡ (is_known bytes old h c || (nat_le old.min height && h == height && bytes_eq name c))) → old.min ≤ tip + 1 → TakesNote bytes tip (record { height = height; commitment = name } ∷ []) old new
takes_one bytes tip height name old new known least h c above = known h c ∙ ap (λ k. is_known bytes old h c || k) (by (h == height) refl)
  where
    by : (same : Bool) → (h == height) ≡ same → (nat_le old.min height && h == height && bytes_eq name c) ≡ ((height == h && bytes_eq name c) || false)
    by true is =
        let from : nat_le old.min height ≡ true = grind (arith, nat_tests) in
        ap₂ (λ p q. p && q && bytes_eq name c) from is
        ∙ (sym (or-false (bytes_eq name c)) ∙ sym (ap (λ q. (q && bytes_eq name c) || false) (eqb-sym height h ∙ is)))
    by false is = ap (λ q. nat_le old.min height && q && bytes_eq name c) is ∙ (ap (λ r. r && bytes_eq name c) (and-false (nat_le old.min height)) ∙ sym (ap (λ q. (q && bytes_eq name c) || false) (eqb-sym height h ∙ is)))

-- and then others
pub takes_then : {C : Type 0} (bytes : C → List ℕ) (tip : ℕ) (xs ys : List CertifiedCommitment) (old mid new : Certified C) → TakesNote bytes tip xs old mid → TakesNote bytes tip ys mid new → TakesNote bytes tip (xs ++ ys) old new
takes_then bytes tip xs ys old mid new first second h c above =
    second h c above
    ∙ (ap (λ k. k || is_among ys h c) (first h c above)
    ∙ (or_assoc (is_known bytes old h c) (is_among xs h c) (is_among ys h c)
    ∙ ap (λ k. is_known bytes old h c || k) (sym (list_any-append (λ x. x.height == h && bytes_eq x.commitment c) xs ys))))

-- none stands above a tip at height 0
pub takes_low : {C : Type 0} (bytes : C → List ℕ) (tip : ℕ) (xs : List CertifiedCommitment) (low : CertifiedCommitment) (old new : Certified C) → low.height ≡ 0 → TakesNote bytes tip xs old new → TakesNote bytes tip (xs ++ low ∷ []) old new
takes_low bytes tip xs low old new zero_is notes h c above =
    notes h c above
    ∙ ap (λ k. is_known bytes old h c || k) (sym (list_any-append (λ x. x.height == h && bytes_eq x.commitment c) xs (low ∷ []) ∙ (ap (λ q. is_among xs h c || ((q && bytes_eq low.commitment c) || false)) unlike ∙ or-false (is_among xs h c))))
  where
    unlike : (low.height == h) ≡ false
    unlike = grind (arith, nat_tests)
