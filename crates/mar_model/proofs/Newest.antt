-- The newest entry at or below a height, by the ranges of the heights.
use Rattle.std.proofs.Common.{◌≡◌, ◌⊎◌, inl, inr, ◌+◌, ◌<◌, ◌≤◌, ℕ, zero, suc, min, List, [], ◌∷◌, fold, Bool, true, false, nat_le, if◌then◌else◌, Option, Some, None, option_map, Contains, refl, sym, ◌∙◌, ap, subst, arith, leb-true, leb-false}
use Rattle.std.specs.List.{AllByRecursion}
use Rattle.std.proofs.Math.ListN.{get_or-map}
use Rattle.std.proofs.lemmas.List.{length-map}
use Rattle.mar_types.specs.Round.{Round}
use Rattle.mar_cert.specs.Finalization.{Finalization}
use Rattle.mar_store.specs.Changes.{heights}
use Rattle.mar_store.specs.Kept.{At, EachHeightOnce, higher_of, newest_upto, value_at}
use Rattle.mar_store.specs.Ranges.{Range, ranges}
use Rattle.mar_store.proofs.Lookups.{AllByRecursion-contains, AllByRecursion-weaker, value_at-from_contains}
use Rattle.mar_store.proofs.NewestUpto.{newest_upto-is}
use Rattle.mar_store.proofs.RangeLemmas.{IsInRanges}
use Rattle.mar_store.proofs.RangeMembers.{AscendFrom, bound_of, ranges-ascend, ranges-has, ranges-members}
use Rattle.mar_model.specs.Stored.{entry_at}
use Rattle.mar_model.specs.Newest.{upto, upto_in}

-- IN RANGES

-- the greatest of these heights at or below this one
pub record IsGreatest (rs : List Range) (h k : ℕ) : Type 0 where
  pub inside : IsInRanges rs k
  pub low : k ≤ h
  pub greatest : (j : ℕ) → IsInRanges rs j → j ≤ h → j ≤ k

-- what was found before, where the ranges have none; else the greatest that they have
abbrev Found : List Range → ℕ → Option ℕ → Option ℕ → Type 0
Found rs h found now = (now ≡ found) × ((j : ℕ) → IsInRanges rs j → j ≤ h → ⊥) ⊎ (k : ℕ) × (now ≡ Some k) × IsGreatest rs h k

upto_from : (low : ℕ) (rs : List Range) (h : ℕ) (found : Option ℕ) → AscendFrom low rs → Found rs h found (fold (λ o r. upto_in o r h) found rs)
upto_from low [] h found up = inl (refl, λ j inside under. inside)
upto_from low (r ∷ rs) h found up = by (nat_le r.from h) refl (λ o. upto_from (r.to + 2) rs h o up.2)
  where
    by : (b : Bool) → nat_le r.from h ≡ b → ((o : Option ℕ) → Found rs h o (fold (λ p q. upto_in p q h) o rs)) → Found (r ∷ rs) h found (fold (λ p q. upto_in p q h) (if b then Some (min r.to h) else found) rs)
    by true is later = here (later (Some (min r.to h)))
      where
        from : r.from ≤ h
        from = leb-true r.from h is

        here : Found rs h (Some (min r.to h)) (fold (λ p q. upto_in p q h) (Some (min r.to h)) rs) → Found (r ∷ rs) h found (fold (λ p q. upto_in p q h) (Some (min r.to h)) rs)
        here (inl (same, none)) = inr (
          min r.to h,
          same,
          record {
            inside = inl ((let a : r.from ≤ r.to = up.1 in omega (arith, from)), omega arith);
            low = omega arith;
            greatest = λ j inside under. each j inside under;
          },
        )
          where
            each : (j : ℕ) → IsInRanges (r ∷ rs) j → j ≤ h → j ≤ min r.to h
            each j (inl in_first) under = let a : j ≤ r.to = in_first.1 in omega arith
            each j (inr in_rest) under = absurd (none j in_rest under)
        here (inr (k, some, is)) = inr (
          k,
          some,
          record {
            inside = inr is.inside;
            low = is.low;
            greatest = λ j inside under. each j inside under;
          },
        )
          where
            each : (j : ℕ) → IsInRanges (r ∷ rs) j → j ≤ h → j ≤ k
            each j (inl in_first) under = let a : j ≤ r.to = in_first.1 in let b : r.to + 2 ≤ k = bound_of (r.to + 2) k rs up.2 is.inside in omega arith
            each j (inr in_rest) under = is.greatest j in_rest under
    by false is later = above (later found)
      where
        below : h < r.from
        below = leb-false r.from h is

        not_first : (j : ℕ) → r.from ≤ j → j ≤ h → ⊥
        not_first j from under = omega (arith, below)

        above : Found rs h found (fold (λ p q. upto_in p q h) found rs) → Found (r ∷ rs) h found (fold (λ p q. upto_in p q h) found rs)
        above (inl (same, none)) = inl (same, λ j inside under. each j inside under)
          where
            each : (j : ℕ) → IsInRanges (r ∷ rs) j → j ≤ h → ⊥
            each j (inl in_first) under = not_first j in_first.0 under
            each j (inr in_rest) under = none j in_rest under
        above (inr (k, some, greatest)) = inr (
          k,
          some,
          record {
            inside = inr greatest.inside;
            low = greatest.low;
            greatest = λ j inside under. each j inside under;
          },
        )
          where
            each : (j : ℕ) → IsInRanges (r ∷ rs) j → j ≤ h → j ≤ k
            each j (inl in_first) under = absurd (not_first j in_first.0 under)
            each j (inr in_rest) under = greatest.greatest j in_rest under

-- AMONG ENTRIES

-- no entry at or below this height is higher
abbrev IsHighest : {T : Type 0} → List (At T) → ℕ → Option (At T) → Type 0
IsHighest xs h None = AllByRecursion (λ y. y.height ≤ h → ⊥) xs
IsHighest xs h (Some x) = AllByRecursion (λ y. y.height ≤ h → y.height ≤ x.height) xs

newest_upto-highest : {T : Type 0} (xs : List (At T)) (h : ℕ) → IsHighest xs h (newest_upto xs h)
newest_upto-highest [] h = tt
newest_upto-highest {T = T} (x ∷ xs) h = by (nat_le x.height h) refl (newest_upto xs h) (newest_upto-highest xs h)
  where
    inside : (y : At T) (b : Bool) → nat_le x.height y.height ≡ b → AllByRecursion (λ z. z.height ≤ h → z.height ≤ y.height) xs → IsHighest (x ∷ xs) h (if b then Some y else Some x)
    inside y true is others = (λ low. leb-true x.height y.height is, others)
    inside y false is others = (λ low. omega arith, AllByRecursion-weaker (λ (z : At T). z.height ≤ h → z.height ≤ y.height) (λ z. z.height ≤ h → z.height ≤ x.height) (λ z each low. (let a : z.height ≤ y.height = each low in let b : y.height < x.height = leb-false x.height y.height is in omega arith)) xs others)

    by : (b : Bool) → nat_le x.height h ≡ b → (o : Option (At T)) → IsHighest xs h o → IsHighest (x ∷ xs) h (if b then higher_of x o else o)
    by true is None none = (λ low. omega arith, AllByRecursion-weaker (λ (z : At T). z.height ≤ h → ⊥) (λ z. z.height ≤ h → z.height ≤ x.height) (λ z each low. absurd (each low)) xs none)
    by true is (Some y) others = inside y (nat_le x.height y.height) refl others
    by false is None none = (λ low. (let a : h < x.height = leb-false x.height h is in omega arith), none)
    by false is (Some y) others = (λ low. absurd (let a : h < x.height = leb-false x.height h is in omega arith), others)

pub contains_height : {T : Type 0} (xs : List (At T)) (x : At T) → Contains xs x → Contains (heights xs) x.height
contains_height xs x has = (has.0, rw length-map has.1, get_or-map (λ y. y.height) xs has.0 x ∙ ap (λ y. y.height) has.2)

-- some entry stands at a height of the list
pub entry_of : {T : Type 0} (xs : List (At T)) (k : ℕ) → Contains (heights xs) k → (x : At T) × Contains xs x × (x.height ≡ k)
entry_of [] k (i, lt, is) = absurd (omega arith)
entry_of (x ∷ xs) k (zero, lt, is) = (x, (zero, omega arith, refl), is)
entry_of (x ∷ xs) k (suc i, lt, is) = let found = entry_of xs k (i, omega arith, is) in (found.0, (suc found.1.0, (let low = found.1.1 in omega arith), found.1.2), found.2)

-- the entry at the greatest height of the ranges is the newest
pub newest_at : {T : Type 0} (xs : List (At T)) (h : ℕ) → EachHeightOnce xs → entry_at xs (upto (ranges (heights xs)) h) ≡ newest_upto xs h
newest_at {T = T} xs h once = by (upto_from 0 (ranges (heights xs)) h None (ranges-ascend (heights xs))) (newest_upto xs h) refl
  where
    by : Found (ranges (heights xs)) h None (upto (ranges (heights xs)) h) → (o : Option (At T)) → newest_upto xs h ≡ o → entry_at xs (upto (ranges (heights xs)) h) ≡ newest_upto xs h
    by (inl (none, lacks)) None is = ap (entry_at xs) none ∙ sym is
    by (inl (none, lacks)) (Some x) is = absurd (let found = newest_upto-is xs h x is in lacks x.height (ranges-has (heights xs) x.height (contains_height xs x found.0)) found.1)
    by (inr (k, some, greatest)) None is = absurd (let found = entry_of xs k (ranges-members (heights xs) k greatest.inside) in AllByRecursion-contains (λ (y : At T). y.height ≤ h → ⊥) xs found.0 (subst (IsHighest xs h) is (newest_upto-highest xs h)) found.1 (let at : found.0.height ≡ k = found.2 in let low : k ≤ h = greatest.low in omega arith))
    by (inr (k, some, greatest)) (Some x) is =
        let there = newest_upto-is xs h x is in
        let found = entry_of xs k (ranges-members (heights xs) k greatest.inside) in
        let above : found.0.height ≤ x.height = AllByRecursion-contains (λ (y : At T). y.height ≤ h → y.height ≤ x.height) xs found.0 (subst (IsHighest xs h) is (newest_upto-highest xs h)) found.1 (let at : found.0.height ≡ k = found.2 in let low : k ≤ h = greatest.low in omega arith) in
        let under : x.height ≤ k = greatest.greatest x.height (ranges-has (heights xs) x.height (contains_height xs x there.0)) there.1 in
        let at : found.0.height ≡ k = found.2 in
        let same : x.height ≡ k = omega arith in
        ap (entry_at xs) (some ∙ ap Some (sym same)) ∙ (ap (λ o. option_map (λ v. record { height = x.height; value = v }) o) (value_at-from_contains xs x once there.0) ∙ sym is)

-- its round
pub newest_round : (certs : List (At Finalization)) (h : ℕ) (o : Option Finalization) (k : ℕ) → EachHeightOnce certs → upto (ranges (heights certs)) h ≡ Some k → o ≡ value_at certs k → option_map (λ (f : Finalization). f.round) o ≡ option_map (λ (x : At Finalization). x.value.round) (newest_upto certs h)
newest_round certs h o k once some found = by o found ∙ (ap (λ p. option_map (λ (x : At Finalization). x.value.round) (entry_at certs p)) (sym some) ∙ ap (λ p. option_map (λ (x : At Finalization). x.value.round) p) (newest_at certs h once))
  where
    by : (p : Option Finalization) → p ≡ value_at certs k → option_map (λ (f : Finalization). f.round) p ≡ option_map (λ (x : At Finalization). x.value.round) (entry_at certs (Some k))
    by p is = each p ∙ ap (λ q. option_map (λ (x : At Finalization). x.value.round) (option_map (λ v. record { height = k; value = v }) q)) is
      where
        each : (q : Option Finalization) → option_map (λ (f : Finalization). f.round) q ≡ option_map (λ (x : At Finalization). x.value.round) (option_map (λ v. record { height = k; value = v }) q)
        each None = refl
        each (Some f) = refl

pub no_newest_round : (certs : List (At Finalization)) (h : ℕ) → EachHeightOnce certs → upto (ranges (heights certs)) h ≡ None → ◌≡◌ {A = Option Round} None (option_map (λ (x : At Finalization). x.value.round) (newest_upto certs h))
no_newest_round certs h once none = ap (λ p. option_map (λ (x : At Finalization). x.value.round) (entry_at certs p)) (sym none) ∙ ap (λ p. option_map (λ (x : At Finalization). x.value.round) p) (newest_at certs h once)
