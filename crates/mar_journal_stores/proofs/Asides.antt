-- What was pruned stands aside until a ticket lets it go.
use Rattle.std.proofs.Common.{Bool, Contains, List, Some, [], ap, arith, cond, false, filter, fold, get_or, inl, inr, length, map, max, nat_le, nat_lt, not, refl, subst, suc, sym, take, true, zero, ℕ, ⊎_elim, ◌++◌, ◌+◌, ◌<◌, ◌∙◌, ◌∷◌, ◌≡◌, ◌≤◌}
use Rattle.std.proofs.lemmas.Bool.{le-leb, leb-true, lt-ltb, ltb-true, true≢false}
use Rattle.std.proofs.lemmas.List.{map-append, take_more}
use Rattle.std.proofs.lemmas.List.Sums.{fold-append}
use Rattle.std.proofs.lemmas.List.Elements.{filter-append}
use Rattle.std.specs.List.{AllByRecursion}
use Rattle.mar_store.specs.Changes.{Within, heights}
use Rattle.mar_store.specs.Entries.{AreUpto, seen}
use Rattle.mar_store.specs.Kept.{value_at}
use Rattle.mar_store.specs.Ranges.{Range, with_height}
use Rattle.mar_store.specs.declared.Entry.{Entry}
use Rattle.mar_store.proofs.Lookups.{Contains-from_value}
use Rattle.mar_store.proofs.Stores.{filter_pass, filter_within}
use Rattle.mar_journal_stores.specs.ArchiveStore.{LeavesAside, SetsAside, aside_after, left_after, left_may, ranges_with, within_right}

-- a front before both
pub within_both : {X : Type 0} (front xs ys : List X) → Within xs ys → Within (front ++ xs) (front ++ ys)
within_both [] xs ys within x has = within x has
within_both (y ∷ front) xs ys within x (zero, lt, e) = (zero, omega arith, e)
within_both (y ∷ front) xs ys within x (suc k, lt, e) = let more = within_both front xs ys within x (k, omega (arith, lt), e) in (suc more.0, omega (arith, more.1), more.2)

pub within_left : {X : Type 0} (xs ys : List X) → Within xs (xs ++ ys)
within_left [] ys x (k, lt, e) = absurd (omega (arith, lt))
within_left (y ∷ xs) ys x (zero, lt, e) = (zero, omega arith, e)
within_left (y ∷ xs) ys x (suc k, lt, e) = let more = within_left xs ys x (k, omega (arith, lt), e) in (suc more.0, omega (arith, more.1), more.2)

-- the same behind both
pub within_first : {X : Type 0} (xs ys rest : List X) → Within xs ys → Within (xs ++ rest) (ys ++ rest)
within_first [] ys rest within x has = within_right ys rest x has
within_first (z ∷ xs) ys rest within x (zero, lt, e) = within_left ys rest x (within x (zero, omega arith, e))
within_first (z ∷ xs) ys rest within x (suc k, lt, e) = within_first xs ys rest (λ w has. within w (suc has.0, omega (arith, has.1), has.2)) x (k, omega (arith, lt), e)

-- what is held may be left
pub is_held : {T : Type 0} (gone items : List (Entry T)) (h : ℕ) (v : T) → value_at (map seen items) h ≡ Some v → Contains (left_may gone items) (record { height = h; value = v })
is_held gone items h v is = within_right (map seen gone) (map seen items) _ (Contains-from_value (map seen items) h v is)

pub upto_later : {T : Type 0} (accepted later : ℕ) (gone : List (Entry T)) → accepted ≤ later → AreUpto accepted gone → AreUpto later gone
upto_later accepted later [] up all = tt
upto_later accepted later (e ∷ gone) up all = (le-leb e.number later (omega (arith, up, leb-true e.number accepted all.0)), upto_later accepted later gone up all.1)

-- a ticket with the greatest number lets all of it go
pub aside_upto : {T : Type 0} (accepted t : ℕ) (gone : List (Entry T)) → accepted ≤ t → AreUpto accepted gone → AllByRecursion (λ e. e.number ≤ t) gone
aside_upto accepted t [] up all = tt
aside_upto accepted t (e ∷ gone) up all = (omega (arith, up, leb-true e.number accepted all.0), aside_upto accepted t gone up all.1)

-- what passes one test and then another is in the list of what passes a third, where that follows
narrower : {T : Type 0} (p q : Entry T → Bool) (gone : List (Entry T)) → ((e : Entry T) → p e ≡ true → q e ≡ true) → Within (map seen (filter p gone)) (map seen (filter q gone))
narrower p q [] leads x has = has
narrower {T} p q (e ∷ gone) leads x has = by (p e) (q e) (leads e) (narrower p q gone leads) has
  where
    by : (b c : Bool) → (b ≡ true → c ≡ true) → Within (map seen (filter p gone)) (map seen (filter q gone)) → Contains (map seen (cond b (e ∷ filter p gone) (filter p gone))) x → Contains (map seen (cond c (e ∷ filter q gone) (filter q gone))) x
    by true true leads_here within (zero, lt, is) = (zero, omega arith, is)
    by true true leads_here within (suc k, lt, is) = let more = within x (k, omega (arith, lt), is) in (suc more.0, omega (arith, more.1), more.2)
    by true false leads_here within here = absurd (true≢false (sym (leads_here refl)))
    by false true leads_here within here = let more = within x here in (suc more.0, omega (arith, more.1), more.2)
    by false false leads_here within here = within x here

filter_twice : {T : Type 0} (p q r : Entry T → Bool) (gone : List (Entry T)) → ((e : Entry T) → p e ≡ true → (q e ≡ true) × (r e ≡ true)) → Within (map seen (filter p gone)) (map seen (filter q (filter r gone)))
filter_twice p q r [] leads x has = has
filter_twice {T} p q r (e ∷ gone) leads x has = by (p e) (q e) (r e) refl (leads e) (filter_twice p q r gone leads) has
  where
    by : (a b c : Bool) → q e ≡ b → (a ≡ true → (b ≡ true) × (c ≡ true)) → Within (map seen (filter p gone)) (map seen (filter q (filter r gone))) → Contains (map seen (cond a (e ∷ filter p gone) (filter p gone))) x
        → Contains (map seen (filter q (cond c (e ∷ filter r gone) (filter r gone)))) x
    by true true true is leads_here within (zero, lt, same) = rw is (zero, omega arith, same)
    by true true true is leads_here within (suc k, lt, same) = let more = within x (k, omega (arith, lt), same) in rw is (suc more.0, omega (arith, more.1), more.2)
    by true false c is leads_here within here = absurd (true≢false (sym (leads_here refl).0))
    by true true false is leads_here within here = absurd (true≢false (sym (leads_here refl).1))
    by false true true is leads_here within here = let more = within x here in rw is (suc more.0, omega (arith, more.1), more.2)
    by false false true is leads_here within here = rw is (within x here)
    by false b false is leads_here within here = within x here

all_filter : {X : Type 0} (P : X → Type 0) (p : X → Bool) (xs : List X) → AllByRecursion P xs → AllByRecursion P (filter p xs)
all_filter P p [] all = tt
all_filter {X} P p (x ∷ xs) all = by (p x) (all_filter P p xs all.1)
  where
    by : (b : Bool) → AllByRecursion P (filter p xs) → AllByRecursion P (cond b (x ∷ filter p xs) (filter p xs))
    by true rest = (all.0, rest)
    by false rest = rest

module _ {T : Type 0} (t : ℕ) (gone aside items : List (Entry T)) (leaves : LeavesAside t gone aside) where
  pub left_less : Within (left_may aside items) (left_may gone items)
  left_less = within_first (map seen aside) (map seen gone) (map seen items)
      (⊎_elim (λ same. subst (λ l. Within (map seen l) (map seen gone)) (sym same) (λ x has. has)) (λ less. subst (λ l. Within (map seen l) (map seen gone)) (sym less) (filter_within (λ e. nat_lt t e.number) gone)) leaves)

  -- what was pruned behind the ticket stays aside
  pub left_before : Within (left_after gone items t) (left_may aside items)
  left_before = within_first (map seen (aside_after t gone)) (map seen aside) (map seen items)
      (⊎_elim (λ same. subst (λ l. Within (map seen (aside_after t gone)) (map seen l)) (sym same) (filter_within (λ e. nat_lt t e.number) gone)) (λ less. subst (λ l. Within (map seen (aside_after t gone)) (map seen l)) (sym less) (λ x has. has)) leaves)

  pub left_both : (s : ℕ) → Within (left_after gone items (max s t)) (left_after aside items s)
  left_both s = within_first (map seen (aside_after (max s t) gone)) (map seen (aside_after s aside)) (map seen items)
      (⊎_elim
      (λ same. subst (λ l. Within (map seen (aside_after (max s t) gone)) (map seen (aside_after s l))) (sym same) (narrower (λ e. nat_lt (max s t) e.number) (λ e. nat_lt s e.number) gone (λ e is. lt-ltb s e.number (omega (arith, ltb-true (max s t) e.number is)))))
      (λ less. subst (λ l. Within (map seen (aside_after (max s t) gone)) (map seen (aside_after s l))) (sym less) (filter_twice (λ e. nat_lt (max s t) e.number) (λ e. nat_lt s e.number) (λ e. nat_lt t e.number) gone
      (λ e is. (lt-ltb s e.number (omega (arith, ltb-true (max s t) e.number is)), lt-ltb t e.number (omega (arith, ltb-true (max s t) e.number is))))))
      leaves)

  pub upto_less : (accepted : ℕ) → AreUpto accepted gone → AreUpto accepted aside
  upto_less accepted all = ⊎_elim (λ same. subst (AreUpto accepted) (sym same) all) (λ less. subst (AreUpto accepted) (sym less) (all_filter (λ e. nat_le e.number accepted ≡ true) (λ e. nat_lt t e.number) gone all)) leaves

module _ {T : Type 0} (min number : ℕ) (items gone aside : List (Entry T)) (sets : SetsAside min number items gone aside) where
  abbrev below : List (Entry T)
  below = filter (λ e. not (nat_le min e.index)) items

  pub aside_seen : map seen aside ≡ map seen gone ++ map seen below
  aside_seen = ap (map seen) sets.behind ∙ map-append seen gone sets.more ∙ ap (λ l. map seen gone ++ l) sets.taken

  -- no ticket below that number lets it go
  pub aside_stays : (t : ℕ) → t < number → map seen (aside_after t aside) ≡ map seen (aside_after t gone) ++ map seen below
  aside_stays t lt =
      ap (λ l. map seen (aside_after t l)) sets.behind ∙ ap (map seen) (filter-append (λ e. nat_lt t e.number) gone sets.more) ∙ map-append seen (aside_after t gone) (aside_after t sets.more)
      ∙ ap (λ l. map seen (aside_after t gone) ++ map seen l) (filter_pass (λ e. nat_lt t e.number) sets.more (passes sets.more sets.numbered)) ∙ ap (λ l. map seen (aside_after t gone) ++ l) sets.taken
    where
      passes : (more : List (Entry T)) → AllByRecursion (λ e. e.number ≡ number) more → AllByRecursion (λ e. nat_lt t e.number ≡ true) more
      passes [] all = tt
      passes (e ∷ more) all = (lt-ltb t e.number (omega (arith, all.0, lt)), passes more all.1)

  pub upto_set : (accepted later : ℕ) → accepted ≤ later → number ≤ later → AreUpto accepted gone → AreUpto later aside
  upto_set accepted later up small all = subst (AreUpto later) (sym sets.behind) (both gone sets.more (upto_later accepted later gone up all) sets.numbered)
    where
      both : (xs more : List (Entry T)) → AreUpto later xs → AllByRecursion (λ e. e.number ≡ number) more → AreUpto later (xs ++ more)
      both [] [] first second = tt
      both [] (e ∷ more) first second = (le-leb e.number later (omega (arith, second.0, small)), both [] more tt second.1)
      both (e ∷ xs) more first second = (first.0, both xs more first.1 second)

-- Of what was set aside a ticket lets go what was so before it, and nothing else.
pub aside_parted : {T : Type 0} (t : ℕ) (before later : List (Entry T)) → AllByRecursion (λ e. e.number ≤ t) before → AllByRecursion (λ e. t < e.number) later → aside_after t (before ++ later) ≡ later
aside_parted t [] [] old new = refl
aside_parted t [] (e ∷ later) old new = rw (lt-ltb t e.number new.0) (ap (λ l. e ∷ l) (aside_parted t [] later tt new.1))
aside_parted {T} t (e ∷ before) later old new = by (nat_lt t e.number) refl (aside_parted t before later old.1 new)
  where
    by : (b : Bool) → nat_lt t e.number ≡ b → aside_after t (before ++ later) ≡ later → cond b (e ∷ aside_after t (before ++ later)) (aside_after t (before ++ later)) ≡ later
    by true is rest = absurd (omega (arith, ltb-true t e.number is, old.0))
    by false is rest = rest

-- one more of what was set aside is gone through, where its index is inserted unless the ticket lets it go
pub one_inserted : {T : Type 0} (t : ℕ) (gone : List (Entry T)) (i : ℕ) (e d : Entry T) (b : Bool) (held old new : List Range) → i < length gone → get_or gone i d ≡ e → b ≡ nat_lt t e.number → old ≡ ranges_with held t (take i gone)
    → new ≡ cond b (with_height e.index old) old → new ≡ ranges_with held t (take (i + 1) gone)
one_inserted {T} t gone i e d b held old new within is test was step =
    by b test step ∙ sym (fold-append (λ rs h. with_height h rs) held (heights (map seen (aside_after t (take i gone)))) (heights (map seen (aside_after t (e ∷ [])))))
    ∙ ap (fold (λ rs h. with_height h rs) held) (sym (map-append (λ x. x.height) (map seen (aside_after t (take i gone))) (map seen (aside_after t (e ∷ []))))
    ∙ ap heights (sym (map-append seen (aside_after t (take i gone)) (aside_after t (e ∷ [])))) ∙ ap (λ l. heights (map seen l)) (sym (filter-append (λ x. nat_lt t x.number) (take i gone) (e ∷ [])) ∙ ap (aside_after t) (sym (take_more gone i d within ∙ ap (λ y. take i gone ++ y ∷ []) is))))
  where
    by : (c : Bool) → c ≡ nat_lt t e.number → new ≡ cond c (with_height e.index old) old → new ≡ fold (λ rs h. with_height h rs) (ranges_with held t (take i gone)) (heights (map seen (aside_after t (e ∷ []))))
    by true here step_is = step_is ∙ ap (with_height e.index) was ∙ ap (λ c. fold (λ rs h. with_height h rs) (ranges_with held t (take i gone)) (heights (map seen (cond c (e ∷ []) [])))) here
    by false here step_is = step_is ∙ was ∙ ap (λ c. fold (λ rs h. with_height h rs) (ranges_with held t (take i gone)) (heights (map seen (cond c (e ∷ []) [])))) here
