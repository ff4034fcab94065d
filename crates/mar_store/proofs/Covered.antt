-- What the ticket of a number covers of entries whose numbers ascend.
use Rattle.std.proofs.Common.{◌≡◌, ◌<◌, ◌≤◌, ◌+◌, ℕ, zero, suc, List, [], ◌∷◌, ◌++◌, Bool, true, false, refl, ap, take, drop, length, get_or, nat_le, nat_lt, arith, leb-true}
use Rattle.std.specs.Prelude.{filter, ◌==◌}
use Rattle.std.specs.List.{AllByRecursion}
use Rattle.std.proofs.lemmas.Bool.{or_parts, or_from, ltb-false, ltb-true}
use Rattle.mar_store.specs.Entries.{Ascend, is_covered}
use Rattle.mar_store.specs.Tickets.{last_number}
use Rattle.mar_store.specs.declared.entry.Entry.{Entry}
use Rattle.mar_store.proofs.Lookups.{AllByRecursion-push}

not_less : (a b t : ℕ) → nat_lt a t ≡ false → nat_le a b ≡ true → nat_lt b t ≡ false
not_less a b t low up = by (nat_lt b t) refl
  where
    by : (r : Bool) → nat_lt b t ≡ r → r ≡ false
    by true is = absurd (omega (arith, ltb-false a t low, leb-true a b up, ltb-true b t is))
    by false is = refl

none_later : {T : Type 0} (t : ℕ) (e : Entry T) (es : List (Entry T)) → is_covered t e ≡ false → AllByRecursion (λ f. nat_le e.number f.number ≡ true) es → filter (is_covered t) es ≡ []
none_later t e [] other up = refl
none_later t e (f ∷ fs) other up =
    let parts = or_parts (nat_lt e.number t) (t == last_number) other in
    rw (or_from (nat_lt f.number t) (t == last_number) (not_less e.number f.number t parts.0 up.0) parts.1) (none_later t e fs other up.1)

pub none_after : {T : Type 0} (t : ℕ) (items : List (Entry T)) (i : ℕ) (d : Entry T) → Ascend items → i < length items → is_covered t (get_or items i d) ≡ false → filter (is_covered t) (drop i items) ≡ []
none_after t [] i d up lt other = absurd (omega arith)
none_after t (e ∷ es) zero d up lt other = rw other (none_later t e es other up.0)
none_after t (e ∷ es) (suc i) d up lt other = none_after t es i d up.1 (omega arith) other

drop_take_more : {X : Type 0} (xs : List X) (n i : ℕ) (d : X) → n ≤ i → i < length xs → drop n (take (suc i) xs) ≡ drop n (take i xs) ++ get_or xs i d ∷ []
drop_take_more [] n i d le lt = absurd (omega arith)
drop_take_more (x ∷ xs) zero zero d le lt = refl
drop_take_more (x ∷ xs) (suc n) zero d le lt = absurd (omega arith)
drop_take_more (x ∷ xs) zero (suc i) d le lt = ap (λ ys. x ∷ ys) (drop_take_more xs zero i d (omega arith) (omega arith))
drop_take_more (x ∷ xs) (suc n) (suc i) d le lt = drop_take_more xs n i d (omega arith) (omega arith)

pub covered_more : {T : Type 0} (t : ℕ) (items : List (Entry T)) (n i : ℕ) (d : Entry T) → n ≤ i → i < length items → is_covered t (get_or items i d) ≡ true → AllByRecursion (λ e. is_covered t e ≡ true) (drop n (take i items))
    → AllByRecursion (λ e. is_covered t e ≡ true) (drop n (take (i + 1) items))
covered_more t items n i d le lt is all = let same : i + 1 ≡ suc i = omega arith in
    rw (same, drop_take_more items n i d le lt) (AllByRecursion-push (λ e. is_covered t e ≡ true) (drop n (take i items)) (get_or items i d) all is)
