-- What a pile holds where luck picked, and what a call leaves that failed.
use Rattle.std.proofs.Common.{◌≡◌, ◌∙◌, ◌≤◌, ◌+◌, ◌-◌, ℕ, zero, suc, List, [], ◌∷◌, ◌++◌, Bool, true, false, Contains, cond, refl, sym, ap, map, take, drop, length, nat_lt, arith, append-nil}
use Rattle.std.proofs.lemmas.Bool.{or_left, ltb-true, lt-ltb}
use Rattle.std.proofs.lemmas.List.{take_all, length-map, length-take-le, take-append-drop}
use Rattle.std.proofs.lemmas.List.Elements.{Contains-append_right}
use Rattle.mar_store.specs.Kept.{At, EachHeightOnce, reopened_store}
use Rattle.mar_store.specs.Changes.{Fails, IsReopened, Left, left_of}
use Rattle.mar_store.specs.Luck.{is_lucky, kept_from, lucky_found}
use Rattle.mar_store.specs.Choices.{chosen, keeps_at, stays}
use Rattle.mar_store.specs.Entries.{kept_of, seen}
use Rattle.mar_store.specs.declared.choice.Choice.TheVariants.{Lucky}
use Rattle.mar_store.specs.declared.entry.Entry.{Entry}
use Rattle.mar_store.proofs.Lookups.{Contains-from_value, value_at-append_found}

-- WHAT LUCK PICKED

past_sure : (sure half j index : ℕ) → keeps_at (Lucky sure half) (sure + j) index ≡ is_lucky half j
past_sure sure half j index = rw (not_below (nat_lt (sure + j) sure) refl, rest) refl
  where
    not_below : (b : Bool) → nat_lt (sure + j) sure ≡ b → b ≡ false
    not_below true is = absurd (omega (arith, ltb-true (sure + j) sure is))
    not_below false is = refl

    rest : sure + j - sure ≡ j
    rest = omega arith

lucky_rest : {T : Type 0} (sure half j : ℕ) (es : List (Entry T)) → map seen (chosen (stays (Lucky sure half)) (sure + j) es) ≡ kept_from (is_lucky half) j (map seen es)
lucky_rest sure half j [] = refl
lucky_rest sure half j (e ∷ es) =
    let next : suc (sure + j) ≡ sure + suc j = omega arith in
    rw (past_sure sure half j e.index, next) (elim (is_lucky half j) as (λ b. map seen (cond b (e ∷ chosen (stays (Lucky sure half)) (sure + suc j) es) (chosen (stays (Lucky sure half)) (sure + suc j) es)) ≡ cond b (seen e ∷ kept_from (is_lucky half) (suc j) (map seen es)) (kept_from (is_lucky half) (suc j) (map seen es))) [
      | true ↦ ap (λ xs. seen e ∷ xs) (lucky_rest sure half (suc j) es)
      | false ↦ lucky_rest sure half (suc j) es
    ])

lucky_all : {T : Type 0} (sure half k n : ℕ) (es : List (Entry T)) → sure ≡ k + n → map seen (chosen (stays (Lucky sure half)) k es) ≡ take n (map seen es) ++ kept_from (is_lucky half) 0 (drop n (map seen es))
lucky_all {T} sure half k zero es is = let at : k ≡ sure + 0 = omega (arith, is) in rw at (lucky_rest sure half 0 es)
lucky_all sure half k (suc n) [] is = refl
lucky_all sure half k (suc n) (e ∷ es) is =
    rw (or_left (nat_lt k sure) (is_lucky half (k - sure)) (lt-ltb k sure (omega (arith, is)))) (ap (λ xs. seen e ∷ xs) (lucky_all sure half (suc k) n es (omega (arith, is))))

pub settled : {T : Type 0} (half n m : ℕ) (items new : List (Entry T)) → n ≤ length items → new ≡ chosen (stays (Lucky n half)) 0 items → m ≡ length new → kept_of new m ≡ reopened_store (lucky_found (is_lucky half) (left_of (kept_of items n)))
settled half n m items new within are all =
    let held : map seen new ≡ lucky_found (is_lucky half) (left_of (kept_of items n)) =
    ap (map seen) are ∙ (lucky_all n half 0 n items (omega arith) ∙ ap (λ k. take n (map seen items) ++ kept_from (is_lucky half) 0 (drop k (map seen items))) (sym (length-take-le n (map seen items) (rw length-map within)))) in
    let sure : take m (map seen new) ≡ map seen new = take_all m (map seen new) (rw length-map (omega (arith, all))) in
    rw (sure, held) refl

kept_within : {X : Type 0} (keeps : ℕ → Bool) (k : ℕ) (xs : List X) (x : X) → Contains (kept_from keeps k xs) x → Contains xs x
kept_within keeps k [] x has = has
kept_within {X} keeps k (y ∷ ys) x has = by (keeps k) has (kept_within keeps (suc k) ys x)
  where
    by : (b : Bool) → Contains (cond b (y ∷ kept_from keeps (suc k) ys) (kept_from keeps (suc k) ys)) x → (Contains (kept_from keeps (suc k) ys) x → Contains ys x) → Contains (y ∷ ys) x
    by true (zero, lt, e) more = (zero, omega arith, e)
    by true (suc i, lt, e) more = Contains-append_right (y ∷ []) ys x (more (i, omega arith, e))
    by false there more = Contains-append_right (y ∷ []) ys x (more there)

after_within : {X : Type 0} (keeps : ℕ → Bool) (bs xs : List X) (x : X) → Contains (bs ++ kept_from keeps 0 xs) x → Contains (bs ++ xs) x
after_within keeps [] xs x has = kept_within keeps 0 xs x has
after_within keeps (a ∷ bs) xs x (zero, lt, e) = (zero, omega arith, e)
after_within keeps (a ∷ bs) xs x (suc i, lt, e) = Contains-append_right (a ∷ []) (bs ++ xs) x (after_within keeps bs xs x (i, omega arith, e))

pub reopened : {T : Type 0} (keeps : ℕ → Bool) (items new : List (Entry T)) (n m : ℕ) → n ≤ length items → EachHeightOnce (map seen new) → kept_of new m ≡ reopened_store (lucky_found keeps (left_of (kept_of items n)))
    → IsReopened (left_of (kept_of items n)) (kept_of new m)
reopened keeps items new n m within once is =
    let held : map seen new ≡ lucky_found keeps (left_of (kept_of items n)) = ap (λ k. k.held) is in
    let whole : take n (map seen items) ++ drop (length (take n (map seen items))) (map seen items) ≡ map seen items =
    ap (λ k. take n (map seen items) ++ drop k (map seen items)) (length-take-le n (map seen items) (rw length-map within)) ∙ take-append-drop n (map seen items) in
    record {
      found = map seen new;
      found_may = record {
        with_sure = λ h v sure. rw held (value_at-append_found (take n (map seen items)) (kept_from keeps 0 (drop (length (take n (map seen items))) (map seen items))) h v sure);
        within_may = λ h v there. rw whole at (after_within keeps (take n (map seen items)) (drop (length (take n (map seen items))) (map seen items)) _ (rw held at (Contains-from_value (map seen new) h v there)));
        once = once;
      };
      is = is ∙ ap reopened_store (sym held);
    }

-- FAILURES

pub fails_still : {T : Type 0} (old left : Left (At T)) → left ≡ old → Fails old [] left
fails_still old left are = record { sure = ap (λ l. l.sure) are; may_kept = λ x there. rw are there; may = λ x there. rw append-nil (rw are at there) }

pub fails_same : {T : Type 0} (items new : List (Entry T)) (n m : ℕ) → new ≡ items → m ≡ n → Fails (left_of (kept_of items n)) [] (left_of (kept_of new m))
fails_same items new n m are same = fails_still (left_of (kept_of items n)) (left_of (kept_of new m)) (rw (are, same) refl)

-- where all entries are sure, each stays
pub sure_stay : {T : Type 0} (half n k : ℕ) (es : List (Entry T)) → k + length es ≤ n → chosen (stays (Lucky n half)) k es ≡ es
sure_stay half n k [] low = refl
sure_stay half n k (e ∷ es) low = rw (or_left (nat_lt k n) (is_lucky half (k - n)) (lt-ltb k n (omega (arith, low)))) (ap (λ l. e ∷ l) (sure_stay half n (suc k) es (omega (arith, low))))
