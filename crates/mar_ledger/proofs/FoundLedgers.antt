-- Which values are a ledger's, by what is read of them.
use Rattle.std.proofs.Common.{◌≡◌, ℕ, ◌+◌, ◌<◌, List, None, Option, Some, [], ◌∷◌, ap, ap₂, arith, get_or, inl, inr, length, refl, slice_set, suc, sum, sym, ◌∙◌, get_or-set_other}
use Rattle.std.proofs.lemmas.Grind.{get_or-set_at}
use Rattle.std.proofs.lemmas.Bool.{cases_eq, lt-ltb}
use Rattle.mar_store.specs.Values.{Values, no_values}
use Rattle.mar_ledger.specs.Books.{all_money}
use Rattle.mar_ledger.specs.Ledger.{HoldsLedger, IsForeign, Ledger, values_behind, written}

differs : (n : ℕ) → ◌≡◌ {A = Option ℕ} (Some n) None → ⊥
differs n e = cc

same_number : (m n : ℕ) → ◌≡◌ {A = Option ℕ} (Some m) (Some n) → m ≡ n
same_number m n e = cc

-- A ledger that has a value stands at a height.
record IsEntered (values : Values) (l : Ledger) : Type 0 where
  height : ℕ
  height_is : l.height ≡ Some height
  values_are : (k : ℕ) → values k ≡ written height l.books no_values k

entered_at : (values : Values) (l : Ledger) (key : ℕ) → HoldsLedger values l → (values key ≡ None → ⊥) → IsEntered values l
entered_at values l key holds some = by l.height refl
  where
    by : (h : Option ℕ) → l.height ≡ h → IsEntered values l
    by None is = absurd (some (holds.values_are key ∙ ap (λ o. values_behind o l.books key) is))
    by (Some h) is = record { height = h; height_is = is; values_are = λ k. holds.values_are k ∙ ap (λ o. values_behind o l.books k) is }

same_list : (xs ys : List ℕ) → length xs ≡ length ys → ((k : ℕ) → k < length xs → get_or xs k 0 ≡ get_or ys k 0) → xs ≡ ys
same_list [] [] long same = refl
same_list [] (y ∷ ys) long same = absurd (omega (arith, long))
same_list (x ∷ xs) [] long same = absurd (omega (arith, long))
same_list (x ∷ xs) (y ∷ ys) long same =
    ap₂ (λ (a : ℕ) (rest : List ℕ). a ∷ rest) (same 0 (omega arith)) (same_list xs ys (omega (arith, long)) (λ k below. same (suc k) (omega (arith, below))))

-- balances that don't hold all the money
pub foreign_sum : (values : Values) (balances : List ℕ) (rejected : ℕ) → values 17 ≡ Some rejected → length balances ≡ 16
    → ((k : ℕ) → k < 16 → values k ≡ Some (get_or balances k 0)) → (sum balances ≡ all_money → ⊥) → IsForeign values
foreign_sum values balances rejected rejected_is sixteen are less l holds =
    let is = entered_at values l 17 holds (λ none. differs _ (sym rejected_is ∙ none)) in
    less (ap sum (same_list balances l.books.balances (sixteen ∙ sym holds.is.books.sixteen)
    (λ k below. same_number _ _ (sym (are k (omega (arith, below, sixteen))) ∙ is.values_are k ∙ rw (lt-ltb k 16 (omega (arith, below, sixteen))) refl)))
    ∙ holds.is.books.whole)

-- one balance more was read
pub filled : (values : Values) (balances : List ℕ) (i balance : ℕ) → i < length balances → values i ≡ Some balance
    → ((k : ℕ) → k < i → values k ≡ Some (get_or balances k 0)) → (k : ℕ) → k < i + 1 → values k ≡ Some (get_or (slice_set balances i balance) k 0)
filled values balances i balance within is so_far k below = elim (cases_eq k i) [
  | inl same ↦ ap values same ∙ is ∙ ap Some (sym (get_or-set_at balances i k balance 0 same within))
  | inr other ↦ so_far k (omega (arith, below, other)) ∙ ap Some (sym (get_or-set_other balances i k balance 0 other))
]
