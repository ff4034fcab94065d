-- What a store holds of a ledger once it was written, and what is left of both where it was lost.
use Rattle.std.proofs.Common.{◌≡◌, ℕ, ◌+◌, ◌<◌, ◌≤◌, ◌^◌, List, None, Option, Some, [], ◌∷◌, arith, get_or, inl, inr, length, refl, suc, subst, sym, zero, ◌⊎◌, ◌∙◌}
use Rattle.std.proofs.lemmas.Bool.{cases_eq, cases_lt, eq-eqb, le-ltb, lt-ltb, ne_eqb}
use Rattle.std.specs.List.{Contains}
use Rattle.mar_store.specs.Values.{LeavesValues, Values, no_values}
use Rattle.mar_ledger.specs.Books.{AreBooks, Books}
use Rattle.mar_ledger.specs.Ledger.{AreLedgers, HoldsLedger, IsLedger, LeavesLedger, Ledger, ledger_at, ledger_values, values_behind, written}
use Rattle.mar_ledger.specs.Writing.{LosesWriting}

above_all : (height : ℕ) (books : Books) (old : Values) (k : ℕ) → 17 < k → written height books old k ≡ old k
above_all height books old k above = rw (le-ltb k 16 (omega (arith, above)), ne_eqb k 16 (λ e. absurd (omega (arith, e, above))), ne_eqb k 17 (λ e. absurd (omega (arith, e, above)))) refl

-- no ledger has a key above the last
pub beyond : (l : Ledger) (k : ℕ) → 17 < k → ledger_values l k ≡ None
beyond l k above = by l.height
  where
    by : (h : Option ℕ) → values_behind h l.books k ≡ None
    by None = refl
    by (Some h) = above_all h l.books no_values k above

-- over what a ledger had
over_ledger : (height : ℕ) (books : Books) (old : Values) → ((k : ℕ) → 17 < k → old k ≡ None) → (k : ℕ) → written height books old k ≡ written height books no_values k
over_ledger height books old none k = elim (cases_lt 17 k) [
  | inl above ↦ above_all height books old k above ∙ none k above ∙ sym (above_all height books no_values k above)
  | inr within ↦ elim (cases_lt k 16) [
    | inl low ↦ rw (lt-ltb k 16 low) refl
    | inr high ↦ elim (cases_eq k 16) [
      | inl is ↦ rw (le-ltb k 16 high, eq-eqb k 16 is) refl
      | inr other ↦ let last : k ≡ 17 = omega (arith, within, high, other) in rw (le-ltb k 16 high, ne_eqb k 16 other, eq-eqb k 17 last) refl
    ]
  ]
]

pub is_ledger : (height : ℕ) (books : Books) → AreBooks books → books.rejected ≤ height + 1 → height < 2 ^ 64 → IsLedger (ledger_at height books)
is_ledger height books are few fits = record { books = are; rejected = few; fits = omega (arith, fits); first = λ none. absurd (different height none) }
  where
    different : (h : ℕ) → ◌≡◌ {A = Option ℕ} (Some h) None → ⊥
    different h e = cc

-- what was written over a ledger is the next one
pub holds_written : (height : ℕ) (books : Books) (l : Ledger) (old now : Values) → HoldsLedger old l → AreBooks books → books.rejected ≤ height + 1 → height < 2 ^ 64
    → ((k : ℕ) → now k ≡ written height books old k) → HoldsLedger now (ledger_at height books)
holds_written height books l old now holds are few fits is = record {
  is = is_ledger height books are few fits;
  values_are = λ k. is k ∙ over_ledger height books old (λ j above. holds.values_are j ∙ beyond l j above) k;
}

-- LOSSES

two : (a b v : Values) (k : ℕ) → k < 2 → get_or (a ∷ b ∷ []) k v ≡ v → (v ≡ a) ⊎ (v ≡ b)
two a b v zero below is = inl (sym is)
two a b v (suc zero) below is = inr (sym is)
two a b v (suc (suc k)) below is = absurd (omega (arith, below))

abbrev pub AreOneOf : (l new : Ledger) → List Ledger → Type 0
AreOneOf l new ledgers = (x : Ledger) → Contains ledgers x → (x ≡ l) ⊎ (x ≡ new)

first_or : (l new x : Ledger) (xs : List Ledger) → (x ≡ l) ⊎ (x ≡ new) → AreOneOf l new xs → AreOneOf l new (x ∷ xs)
first_or l new x xs is others y here = by here.0 here.1 here.2
  where
    by : (k : ℕ) → k < length (x ∷ xs) → get_or (x ∷ xs) k y ≡ y → (y ≡ l) ⊎ (y ≡ new)
    by zero below same = subst (λ (z : Ledger). (z ≡ l) ⊎ (z ≡ new)) same is
    by (suc k) below same = others y (k, omega (arith, below), same)

-- maps of which each is one of two ledgers'
named : (l new : Ledger) (a b : Values) → HoldsLedger a l → HoldsLedger b new → (left : List Values) → ((v : Values) → Contains left v → (v ≡ a) ⊎ (v ≡ b))
    → (ledgers : List Ledger) × AreLedgers left ledgers × AreOneOf l new ledgers
named l new a b holds_a holds_b [] are = ([], tt, λ x here. absurd (omega (arith, here.1)))
named l new a b holds_a holds_b (v ∷ left) are =
    let rest = named l new a b holds_a holds_b left (λ w here. are w (suc here.0, omega (arith, here.1), here.2)) in
    elim (are v (0, omega arith, refl)) [
      | inl is ↦ (l ∷ rest.0, (subst (λ (w : Values). HoldsLedger w l) (sym is) holds_a, rest.1), first_or l new l rest.0 (inl refl) rest.2)
      | inr is ↦ (new ∷ rest.0, (subst (λ (w : Values). HoldsLedger w new) (sym is) holds_b, rest.1), first_or l new new rest.0 (inr refl) rest.2)
    ]

-- the ledger as it was is left, and maybe the one that was to be written
pub leaves_ledger : (height : ℕ) (books : Books) (l : Ledger) (old : Values) (before left : List Values) → HoldsLedger old l → AreBooks books
    → books.rejected ≤ height + 1 → height < 2 ^ 64 → before ≡ old ∷ [] → LosesWriting height books old before left → LeavesLedger l (ledger_at height books) left
leaves_ledger height books l old before left holds are few fits durable loses = by left (subst (λ (vs : List Values). LeavesValues vs (loses.values ∷ []) left) durable loses.leaves)
  where
    new : Ledger
    new = ledger_at height books

    by : (left : List Values) → LeavesValues (old ∷ []) (loses.values ∷ []) left → LeavesLedger l new left
    by [] leaves = absurd (omega (arith, leaves.some))
    by (v ∷ vs) leaves =
        let rest = named l new old loses.values holds (holds_written height books l old loses.values holds are few fits loses.values_are) vs
        (λ w here. let at = leaves.within w (suc here.0, omega (arith, here.1), here.2) in two old loses.values w at.0 at.1 at.2) in record {
          others = rest.0;
          are = (subst (λ (w : Values). HoldsLedger w l) (sym leaves.synced) holds, rest.1);
          within = rest.2;
        }
