-- When a snapshot is taken of a ledger.
use Rattle.std.proofs.Common.{◌≡◌, ℕ, ◌+◌, ◌<◌, ◌≤◌, ◌^◌, List, None, Option, Some, ap, arith, refl, subst, sum, sym, ◌∙◌}
use Rattle.std.proofs.lemmas.Bool.{eq-eqb, ne_eqb}
use Rattle.mar_cert.specs.Block.{Block}
use Rattle.mar_cert.specs.Finalization.{Finalization}
use Rattle.mar_cert.specs.MockScheme.{IsFinalization}
use Rattle.mar_ledger.specs.Books.{AreBooks, Books, all_money}
use Rattle.mar_ledger.specs.Ledger.{IsLedger, Ledger, ledger_at, next_of}
use Rattle.mar_statesync.specs.Snapshots.{IsSnapshot, IsTaken, Snapshot, taken_at, taken_behind}
use Rattle.mar_statesync.proofs.Spelled.{numbers_fit}

-- of one that has entered nothing
pub none_taken : (l : Ledger) (f : Finalization) (above : ℕ) → l.height ≡ None → taken_at l f above ≡ None
none_taken l f above none = ap (λ o. taken_behind o l.books f above) none

-- of a ledger at this height
module _ (l : Ledger) (f : Finalization) (h above : ℕ) (height : l.height ≡ Some h) where
  abbrev made : Snapshot
  made = record { height = h; books = l.books; finalization = f }

  pub made_of : (s : Snapshot) (books : Books) → books ≡ l.books → s ≡ record { height = h; books = books; finalization = f } → s ≡ made
  made_of s books same is = is ∙ ap (λ (b : Books). with_books b) same
    where
      with_books : Books → Snapshot
      with_books b = record { height = h; books = b; finalization = f }

  pub taken : (s : Snapshot) → above ≡ h + 1 → s ≡ made → taken_at l f above ≡ Some s
  taken s next is =
      ap (λ o. taken_behind o l.books f above) height ∙ rw (eq-eqb above (h + 1) next) (ap (λ (t : Snapshot). Some t) (sym is))

  pub not_taken : (above ≡ h + 1 → ⊥) → taken_at l f above ≡ None
  not_taken other = ap (λ o. taken_behind o l.books f above) height ∙ rw (ne_eqb above (h + 1) other) refl

  abbrev at : Option ℕ → Ledger
  at o = record { height = o; books = l.books }

  pub is_taken : (s : Snapshot) (b : Block) → b.height ≡ h + 1 → f.payload ≡ b.digest → s ≡ made → IsTaken l b s
  is_taken s b next named is = subst (IsTaken l b) (sym is) (record { of_ledger = ap at height; next = next; named = named })

  pub few : IsLedger l → l.books.rejected ≤ h + 1
  few is = subst (λ o. l.books.rejected ≤ next_of o) height is.rejected

  pub is_snapshot : (s : Snapshot) → IsLedger l → l.books.rejected < 2 ^ 64 → s ≡ made → (n : ℕ) → IsFinalization n f → IsSnapshot n s
  is_snapshot s is rejected_fits same n finalization =
      let fits = subst (λ o. next_of o ≤ 2 ^ 64) height is.fits in
      subst (IsSnapshot n) (sym same) (record {
        state = record {
          height_fits = omega (arith, fits);
          rejected_fits = rejected_fits;
          balances_fit = numbers_fit l.books.balances all_money (omega (arith, is.books.whole)) (omega arith);
          are = is.books;
          rejected = few is;
        };
        finalization = finalization;
      })
