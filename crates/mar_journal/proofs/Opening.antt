-- How a journal begins.
use Rattle.std.proofs.Common.{List, [], ap, arith, length, subst, sym, ℕ, ◌++◌, ◌∙◌, ◌∷◌, ◌≡◌}
use Rattle.std.proofs.lemmas.List.{drop_all}
use Rattle.mar_journal.specs.Disk.{Elapses, Follows, Holds, LeavesOnly, Narrows, Only, Torn}
use Rattle.mar_journal.specs.Format.{IsNew, magic}
use Rattle.mar_journal.specs.Journal.{IsSettled}
use Rattle.mar_journal.proofs.Moments.{goes_on, stayed}

-- a new file with the magic and a closed gate
pub begun : {R D : Type 0} (spelled : R → List ℕ) (Valid : R → Type 0) (seen : D → List ℕ) (may_leave : D → List ℕ → Type 0) (records : List R) (end : ℕ) (disk : D) → records ≡ [] → end ≡ 4 → seen disk ≡ magic ++ 0 ∷ []
    → Only (seen disk) (may_leave disk) → IsSettled spelled Valid seen may_leave records end disk
begun spelled Valid seen may_leave records end disk none at is only = record {
  journal = record { batches = []; gate = 0; rest = []; shut = λ e. absurd (omega (arith, e)); good = tt; records_are = sym none; ends = at; file_is = is };
  only = only;
}

-- a new file while the magic and a closed gate are written to it
module _ {D : Type 0} (seen : D → List ℕ) (may_leave : D → List ℕ → Type 0) (moment : D → ℕ) (left_since : D → ℕ → List ℕ → Type 0) (only_now : (d : D) (c : List ℕ) → left_since d (moment d) c → may_leave d c) (old mid : D) (new : IsNew (seen old)) (only : Only (seen old) (may_leave old))
    (crash : Follows (Torn 0 5) (may_leave old) (may_leave mid)) (time : Elapses (moment old) (moment mid) (left_since old) (left_since mid) (may_leave mid)) where
  still_new : (c : List ℕ) → may_leave mid c → IsNew c
  still_new c now = let torn = crash c now in omega (arith, (torn.2).no_longer, ap length (only torn.0 torn.1), new)

  pub write_moments : LeavesOnly moment left_since old mid IsNew
  write_moments = goes_on moment left_since old old mid IsNew (may_leave mid) (stayed moment left_since may_leave only_now old IsNew (λ c now. subst IsNew (sym (only c now)) new)) time still_new

  pub sync_moments : (later : D) → Narrows (may_leave mid) (may_leave later) → Elapses (moment mid) (moment later) (left_since mid) (left_since later) (may_leave later) → LeavesOnly moment left_since old later IsNew
  sync_moments later narrows passes = goes_on moment left_since old mid later IsNew (may_leave later) write_moments passes (λ c now. still_new c (narrows c now))

  pub magic_written : Holds (seen old) 0 (magic ++ 0 ∷ []) (seen mid) → seen mid ≡ magic ++ 0 ∷ []
  magic_written written = written ∙ ap (λ l. (magic ++ 0 ∷ []) ++ l) (drop_all 5 (seen old) new)
