-- Records that are spelled and read one by one.
use Rattle.std.proofs.Common.{List, [], ap, append_assoc, arith, get_or, length, length-append, subst, sym, take, ℕ, ◌++◌, ◌+◌, ◌<◌, ◌∙◌, ◌∷◌, ◌≡◌, ◌≤◌, ◌^◌}
use Rattle.std.proofs.lemmas.List.{append-nil, nil_from_length, take_more}
use Rattle.std.specs.List.{AllByRecursion}
use Rattle.mar_journal.specs.Format.{IsBatch, body}

body_push : {R : Type 0} (spelled : R → List ℕ) (rs : List R) (s : R) → body spelled (rs ++ s ∷ []) ≡ body spelled rs ++ spelled s
body_push spelled [] s = append-nil (spelled s)
body_push spelled (q ∷ rs) s = ap (λ l. spelled q ++ l) (body_push spelled rs s) ∙ sym (append_assoc (spelled q) (body spelled rs) (spelled s))

-- one record more is spelled
pub one_spelled : {R : Type 0} (spelled : R → List ℕ) (records : List R) (i : ℕ) (r : R) (old new : List ℕ) → i < length records → r ≡ get_or records i r → old ≡ body spelled (take i records) → new ≡ old ++ spelled r → new ≡ body spelled (take (i + 1) records)
one_spelled spelled records i r old new within at was is =
    is ∙ ap (λ l. l ++ spelled r) was ∙ sym (ap (body spelled) (take_more records i r within ∙ ap (λ x. take i records ++ x ∷ []) (sym at)) ∙ body_push spelled (take i records) r)

-- where there was room for one record more
pub few_more : {R : Type 0} (records new : List R) (r : R) (count : ℕ) → new ≡ records ++ r ∷ [] → count ≡ length records → (count ≡ 2048 → ⊥) → length records ≤ 2048 → length new ≤ 2048
few_more records new r count are is free few = omega (arith, ap length are, length-append records (r ∷ []), is, free, few)

-- some records and no bytes behind them are a batch
pub whole_batch : {R : Type 0} (spelled : R → List ℕ) (Valid : R → Type 0) (records : List R) (rest bytes : List ℕ) → AllByRecursion Valid records → body spelled records ++ rest ≡ bytes → length rest ≡ 0 → 0 < length records → length records ≤ 2048
    → length bytes < 2 ^ 32 → IsBatch spelled Valid records × (bytes ≡ body spelled records)
whole_batch spelled Valid records rest bytes valid read none some few short =
    let are : bytes ≡ body spelled records = sym read ∙ ap (λ l. body spelled records ++ l) (nil_from_length rest none) ∙ append-nil (body spelled records) in
    (record { some = some; few = few; valid = valid; short = subst (λ l. length l < 2 ^ 32) are short }, are)
